-- Two catalogues that say the same of everything that is mentioned.
use Rattle.std.specs.Prelude.{◌≡◌, true, [], ◌∷◌}
use Rattle.lb_names.specs.Sights.{Name}
use Rattle.lb_names.specs.Mentions.{Mention, Mentions, table, policy, label}
use Rattle.lb_names.specs.Scopes.{Catalogue, is_some}

-- the columns of a table; a policy and its label texts; a policy and one of its labels
abbrev pub Agree : Catalogue → Catalogue → Mention → Type 0
Agree C D (table n) = C.columns n ≡ D.columns n
Agree C D (policy p) = (C.has_policy p ≡ D.has_policy p) × ((text : Name) → C.label_fault p text ≡ D.label_fault p text)
Agree C D (label p l) = (C.has_policy p ≡ D.has_policy p) × (C.has_label p l ≡ D.has_label p l)

-- they agree on each of these
abbrev pub AgreeOn : Catalogue → Catalogue → Mentions → Type 0
AgreeOn C D [] = Unit {0}
AgreeOn C D (m ∷ ms) = Agree C D m × AgreeOn C D ms

-- the catalogue has what is mentioned
abbrev pub IsThere : Catalogue → Mention → Type 0
IsThere C (table n) = is_some (C.columns n) ≡ true
IsThere C (policy p) = C.has_policy p ≡ true
IsThere C (label p l) = (C.has_policy p ≡ true) × (C.has_label p l ≡ true)

-- it has each of these
abbrev pub AreThere : Catalogue → Mentions → Type 0
AreThere C [] = Unit {0}
AreThere C (m ∷ ms) = IsThere C m × AreThere C ms
