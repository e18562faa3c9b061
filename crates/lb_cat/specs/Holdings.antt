-- What users hold of security policies: labels and exemptions.
use Rattle.std.specs.Prelude.{ℕ, Bool, false, not, ◌&&◌, ◌||◌, List, [], ◌∷◌, filter, find, fold, Option, None, Some, is_some, is_none, unwrap_or, if◌then◌else◌}
use Rattle.std.specs.Str.{bytes_eq}
use Rattle.lb_base.specs.declared.rule.Rule.{Rule}
use Rattle.lb_base.specs.declared.rule.Rule.TheVariants as rules
use Rattle.lb_label.specs.declared.exemption.Exempt.{Exempt}
use Rattle.lb_label.specs.Exemption.{is_exempt, no_exemption, with_exemption}
use Rattle.lb_stmt.specs.declared.change.Exempted.{Exempted}
use Rattle.lb_stmt.specs.declared.change.Exempted.TheVariants as exempted
use Rattle.lb_rows.specs.Lists.{put, without}
use Rattle.lb_cat.specs.declared.catalog.Holding.{Holding}
use Rattle.lb_cat.specs.Catalog.{User}

-- nothing held of the policy
abbrev pub no_holding : List ℕ → Holding
no_holding policy = record { policy = policy; read = None; write = None; exempt = no_exemption }

-- no rule is exempted
abbrev pub exempts_none : Exempt → Bool
exempts_none x = not (x.read_array || x.read_set || x.read_tree || x.write_down || x.write_up || x.write_set || x.write_tree)

-- neither a label nor an exemption
abbrev pub is_empty_holding : Holding → Bool
is_empty_holding h = is_none h.read && is_none h.write && exempts_none h.exempt

-- the entry is of that policy
abbrev pub is_holding_of : List ℕ → Holding → Bool
is_holding_of policy h = bytes_eq h.policy policy

-- what the user holds of the policy
abbrev pub holding_of : List ℕ → User → Holding
holding_of policy u = unwrap_or (find (is_holding_of policy) u.held) (no_holding policy)

-- the entry in the place of the policy's; one that is empty is taken away
abbrev pub kept_holding : Holding → List Holding → List Holding
kept_holding h hs = if is_empty_holding h then without (is_holding_of h.policy) hs else put (is_holding_of h.policy) h hs

-- the user with the entry
abbrev pub with_holding : Holding → User → User
with_holding h u = record u { held = kept_holding h u.held }

-- the user has an entry for the policy
abbrev pub has_holding_of : List ℕ → User → Bool
has_holding_of policy u = is_some (find (is_holding_of policy) u.held)

-- the user without an entry for the policy
abbrev pub without_holding : List ℕ → User → User
without_holding policy u = record u { held = without (is_holding_of policy) u.held }

-- ---- labels

-- it is given and is that name
abbrev pub is_same_name : List ℕ → Option (List ℕ) → Bool
is_same_name n None = false
is_same_name n (Some m) = bytes_eq m n

-- the label is held, for reading or for writing
abbrev pub holds_label : List ℕ → Holding → Bool
holds_label label h = is_same_name label h.read || is_same_name label h.write

-- another label than this one
abbrev pub other_than : List ℕ → Option (List ℕ) → Option (List ℕ)
other_than label None = None
other_than label (Some m) = if bytes_eq m label then None else Some m

-- ---- exemptions

-- the seven rules of DB2LBACRULES
abbrev pub all_rules : List Rule
all_rules = rules.ReadArray ∷ rules.ReadSet ∷ rules.ReadTree ∷ rules.WriteDown ∷ rules.WriteUp ∷ rules.WriteSet ∷ rules.WriteTree ∷ []

-- the rules that an exemption is from: ALL is from all of them
abbrev pub rules_in : Exempted → List Rule
rules_in exempted.All = all_rules
rules_in (exempted.Rule rule) = rule ∷ []

-- exempted from these rules and no others
abbrev pub exempt_from : List Rule → Exempt
exempt_from rs = fold with_exemption no_exemption rs

-- with these exemptions besides
abbrev pub with_exemptions : Exempted → Exempt → Exempt
with_exemptions r x = fold with_exemption x (rules_in r)

-- the exemptions of x but for these
abbrev pub without_exemptions : Exempted → Exempt → Exempt
without_exemptions r x = exempt_from (filter (λ rule. is_exempt x rule && not (is_exempt (exempt_from (rules_in r)) rule)) all_rules)
