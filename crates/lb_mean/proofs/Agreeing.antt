-- Agreement on two lists of mentions is agreement on both.
use Rattle.std.proofs.Common.{[], ◌∷◌, ◌++◌}
use Rattle.lb_names.specs.Mentions.{Mention, Mentions}
use Rattle.lb_mean.specs.Frame.{Agrees}

module _ (A : Mention → Type 0) where
  pub first : (xs ys : Mentions) → Agrees A (xs ++ ys) → Agrees A xs
  first [] ys h = tt
  first (x ∷ xs) ys h = (h.0, first xs ys h.1)

  pub second : (xs ys : Mentions) → Agrees A (xs ++ ys) → Agrees A ys
  second [] ys h = h
  second (x ∷ xs) ys h = second xs ys h.1

  pub both : (xs ys : Mentions) → Agrees A xs → Agrees A ys → Agrees A (xs ++ ys)
  both [] ys g h = h
  both (x ∷ xs) ys g h = (g.0, both xs ys g.1 h)

-- what follows from each agreement
pub weaker : (A B : Mention → Type 0) → ((m : Mention) → A m → B m) → (ms : Mentions) → Agrees A ms → Agrees B ms
weaker A B f [] h = tt
weaker A B f (m ∷ ms) h = (f m h.0, weaker A B f ms h.1)
