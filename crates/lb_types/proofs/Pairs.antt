-- Columns and the outputs that they take, pair by pair.
use Rattle.std.proofs.Common.{ℕ, ◌≡◌, ◌<◌, refl, ap, sym, ◌∙◌, List, [], ◌∷◌, Bool, true, false, ◌&&◌, drop, suc, length, get_or, arith}
use Rattle.std.specs.List.{drop-map}
use Rattle.std.proofs.Math.Seq.{drop-cons}
use Rattle.lb_names.specs.Kinds.{takes}
use Rattle.lb_names.specs.SelectLists.{each_takes}
use Rattle.lb_scope.specs.Found.{kind_in}
use Rattle.lb_scope.specs.declared.kind.Kind.{Kind}
use Rattle.lb_types.specs.Given.{kinds_in}

-- the heads of both, and what is left of them
pub takes_at : (ws ks : List Kind) (i : ℕ) (w k : Kind) → i < length ws → i < length ks → get_or ws i w ≡ w → get_or ks i k ≡ k
    → each_takes (kinds_in (drop i ws)) (kinds_in (drop i ks)) ≡ (takes (kind_in w) (kind_in k) && each_takes (kinds_in (drop (suc i) ws)) (kinds_in (drop (suc i) ks)))
takes_at ws ks i w k h g p q = λ j. each_takes (kinds_in ((drop-cons ws i w h ∙ ap (λ z. z ∷ drop (suc i) ws) p) j)) (kinds_in ((drop-cons ks i k g ∙ ap (λ z. z ∷ drop (suc i) ks) q) j))

-- no columns take more outputs than there are columns
pub takes_too_many : (ws ks : List Kind) → length ws < length ks → each_takes (kinds_in ws) (kinds_in ks) ≡ false
takes_too_many [] [] h = absurd (omega (arith, h))
takes_too_many [] (k ∷ ks) h = refl
takes_too_many (w ∷ ws) [] h = absurd (omega (arith, h))
takes_too_many (w ∷ ws) (k ∷ ks) h = ap (λ b. takes (kind_in w) (kind_in k) && b) (takes_too_many ws ks (omega (arith, h))) ∙ never (takes (kind_in w) (kind_in k)) where
  never : (b : Bool) → (b && false) ≡ false
  never true = refl
  never false = refl

-- what is left of kinds
pub drop_kinds : (n : ℕ) (ks : List Kind) → kinds_in (drop n ks) ≡ drop n (kinds_in ks)
drop_kinds n ks = sym (drop-map kind_in n ks)
