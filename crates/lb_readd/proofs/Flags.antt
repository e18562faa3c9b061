-- What the options of a column say that were read so far, and those that follow.
use Rattle.std.proofs.Common.{Bool, true, false, ◌||◌, not, ◌≡◌, List, [], ◌∷◌, refl, ap, ◌∙◌, sym}
use Rattle.lb_tok.specs.Changes.{any_is}
use Rattle.lb_readd.specs.declared.table.Options.{Options}

abbrev pub flags : Options → List Bool → Bool × Bool
flags w os = (w.not_null || any_is false os, w.key || any_is true os)

or_false : (b : Bool) → (b || false) ≡ b
or_false true = refl
or_false false = refl

pub flags_none : (w : Options) → flags w [] ≡ (w.not_null, w.key)
flags_none w = ap (λ (b : Bool). (b, w.key || false)) (or_false w.not_null) ∙ ap (λ (b : Bool). (w.not_null, b)) (or_false w.key)

one_more : (n k x : Bool) (xs : List Bool) → ◌≡◌ {A = Bool × Bool} (n || any_is false (x ∷ xs), k || any_is true (x ∷ xs)) ((n || not x) || any_is false xs, (k || x) || any_is true xs)
one_more true true true xs = refl
one_more true true false xs = refl
one_more true false true xs = refl
one_more true false false xs = refl
one_more false true true xs = refl
one_more false true false xs = refl
one_more false false true xs = refl
one_more false false false xs = refl

pub flags_with : (w v : Options) (x : Bool) → v.not_null ≡ (w.not_null || not x) → v.key ≡ (w.key || x) → (xs : List Bool) → flags w (x ∷ xs) ≡ flags v xs
flags_with w v x n k xs =
    one_more w.not_null w.key x xs
    ∙ ap (λ (b : Bool). (b || any_is false xs, (w.key || x) || any_is true xs)) (sym n)
    ∙ ap (λ (b : Bool). (v.not_null || any_is false xs, b || any_is true xs)) (sym k)
