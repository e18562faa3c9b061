-- What a key of ORDER BY stands for.
use Rattle.std.proofs.Common.{ℕ, ◌≡◌, ◌<◌, ◌-◌, refl, ap, sym, subst, ◌∙◌, Bool, List, Option, Some, Ok, zero, suc, arith}
use Rattle.std.specs.Prelude.{ℤ, pos, negsuc, Result, unsigned_abs, slice_get, option_map}
use Rattle.std.specs.Int.{FitsUnsignedBits}
use Rattle.std.proofs.lemmas.Option.{slice_get-map}
use Rattle.lb_tree.specs.declared.query.Expr.{Expr}
use Rattle.lb_tree.specs.declared.query.Item.{Item}
use Rattle.lb_names.specs.Kinds as kinds
use Rattle.lb_names.specs.OrderTyping.{key_typed, item_key, other_key, output_at, output_key}
use Rattle.lb_names.specs.Places.{Place}
use Rattle.lb_names.specs.Scopes.{Catalogue}
use Rattle.lb_names.specs.SortNames.{meant, position}
use Rattle.lb_names.specs.Typed.{Typed, ◌>>=◌}
use Rattle.lb_names.specs.Typing.{means}
use Rattle.lb_scope.specs.declared.kind.Kind.{Kind}
use Rattle.lb_scope.specs.Found.{kind_in}
use Rattle.lb_types.specs.declared.stop.Stop.{Stop}
use Rattle.lb_types.specs.Given.{Goes, kinds_in}

-- the output with that number, counted from 1
pub nth_is : (n : ℕ) (ks : List Kind) → 0 < n → output_at (pos n) (kinds_in ks) ≡ option_map kind_in (slice_get ks (n - 1))
nth_is zero ks h = absurd (omega (arith, h))
nth_is (suc m) ks h =
    let before : m ≡ suc m - 1 = omega arith in
    slice_get-map kind_in ks m ∙ ap (λ k. option_map kind_in (slice_get ks k)) before

-- a number that isn't negative is its own amount
pub amount_is : (z : ℤ) → FitsUnsignedBits 64 z → pos (unsigned_abs z) ≡ z
amount_is (pos n) h = refl
amount_is (negsuc n) h = absurd h

module _ (C : Catalogue) (P : Place) (distinct : Bool) (items : List Item) (ks : List kinds.Kind) where
  -- a key that is an integer
  pub by_number : (r : Result ℕ Stop) (e : Expr) (at : ℕ) (n : ℤ) (o : Option kinds.Kind) → Some n ≡ position e → o ≡ output_at n ks → Goes r (output_key C o at) → Goes r (other_key C P distinct items ks e (position e) at)
  by_number r e at n o h g k = subst (λ z. Goes r (other_key C P distinct items ks e z at)) h (subst (λ z. Goes r (output_key C z at)) g k)

  -- a key that is an output name
  pub by_name : (r : Result ℕ Stop) (e f : Expr) (at n : ℕ) (k : kinds.Kind) → Some f ≡ meant items e → (means C f).kind P at ≡ Ok (k, n) → Goes r (item_key C at k) → Goes r (key_typed C P distinct items ks e (meant items e) at)
  by_name r e f at n k h g j = subst (λ z. Goes r (key_typed C P distinct items ks e z at)) h (subst (λ (y : Typed kinds.Kind). Goes r (y >>= λ x. item_key C at x.0)) (sym g) j)
