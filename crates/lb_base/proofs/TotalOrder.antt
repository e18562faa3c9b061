-- The order of values is total: it is that of their ranks, then of their numbers, then of their contents.
use Rattle.std.proofs.Common.{ℕ, Bool, true, false, ◌≡◌, refl, sym, ap, subst, ◌∙◌, List, []}
use Rattle.std.specs.Prelude.{ℤ, pos}
use Rattle.std.specs.Ordering.{nat_cmp, int_cmp, is_lt, ordering_then, ordering_reverse, on, then_cmp}
use Rattle.std.specs.Cmp.Lexicographic.{slice_cmp}
use Rattle.std.specs.Cmp.{IsTotalOrder, IsStrictWeakOrder}
use Rattle.std.specs.declared.cmp.Ordering.{Ordering}
use Rattle.std.specs.declared.cmp.Ordering.TheVariants.{Less, Equal, Greater}
use Rattle.std.proofs.lemmas.Cmp.{int_cmp_total, nat_cmp_total, nat_list_cmp_total, on_total, then_total}
use Rattle.lb_base.specs.declared.value.Value.{Value}
use Rattle.lb_base.specs.declared.value.Value.TheVariants.{Null, Int, Text, Date, Label}
use Rattle.lb_base.specs.Compare.{rank_of, order_of, stands_before}

abbrev number_in : Value → ℤ
number_in (Int x) = x
number_in (Date x) = x
number_in (Text x) = pos 0
number_in (Label p) = pos 0
number_in Null = pos 0

abbrev contents_in : Value → List ℕ
contents_in (Text x) = x
contents_in (Label p) = p.items
contents_in (Int x) = []
contents_in (Date x) = []
contents_in Null = []

abbrev by_parts : Value → Value → Ordering
by_parts = then_cmp (on rank_of nat_cmp) (then_cmp (on number_in int_cmp) (on contents_in (slice_cmp nat_cmp)))

parts_total : IsTotalOrder by_parts
parts_total = then_total (on_total rank_of nat_cmp_total) (then_total (on_total number_in int_cmp_total) (on_total contents_in nat_list_cmp_total))

then_nothing : (r : Ordering) → r ≡ ordering_then r Equal
then_nothing Less = refl
then_nothing Equal = refl
then_nothing Greater = refl

same : (a b : Value) → order_of a b ≡ by_parts a b
same (Int x) (Int y) = then_nothing (int_cmp x y)
same (Int x) (Text y) = refl
same (Int x) (Date y) = refl
same (Int x) (Label y) = refl
same (Int x) Null = refl
same (Text x) (Int y) = refl
same (Text x) (Text y) = refl
same (Text x) (Date y) = refl
same (Text x) (Label y) = refl
same (Text x) Null = refl
same (Date x) (Int y) = refl
same (Date x) (Text y) = refl
same (Date x) (Date y) = then_nothing (int_cmp x y)
same (Date x) (Label y) = refl
same (Date x) Null = refl
same (Label x) (Int y) = refl
same (Label x) (Text y) = refl
same (Label x) (Date y) = refl
same (Label x) (Label y) = refl
same (Label x) Null = refl
same Null (Int y) = refl
same Null (Text y) = refl
same Null (Date y) = refl
same Null (Label y) = refl
same Null Null = refl

pub order_total : IsTotalOrder order_of
order_total = subst IsTotalOrder (sym (λ i a b. same a b i)) parts_total

-- the test of a total order is one that a sort accepts
module _ {X : Type 0} {R : X → X → Ordering} (o : IsTotalOrder R) where
  one_way_at : (x y : X) (r : Ordering) → R x y ≡ r → is_lt r ≡ true → is_lt (R y x) ≡ false
  one_way_at x y Less e h = ap is_lt (o.antisymm y x ∙ ap ordering_reverse e)
  one_way_at x y Equal e h = absurd cc
  one_way_at x y Greater e h = absurd cc

  chain_at : (x y z : X) (r t : Ordering) → R x y ≡ r → R x z ≡ t → is_lt r ≡ false → is_lt (R y z) ≡ false → is_lt t ≡ false
  chain_at x y z Less t e f h k = absurd cc
  chain_at x y z Equal t e f h k = ap is_lt (sym f ∙ o.congr x y z e) ∙ k
  chain_at x y z Greater Less e f h k = ap is_lt (sym (o.trans y x z (o.antisymm y x ∙ ap ordering_reverse e) f)) ∙ k
  chain_at x y z Greater Equal e f h k = refl
  chain_at x y z Greater Greater e f h k = refl

  pub sortable : IsStrictWeakOrder (λ x y. is_lt (R x y))
  sortable = record {
    one_way = λ x y. one_way_at x y (R x y) refl;
    chain = λ x y z. chain_at x y z (R x y) (R x z) refl refl;
  }

pub order_sortable : IsStrictWeakOrder stands_before
order_sortable = sortable order_total
