-- The outputs of an INSERT's query are taken by the columns, one by one.
use Rattle.std.proofs.Common.{ℕ, pred, ◌+◌, ◌≡◌, refl, sym, subst, ap, ◌∙◌, Bool, true, false, not, ◌&&◌, ◌||◌, ◌==◌, List, [], ◌∷◌, ◌++◌, map, length, drop, Option, Some, None, Ok, if◌then◌else◌, append-nil, append_assoc, arith, eqb-true, length-append, suc-ne-zero}
use Rattle.std.specs.List.{AllZip, list_any}
use Rattle.lb_base.specs.declared.key.Ty.{Ty}
use Rattle.lb_base.specs.declared.value.Value.{Value}
use Rattle.lb_tree.specs.declared.query.Item.{Item}
use Rattle.lb_tree.specs.declared.query.Query.{Query}
use Rattle.lb_tree.specs.declared.query.Cond.TheOpen as layers
use Rattle.lb_tree.specs.declared.query.Cond.TheViews.{out-Query}
use Rattle.lb_tree.specs.declared.query.Cond.TheFolds.{ind-Item}
use Rattle.lb_tree.specs.Folds.{Written, item_layer, expr_of, query_of}
use Rattle.lb_tree.proofs.Opens.{item_roll, query_out}
use Rattle.lb_names.specs.declared.place.Seen.{Seen}
use Rattle.lb_names.specs.Kinds.{Kind, is_label, takes, kind_of}
use Rattle.lb_names.specs.Scopes.{Catalogue}
use Rattle.lb_names.specs.Typed.{Typed, next, only_if}
use Rattle.lb_names.specs.Places.{Place, all_free, shown_place}
use Rattle.lb_names.specs.Carriers as typed
use Rattle.lb_names.specs.SelectLists.{column_kinds, each_takes, taken, fit, star_fits, star_outputs, called, widths, outputs_of, rest_of, item_step}
use Rattle.lb_names.specs.Typing.{steps as typed_steps, wanted_of, is_width, query_kinds, groups_of, answers as typed_query}
use Rattle.lb_kinds.specs.HasKind.{Policies, HasKind, HasKinds}
use Rattle.lb_kinds.specs.Inserted.{InsertedRowsFit}
use Rattle.lb_kinds.proofs.Results.{same_ok, no_false, left_true, right_true}
use Rattle.lb_kinds.proofs.Typings.{Bound, bound, is_if}
use Rattle.lb_kinds.proofs.Listed.{NI, NLayer, tabs_of, ListOf, kinds_listed}
use Rattle.lb_kinds.proofs.Settings.{taken_fits}

-- columns take outputs, and then those after them take more
takes_more : (ws ks more : List Kind) → each_takes ws ks ≡ true → each_takes (drop (length ks) ws) more ≡ true → each_takes ws (ks ++ more) ≡ true
takes_more ws [] more g h = h
takes_more [] (k ∷ ks) more g h = absurd (no_false g)
takes_more (w ∷ ws) (k ∷ ks) more g h = both (takes w k) (each_takes ws (ks ++ more)) (left_true (takes w k) (each_takes ws ks) g) (takes_more ws ks more (right_true (takes w k) (each_takes ws ks) g) h)
  where
    both : (a b : Bool) → a ≡ true → b ≡ true → (a && b) ≡ true
    both true b e f = f
    both false b e f = absurd (no_false e)

taken_more : (o : Option (List Kind)) (ks more : List Kind) → taken o ks ≡ true → taken (rest_of o (length ks)) more ≡ true → taken o (ks ++ more) ≡ true
taken_more None ks more g h = refl
taken_more (Some ws) ks more g h = takes_more ws ks more g h

module _ (C : Catalogue) where
  -- the outputs of an item are as many as its width, and the columns take them
  abbrev Widths : typed.Shows → Type 0
  Widths m = (W : typed.Wanted) (P : Place) (n : ℕ) (y : List Kind × ℕ) → m.outputs W P n ≡ Ok y → (length y.0 ≡ m.width P.sight.own) × (taken W.kinds y.0 ≡ true)

  fitting : (W : typed.Wanted) (ks : List Kind) → fit W ks ≡ true → taken W.kinds ks ≡ true
  fitting W ks e = right_true (not (W.distinct && list_any is_label ks)) (taken W.kinds ks) e

  star_width : (W : typed.Wanted) (P : Place) (items : List Seen) (n : ℕ) (y : List Kind × ℕ) → star_outputs C items W P n ≡ Ok y → (length y.0 ≡ length (column_kinds C items)) × (taken W.kinds y.0 ≡ true)
  star_width W P items n y e =
      let b : (star_fits C items W P ≡ true) × ◌≡◌ {A = List Kind × ℕ} (column_kinds C items, next n) y = is_if (star_fits C items W P) n (column_kinds C items, next n) y e in
      subst (λ z. (length z.0 ≡ length (column_kinds C items)) × (taken W.kinds z.0 ≡ true)) b.1
      (refl, fitting W (column_kinds C items) (right_true (all_free P C items) (fit W (column_kinds C items)) (right_true (not (P.stored && (W.one || W.grouped))) (all_free P C items && fit W (column_kinds C items)) b.0)))

  item_width : (x : Written layers.Item-F) → Widths (item_step C (item_layer typed.typing (typed_steps C) x))
  item_width layers.Item-F.Everything W P n y e = star_width W P P.sight.own n y e
  item_width (layers.Item-F.AllOf x) W P n y e = star_width W P (called x P.sight.own) n y e
  item_width (layers.Item-F.Value x name) W P n y e =
      let m : typed.Means = expr_of typed.typing (typed_steps C) x in
      let b : Bound (m.kind P n) (λ z. only_if (fit W (z.0 ∷ [])) n (z.0 ∷ [], z.1)) y = bound (m.kind P n) (λ z. only_if (fit W (z.0 ∷ [])) n (z.0 ∷ [], z.1)) y e in
      let i : (fit W (b.0.0 ∷ []) ≡ true) × ◌≡◌ {A = List Kind × ℕ} (b.0.0 ∷ [], b.0.1) y = is_if (fit W (b.0.0 ∷ [])) n (b.0.0 ∷ [], b.0.1) y b.2 in
      subst (λ z. (length z.0 ≡ 1) × (taken W.kinds z.0 ≡ true)) i.1 (refl, fitting W (b.0.0 ∷ []) i.0)

  -- nothing is claimed of the other nodes
  abbrev Any : {X : Type 0} → X → Type 0
  Any x = Unit {0}

  widths_of : (x : Item) → Widths ((NI C) x)
  widths_of = ind-Item Any Any (λ x. Widths ((NI C) x)) Any Any Any Any Any Any (λ x y is. tt) (λ x y is. tt) (λ x y is. subst Widths (sym (item_roll typed.typing (typed_steps C) x)) (item_width x)) (λ x y is. tt) (λ x y is. tt) (λ x y is. tt) (λ x y is. tt) (λ x y is. tt) (λ x y is. tt)

  abbrev More : List Kind → ℕ → Option (List Kind) → List Kind → Type 0
  More so_far width wanted ks = (more : List Kind) × (ks ≡ so_far ++ more) × (length more ≡ width) × (taken wanted more ≡ true)

  none_taken : (o : Option (List Kind)) → taken o [] ≡ true
  none_taken None = refl
  none_taken (Some []) = refl
  none_taken (Some (w ∷ ws)) = refl

  list_widths : (xs : List Item) (so_far : List Kind) (W : typed.Wanted) (P : Place) (n : ℕ) (y : List Kind × ℕ) → outputs_of (map (NI C) xs) so_far W P n ≡ Ok y → More so_far (widths (map (NI C) xs) P.sight.own) W.kinds y.0
  list_widths [] so_far W P n y e = ([], ap (λ z. z.0) (sym (same_ok {B = ℕ} (so_far, n) y e)) ∙ sym (append-nil so_far), refl, none_taken W.kinds)
  list_widths (x ∷ xs) so_far W P n y e =
      let f : List Kind × ℕ → Typed (List Kind) = λ z. outputs_of (map (NI C) xs) (so_far ++ z.0) (record W { kinds = rest_of W.kinds (length z.0) }) P z.1 in
      let b : Bound (((NI C) x).outputs W P n) f y = bound (((NI C) x).outputs W P n) f y e in
      let i : (length b.0.0 ≡ ((NI C) x).width P.sight.own) × (taken W.kinds b.0.0 ≡ true) = widths_of x W P n b.0 b.1 in
      let r : More (so_far ++ b.0.0) (widths (map (NI C) xs) P.sight.own) (rest_of W.kinds (length b.0.0)) y.0 = list_widths xs (so_far ++ b.0.0) (record W { kinds = rest_of W.kinds (length b.0.0) }) P b.0.1 y b.2 in
      (b.0.0 ++ r.0, r.1 ∙ append_assoc so_far b.0.0 r.0, length-append b.0.0 r.0 ∙ sums (length b.0.0) (length r.0) (((NI C) x).width P.sight.own) (widths (map (NI C) xs) P.sight.own) i.0 r.2, taken_more W.kinds b.0.0 r.0 i.1 r.3)
    where
      sums : (a b c d : ℕ) → a ≡ c → b ≡ d → a + b ≡ c + d
      sums a b c d p q = omega arith

-- values of kinds that columns take fit the columns
row_taken : (policies : Policies) (tys : List Ty) (ks : List Kind) (row : List Value) → length (map kind_of tys) ≡ length ks → each_takes (map kind_of tys) ks ≡ true → HasKinds policies ks row → AllZip (λ ty v. HasKind policies (kind_of ty) v) tys row
row_taken policies [] [] [] l t h = tt
row_taken policies tys [] (v ∷ row) l t h = absurd h
row_taken policies (ty ∷ tys) [] [] l t h = absurd (suc-ne-zero (length (map kind_of tys)) l)
row_taken policies [] (k ∷ ks) row l t h = absurd (no_false t)
row_taken policies (ty ∷ tys) (k ∷ ks) [] l t h = absurd h
row_taken policies (ty ∷ tys) (k ∷ ks) (v ∷ row) l t h = (
  taken_fits policies ty k v (left_true (takes (kind_of ty) k) (each_takes (map kind_of tys) ks) t) h.0,
  row_taken policies tys ks row (ap pred l) (right_true (takes (kind_of ty) k) (each_takes (map kind_of tys) ks) t) h.1,
)

module _ (C : Catalogue) (policies : Policies) (tys : List Ty) where
  -- the columns take the outputs of a select list of the right width
  pairs : (b : Bool) (w n : ℕ) (ks : List Kind) → (length (map kind_of tys) == w) ≡ b → w ≡ n → (length (map kind_of tys) == n) ≡ true → taken (if b then Some (map kind_of tys) else None) ks ≡ true → each_takes (map kind_of tys) ks ≡ true
  pairs true w n ks e p q t = t
  pairs false w n ks e p q t = absurd (no_false (sym e ∙ subst (λ z. (length (map kind_of tys) == z) ≡ true) (sym p) q))

  layer_row : (x : Written layers.Query-F) (R : typed.Role) → R.wanted ≡ Some (map kind_of tys) → (P : Place) (n m : ℕ) (ks : List Kind) → query_kinds C (NLayer C x) (tabs_of C x) (groups_of C (NLayer C x) R P) R P n ≡ Ok (ks, m)
      → (row : List Value) → HasKinds policies ks row → AllZip (λ ty v. HasKind policies (kind_of ty) v) tys row
  layer_row x R wanted P n m ks e row h =
      let l : ListOf C x R P n ks = kinds_listed C x R P n ks m e in
      let W : typed.Wanted = wanted_of (NLayer C x) R P in
      let own : List Seen = (shown_place P (tabs_of C x) (groups_of C (NLayer C x) R P)).sight.own in
      let r : (more : List Kind) × (l.0.0 ≡ [] ++ more) × (length more ≡ widths (map (NI C) x.items) own) × (taken W.kinds more ≡ true) = list_widths C x.items [] W (shown_place P (tabs_of C x) (groups_of C (NLayer C x) R P)) (next n) l.0 l.1 in
      let same : r.0 ≡ ks = sym r.1 ∙ l.2 in
      let fits : is_width R.wanted (length ks) ≡ true = right_true (not R.one || (length ks == 1)) (is_width R.wanted (length ks)) (right_true (not R.subquery || P.subqueries) ((not R.one || (length ks == 1)) && is_width R.wanted (length ks)) l.3) in
      let as_many : (length (map kind_of tys) == length ks) ≡ true = subst (λ o. is_width o (length ks) ≡ true) wanted fits in
      let own_takes : taken (if is_width (Some (map kind_of tys)) (widths (map (NI C) x.items) own) then Some (map kind_of tys) else None) ks ≡ true =
      subst (λ o. taken (if is_width o (widths (map (NI C) x.items) own) then o else None) ks ≡ true) wanted (subst (λ k. taken W.kinds k ≡ true) same r.3) in
      row_taken policies tys ks row (eqb-true (length (map kind_of tys)) (length ks) as_many)
      (pairs (length (map kind_of tys) == widths (map (NI C) x.items) own) (widths (map (NI C) x.items) own) (length ks) ks refl (sym (sym (ap length same) ∙ r.2)) as_many own_takes) h

  abbrev RowLaw : typed.Answers → Type 0
  RowLaw m = (R : typed.Role) → R.wanted ≡ Some (map kind_of tys) → (P : Place) (n j : ℕ) (ks : List Kind) → m.kinds R P n ≡ Ok (ks, j) → (row : List Value) → HasKinds policies ks row → AllZip (λ ty v. HasKind policies (kind_of ty) v) tys row

  query_row : (q : Query) → RowLaw (query_of typed.typing (typed_steps C) q)
  query_row q = subst RowLaw (sym (query_out typed.typing (typed_steps C) q)) (layer_row (out-Query q))

pub inserted_rows_fit : InsertedRowsFit
unfolding typed_query
inserted_rows_fit C policies tys q R wanted P n m ks e row h = query_row C policies tys q R wanted P n m ks e row h
