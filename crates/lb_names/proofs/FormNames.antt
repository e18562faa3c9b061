-- The names of a stored condition's qualified form are not refused, where those of the condition are not.
use Rattle.std.proofs.Common.{◌≡◌, refl, ap, sym, subst, ◌∙◌, List, [], ◌∷◌, true, false, cond, ◌||◌, Option, Some, None, Ok, Err}
use Rattle.std.specs.Str.{bytes_eq}
use Rattle.std.proofs.lemmas.Slice.Eq.{bytes_eq-Decides}
use Rattle.lb_tree.specs.declared.query.Column.{Column}
use Rattle.lb_tree.specs.declared.query.Tab.{Tab}
use Rattle.lb_tree.specs.declared.query.Cond.{Cond}
use Rattle.lb_tree.specs.declared.query.Expr.{Expr}
use Rattle.lb_names.specs.declared.place.Seen.{Seen}
use Rattle.lb_names.specs.declared.refused.Refused.{Refused}
use Rattle.lb_names.specs.Sights.{Name, correlation, Sight}
use Rattle.lb_names.specs.SortNames.{or_else}
use Rattle.lb_names.specs.Marks.{Mark, enter, item, column, star, call, Marks, cond_marks, expr_marks}
use Rattle.lb_names.specs.StatementMarks.{over, permission_marks, mask_marks}
use Rattle.lb_names.specs.Scopes.{Field, Catalogue, Resolved, listed, field_named, columns_of, found_in, column_of, qualified, resolve}
use Rattle.lb_names.specs.Passes.{first, is_called, item_refusal, unresolved, unless_known, column_refusal, call_refusal, text_refusal, passes}
use Rattle.lb_names.specs.Qualify.{by_item, with_item, qualified_cond, qualified_expr}
use Rattle.lb_names.specs.Statements.{permission_names_refused, permission_qualified, mask_names_refused, mask_qualified}
use Rattle.lb_names.specs.Laws.{are_apart}
use Rattle.lb_names.proofs.There.{neither}
use Rattle.lb_names.proofs.Stays.{column_stays}
use Rattle.lb_names.proofs.Apart.{IsApart, AllApart, Good, Taken}
use Rattle.lb_names.proofs.ApartMarks.{apart_cond, apart_expr}
use Rattle.lb_names.proofs.FormMarks.{MarkLike, MarksLike, form_cond, form_expr}
use Rattle.lb_names.proofs.LikeSights.{SeenLikes, SightLike}

module _ (C : Catalogue) where
  -- ---- columns

  same_name : (n : Name) (s t : Seen) (o : Option Field) → unresolved (found_in n s o) ≡ unresolved (found_in n t o)
  same_name n s t None = refl
  same_name n s t (Some f) = refl

  qualified_like : (y n : Name) (seen others : List Seen) → SeenLikes seen others → unresolved (qualified C y n seen) ≡ unresolved (qualified C y n others)
  qualified_like y n [] [] h = refl
  qualified_like y n (s ∷ seen) (t ∷ others) h =
      let here : unresolved (column_of C n s) ≡ unresolved (column_of C n t) = (λ i. unresolved (found_in n s (field_named n (listed (C.columns (h.0.1.0 i)))))) ∙ same_name n s t (field_named n (columns_of C t.tab)) in
      (λ i. unresolved (cond (bytes_eq (h.0.1.1 i) y) (column_of C n s) (qualified C y n seen)))
      ∙ elim (bytes_eq (correlation t.tab) y) as (λ b. unresolved (cond b (column_of C n s) (qualified C y n seen)) ≡ unresolved (cond b (column_of C n t) (qualified C y n others))) [
        | true ↦ here
        | false ↦ qualified_like y n seen others h.1
      ]
  qualified_like y n [] (t ∷ others) h = absurd h
  qualified_like y n (s ∷ seen) [] h = absurd h

  known_stays : (seen others : List Seen) → SeenLikes seen others → are_apart seen ≡ true → (c : Column) (r : Resolved) → resolve C seen c ≡ r → unresolved r ≡ None → unresolved (resolve C others (with_item C seen c)) ≡ None
  known_stays seen others h a c (Ok x) e k =
      ap (λ z. unresolved (resolve C others (by_item c z))) e
      ∙ sym (qualified_like (correlation x.item.tab) c.name seen others h)
      ∙ ap unresolved (sym (ap (λ z. resolve C seen (by_item c z)) e) ∙ column_stays C seen c x a e)
  known_stays seen others h a c (Err n) e k = absurd cc

  called_like : (x : Name) (items others : List Seen) → SeenLikes items others → is_called x items ≡ is_called x others
  called_like x [] [] h = refl
  called_like x (s ∷ items) (t ∷ others) h = λ i. bytes_eq (h.0.1.1 i) x || called_like x items others h.1 i
  called_like x [] (t ∷ others) h = absurd h
  called_like x (s ∷ items) [] h = absurd h

  star_stays : (items others : List Seen) → SeenLikes items others → (x : Option Name) → column_refusal C (star items x) ≡ None → column_refusal C (star others x) ≡ None
  star_stays items others h None k = refl
  star_stays items others h (Some x) k = (λ i. unless_known (sym (called_like x items others h) i) x) ∙ k

  -- ---- the passes

  column_mark : (m n : Mark) → MarkLike C m n → IsApart m → column_refusal C m ≡ None → column_refusal C n ≡ None
  column_mark (enter items) (enter others) h a k = refl
  column_mark (item before around tab) (item names outer other) h a k = refl
  column_mark (column seen c) (column others d) h a k = subst (λ z. unresolved (resolve C others z) ≡ None) (sym h.1) (known_stays seen others h.0 a c (resolve C seen c) refl k)
  column_mark (star items x) (star others y) h a k = subst (λ z. column_refusal C (star others z) ≡ None) h.1 (star_stays items others h.0 x k)
  column_mark (call a) (call b) h p k = refl
  column_mark m n h a k = absurd h

  item_mark : (m n : Mark) → MarkLike C m n → item_refusal C true m ≡ item_refusal C true n
  item_mark (enter items) (enter others) h = refl
  item_mark (item before around tab) (item names outer other) h = λ i. item_refusal C true (item (h.0 i) (h.1.0 i) (h.1.1 i))
  item_mark (column seen c) (column others d) h = refl
  item_mark (star items x) (star others y) h = refl
  item_mark (call a) (call b) h = refl
  item_mark m n h = absurd h

  call_mark : (m n : Mark) → MarkLike C m n → call_refusal C m ≡ call_refusal C n
  call_mark (enter items) (enter others) h = refl
  call_mark (item before around tab) (item names outer other) h = refl
  call_mark (column seen c) (column others d) h = refl
  call_mark (star items x) (star others y) h = refl
  call_mark (call a) (call b) h = h.0
  call_mark m n h = absurd h

  text_mark : (m n : Mark) → MarkLike C m n → text_refusal C m ≡ text_refusal C n
  text_mark (enter items) (enter others) h = refl
  text_mark (item before around tab) (item names outer other) h = refl
  text_mark (column seen c) (column others d) h = refl
  text_mark (star items x) (star others y) h = refl
  text_mark (call a) (call b) h = h.1
  text_mark m n h = absurd h

  first_same : (f : Mark → Option Refused) → ((m n : Mark) → MarkLike C m n → f m ≡ f n) → (ms ns : Marks) → MarksLike C ms ns → first f ms ≡ first f ns
  first_same f k [] [] h = refl
  first_same f k (m ∷ ms) (n ∷ ns) h = λ i. or_else (k m n h.0 i) (first_same f k ms ns h.1 i)
  first_same f k [] (n ∷ ns) h = absurd h
  first_same f k (m ∷ ms) [] h = absurd h

  columns_stay : (ms ns : Marks) → MarksLike C ms ns → AllApart ms → first (column_refusal C) ms ≡ None → first (column_refusal C) ns ≡ None
  columns_stay [] [] h a k = refl
  columns_stay (m ∷ ms) (n ∷ ns) h a k =
      let e : (column_refusal C m ≡ None) × (first (column_refusal C) ms ≡ None) = neither (column_refusal C m) (first (column_refusal C) ms) k in
      λ i. or_else (column_mark m n h.0 a.0 e.0 i) (columns_stay ms ns h.1 a.1 e.1 i)
  columns_stay [] (n ∷ ns) h a k = absurd h
  columns_stay (m ∷ ms) [] h a k = absurd h

  pub all_taken : (ms : Marks) → first (item_refusal C true) ms ≡ None → Taken C ms
  all_taken [] h = tt
  all_taken (m ∷ ms) h = let e : (item_refusal C true m ≡ None) × (first (item_refusal C true) ms ≡ None) = neither (item_refusal C true m) (first (item_refusal C true) ms) h in (e.0, all_taken ms e.1)

  pub items_none : (ms : Marks) → passes C true ms None ≡ None → first (item_refusal C true) ms ≡ None
  items_none ms h = (neither (first (item_refusal C true) ms) (or_else (first (column_refusal C) ms) (or_else (first (call_refusal C) ms) (first (text_refusal C) ms))) h).0

  passes_stay : (ms ns : Marks) → MarksLike C ms ns → AllApart ms → passes C true ms None ≡ None → passes C true ns None ≡ None
  passes_stay ms ns l a h =
      let items : (first (item_refusal C true) ms ≡ None) × (or_else (first (column_refusal C) ms) (or_else (first (call_refusal C) ms) (first (text_refusal C) ms)) ≡ None) = neither (first (item_refusal C true) ms) (or_else (first (column_refusal C) ms) (or_else (first (call_refusal C) ms) (first (text_refusal C) ms))) h in
      let columns : (first (column_refusal C) ms ≡ None) × (or_else (first (call_refusal C) ms) (first (text_refusal C) ms) ≡ None) = neither (first (column_refusal C) ms) (or_else (first (call_refusal C) ms) (first (text_refusal C) ms)) items.1 in
      (λ i. or_else (sym (first_same (item_refusal C true) item_mark ms ns l) i) (or_else (columns_stay ms ns l a columns.0 i) (or_else (sym (first_same (call_refusal C) call_mark ms ns l) i) (sym (first_same (text_refusal C) text_mark ms ns l) i))))
      ∙ (λ i. or_else (items.0 i) (columns.1 i))

  -- ---- stored conditions

  pub over_like : (tab other : Tab) → tab.table ≡ other.table → correlation tab ≡ correlation other → SightLike (over tab) (over other)
  over_like tab other t n = (refl, (((refl, (t, n)), tt), (((refl, (t, n)), tt), λ i. n i ∷ [])))

  pub over_good : (tab : Tab) → Good (over tab)
  over_good tab = (refl, ((λ i. (bytes_eq-Decides (correlation tab) (correlation tab)).1 refl i || false), tt))

  cond_like : (c : Cond) (v w : Sight) → SightLike v w → MarksLike C (cond_marks c v) (cond_marks (qualified_cond C c v.seen) w)
  unfolding cond_marks qualified_cond
  cond_like c v w s = form_cond C c v w s

  expr_like : (e : Expr) (v w : Sight) → SightLike v w → MarksLike C (expr_marks e v) (expr_marks (qualified_expr C e v.seen) w)
  unfolding expr_marks qualified_expr
  expr_like e v w s = form_expr C e v w s

  pub cond_apart : (c : Cond) (v : Sight) → Good v → Taken C (cond_marks c v) → AllApart (cond_marks c v)
  unfolding cond_marks
  cond_apart c v g t = apart_cond C c v g t

  pub expr_apart : (e : Expr) (v : Sight) → Good v → Taken C (expr_marks e v) → AllApart (expr_marks e v)
  unfolding expr_marks
  expr_apart e v g t = apart_expr C e v g t

  pub permission_form_stays : (tab other : Tab) → tab.table ≡ other.table → correlation tab ≡ correlation other → (c : Cond) → permission_names_refused C tab c ≡ None → permission_names_refused C other (permission_qualified C tab c) ≡ None
  permission_form_stays tab other t n c h =
      passes_stay (permission_marks tab c) (permission_marks other (permission_qualified C tab c)) (tt, cond_like c (over tab) (over other) (over_like tab other t n))
      (tt, cond_apart c (over tab) (over_good tab) (all_taken (permission_marks tab c) (items_none (permission_marks tab c) h)).1) h

  pub mask_form_stays : (tab other : Tab) → tab.table ≡ other.table → correlation tab ≡ correlation other → (e : Expr) → mask_names_refused C tab e ≡ None → mask_names_refused C other (mask_qualified C tab e) ≡ None
  mask_form_stays tab other t n e h =
      passes_stay (mask_marks tab e) (mask_marks other (mask_qualified C tab e)) (tt, expr_like e (over tab) (over other) (over_like tab other t n))
      (tt, expr_apart e (over tab) (over_good tab) (all_taken (mask_marks tab e) (items_none (mask_marks tab e) h)).1) h
