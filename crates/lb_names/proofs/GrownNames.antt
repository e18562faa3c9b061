-- The names of a qualified condition are not refused when tables get more columns.
use Rattle.std.proofs.Common.{◌≡◌, refl, ap, sym, subst, ◌∙◌, List, [], ◌∷◌, ◌++◌, Bool, true, false, cond, Option, Some, None, Ok, Err}
use Rattle.std.specs.Str.{bytes_eq}
use Rattle.lb_tree.specs.declared.query.Atom.{Atom}
use Rattle.lb_tree.specs.declared.query.Atom.TheVariants as atoms
use Rattle.lb_tree.specs.declared.query.Column.{Column}
use Rattle.lb_tree.specs.declared.query.Tab.{Tab}
use Rattle.lb_tree.specs.declared.query.Cond.{Cond}
use Rattle.lb_tree.specs.declared.query.Expr.{Expr}
use Rattle.lb_names.specs.declared.place.Seen.{Seen}
use Rattle.lb_names.specs.declared.refused.Refused.{Refused}
use Rattle.lb_names.specs.declared.refused.Refused.TheVariants.{Unknown, Exists}
use Rattle.lb_names.specs.Sights.{Name, correlation, Sight}
use Rattle.lb_names.specs.SortNames.{or_else}
use Rattle.lb_names.specs.Marks.{Mark, enter, item, column, star, call, Marks, cond_marks, expr_marks}
use Rattle.lb_names.specs.StatementMarks.{over, permission_marks, mask_marks}
use Rattle.lb_names.specs.Scopes.{Field, Catalogue, Found, Resolved, is_some, listed, field_named, columns_of, found_in, column_of, qualified, resolved_as, resolve}
use Rattle.lb_names.specs.Passes.{first, is_taken, refusal_if, item_refusal, unresolved, unless_known, column_refusal, call_refusal, call_refusal_of, fault, text_refusal, text_refusal_of, passes}
use Rattle.lb_names.specs.Statements.{permission_names_refused, mask_names_refused}
use Rattle.lb_names.specs.Qualified.{has_correlation, are_qualified, are_qualified_in}
use Rattle.lb_names.specs.Growing.{IsLonger, IsLongerIfThere, IsGrown}
use Rattle.lb_names.proofs.There.{neither}
use Rattle.lb_names.proofs.QualifiedMarks.{IsWritten, AllWritten, written_cond, written_expr}

module _ (C D : Catalogue) (g : IsGrown C D) where
  -- ---- columns

  both_there : (o p : Option (List Field)) → IsLongerIfThere o p → is_some o ≡ is_some p
  both_there None None h = refl
  both_there (Some x) (Some y) h = refl
  both_there None (Some y) h = absurd h
  both_there (Some x) None h = absurd h

  -- the columns of a table in the second catalogue
  pub longer : (o p : Option (List Field)) → IsLongerIfThere o p → IsLonger (listed o) (listed p)
  longer None None h = record { more = []; same = refl; plain = refl; some = λ k. k }
  longer (Some x) (Some y) h = h
  longer None (Some y) h = absurd h
  longer (Some x) None h = absurd h

  found_first : (n : Name) (fields more : List Field) (f : Field) → field_named n fields ≡ Some f → field_named n (fields ++ more) ≡ Some f
  found_first n [] more f h = absurd cc
  found_first n (x ∷ fields) more f h =
      elim (bytes_eq x.name n) as (λ b. cond b (Some x) (field_named n fields) ≡ Some f → cond b (Some x) (field_named n (fields ++ more)) ≡ Some f) [
        | true ↦ λ k. k
        | false ↦ λ k. found_first n fields more f k
      ] h

  pub field_stays : (n : Name) (tab : Tab) (f : Field) → field_named n (columns_of C tab) ≡ Some f → field_named n (columns_of D tab) ≡ Some f
  field_stays n tab f h =
      let l : IsLonger (columns_of C tab) (columns_of D tab) = longer (C.columns tab.table) (D.columns tab.table) (g.columns tab.table) in
      subst (λ fields. field_named n fields ≡ Some f) (sym l.same) (found_first n (columns_of C tab) l.more f h)

  in_item : (n : Name) (s : Seen) (x : Found) (o : Option Field) → field_named n (columns_of C s.tab) ≡ o → found_in n s o ≡ Ok x → column_of D n s ≡ Ok x
  in_item n s x None e h = absurd cc
  in_item n s x (Some f) e h = ap (found_in n s) (field_stays n s.tab f e) ∙ h

  qualified_stays : (y n : Name) (seen : List Seen) (x : Found) → qualified C y n seen ≡ Ok x → qualified D y n seen ≡ Ok x
  qualified_stays y n [] x h = absurd cc
  qualified_stays y n (s ∷ seen) x h =
      elim (bytes_eq (correlation s.tab) y) as (λ b. cond b (column_of C n s) (qualified C y n seen) ≡ Ok x → cond b (column_of D n s) (qualified D y n seen) ≡ Ok x) [
        | true ↦ λ k. in_item n s x (field_named n (columns_of C s.tab)) refl k
        | false ↦ λ k. qualified_stays y n seen x k
      ] h

  name_stays : (o : Option Name) (n : Name) (seen : List Seen) (x : Found) → is_some o ≡ true → resolved_as C o n seen ≡ Ok x → resolved_as D o n seen ≡ Ok x
  name_stays None n seen x q h = absurd cc
  name_stays (Some y) n seen x q h = qualified_stays y n seen x h

  -- a qualified column that means something means the same
  pub column_stays : (seen : List Seen) (c : Column) (x : Found) → has_correlation c ≡ true → resolve C seen c ≡ Ok x → resolve D seen c ≡ Ok x
  column_stays seen c x q h = name_stays c.correlation c.name seen x q h

  -- ---- the passes

  item_same : (stored : Bool) (m : Mark) → item_refusal C stored m ≡ item_refusal D stored m
  item_same stored (enter items) = refl
  item_same stored (item before around tab) = λ i. cond (both_there (C.columns tab.table) (D.columns tab.table) (g.columns tab.table) i) (refusal_if (is_taken stored before around (correlation tab)) (Exists (correlation tab))) (Some (Unknown tab.table))
  item_same stored (column seen c) = refl
  item_same stored (star items x) = refl
  item_same stored (call a) = refl

  call_of_same : (a : Atom) → call_refusal_of C a ≡ call_refusal_of D a
  call_of_same (atoms.SecLabel p t) = ap (λ b. unless_known b p) (g.policies p)
  call_of_same (atoms.SecLabelByName p l) = λ i. cond (g.policies p i) (unless_known (g.labels p l i) l) (Some (Unknown p))
  call_of_same (atoms.SecLabelToChar p c) = ap (λ b. unless_known b p) (g.policies p)
  call_of_same atoms.Null = refl
  call_of_same (atoms.Int n) = refl
  call_of_same (atoms.Text t) = refl
  call_of_same (atoms.Date d) = refl
  call_of_same atoms.CurrentDate = refl
  call_of_same atoms.SessionUser = refl
  call_of_same (atoms.Column c) = refl
  call_of_same atoms.CountRows = refl
  call_of_same (atoms.VerifyRole r) = refl
  call_of_same (atoms.VerifyGroup r) = refl

  call_same : (m : Mark) → call_refusal C m ≡ call_refusal D m
  call_same (enter items) = refl
  call_same (item before around tab) = refl
  call_same (column seen c) = refl
  call_same (star items x) = refl
  call_same (call a) = call_of_same a

  text_of_same : (a : Atom) → text_refusal_of C a ≡ text_refusal_of D a
  text_of_same (atoms.SecLabel p t) = ap fault (g.faults p t)
  text_of_same (atoms.SecLabelByName p l) = refl
  text_of_same (atoms.SecLabelToChar p c) = refl
  text_of_same atoms.Null = refl
  text_of_same (atoms.Int n) = refl
  text_of_same (atoms.Text t) = refl
  text_of_same (atoms.Date d) = refl
  text_of_same atoms.CurrentDate = refl
  text_of_same atoms.SessionUser = refl
  text_of_same (atoms.Column c) = refl
  text_of_same atoms.CountRows = refl
  text_of_same (atoms.VerifyRole r) = refl
  text_of_same (atoms.VerifyGroup r) = refl

  text_same : (m : Mark) → text_refusal C m ≡ text_refusal D m
  text_same (enter items) = refl
  text_same (item before around tab) = refl
  text_same (column seen c) = refl
  text_same (star items x) = refl
  text_same (call a) = text_of_same a

  first_same : (f h : Mark → Option Refused) → ((m : Mark) → f m ≡ h m) → (ms : Marks) → first f ms ≡ first h ms
  first_same f h same [] = refl
  first_same f h same (m ∷ ms) = λ i. or_else (same m i) (first_same f h same ms i)

  known_stays : (seen : List Seen) (c : Column) → has_correlation c ≡ true → (r : Resolved) → resolve C seen c ≡ r → unresolved r ≡ None → unresolved (resolve D seen c) ≡ None
  known_stays seen c q (Ok x) e h = ap unresolved (column_stays seen c x q e)
  known_stays seen c q (Err n) e h = absurd cc

  mark_stays : (m : Mark) → IsWritten m → column_refusal C m ≡ None → column_refusal D m ≡ None
  mark_stays (enter items) w h = refl
  mark_stays (item before around tab) w h = refl
  mark_stays (column seen c) w h = known_stays seen c w (resolve C seen c) refl h
  mark_stays (star items None) w h = refl
  mark_stays (star items (Some x)) w h = h
  mark_stays (call a) w h = refl

  columns_stay : (ms : Marks) → AllWritten ms → first (column_refusal C) ms ≡ None → first (column_refusal D) ms ≡ None
  columns_stay [] w h = refl
  columns_stay (m ∷ ms) w h =
      let here : (column_refusal C m ≡ None) × (first (column_refusal C) ms ≡ None) = neither (column_refusal C m) (first (column_refusal C) ms) h in
      λ i. or_else (mark_stays m w.0 here.0 i) (columns_stay ms w.1 here.1 i)

  passes_stay : (stored : Bool) (ms : Marks) → AllWritten ms → passes C stored ms None ≡ None → passes D stored ms None ≡ None
  passes_stay stored ms w h =
      let items : (first (item_refusal C stored) ms ≡ None) × (or_else (first (column_refusal C) ms) (or_else (first (call_refusal C) ms) (first (text_refusal C) ms)) ≡ None) = neither (first (item_refusal C stored) ms) (or_else (first (column_refusal C) ms) (or_else (first (call_refusal C) ms) (first (text_refusal C) ms))) h in
      let columns : (first (column_refusal C) ms ≡ None) × (or_else (first (call_refusal C) ms) (first (text_refusal C) ms) ≡ None) = neither (first (column_refusal C) ms) (or_else (first (call_refusal C) ms) (first (text_refusal C) ms)) items.1 in
      (λ i. or_else (first_same (item_refusal D stored) (item_refusal C stored) (λ m. sym (item_same stored m)) ms i) (or_else (columns_stay ms w columns.0 i) (or_else (first_same (call_refusal D) (call_refusal C) (λ m. sym (call_same m)) ms i) (first_same (text_refusal D) (text_refusal C) (λ m. sym (text_same m)) ms i))))
      ∙ (λ i. or_else (items.0 i) (columns.1 i))

  cond_written : (c : Cond) → are_qualified c ≡ true → (v : Sight) → AllWritten (cond_marks c v)
  unfolding are_qualified cond_marks
  cond_written c q v = written_cond c q v

  expr_written : (e : Expr) → are_qualified_in e ≡ true → (v : Sight) → AllWritten (expr_marks e v)
  unfolding are_qualified_in expr_marks
  expr_written e q v = written_expr e q v

  pub permission_names_stay : (tab : Tab) (c : Cond) → are_qualified c ≡ true → permission_names_refused C tab c ≡ None → permission_names_refused D tab c ≡ None
  permission_names_stay tab c q h = passes_stay true (permission_marks tab c) (tt, cond_written c q (over tab)) h

  pub mask_names_stay : (tab : Tab) (e : Expr) → are_qualified_in e ≡ true → mask_names_refused C tab e ≡ None → mask_names_refused D tab e ≡ None
  mask_names_stay tab e q h = passes_stay true (mask_marks tab e) (tt, expr_written e q (over tab)) h
