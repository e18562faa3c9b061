-- Each write keeps that all tables fit.
use Rattle.std.proofs.Common.{ℕ, ℤ, ◌≡◌, refl, sym, subst, ap, List, [], ◌∷◌, map, Option, Some, None, Ok, Err}
use Rattle.std.specs.List.{AllByRecursion, AllZip}
use Rattle.lb_base.specs.declared.key.Ty.{Ty}
use Rattle.lb_base.specs.declared.value.Value.{Value}
use Rattle.lb_base.specs.Evaluated.{Evaluated}
use Rattle.lb_tree.specs.declared.query.Select.{Select}
use Rattle.lb_tree.specs.declared.query.Cond.TheViews.{out-Query}
use Rattle.lb_stmt.specs.declared.write.Insert.{Insert}
use Rattle.lb_stmt.specs.declared.write.InsertSource.{InsertSource}
use Rattle.lb_stmt.specs.declared.write.InsertSource.TheVariants as sources
use Rattle.lb_stmt.specs.declared.write.Stmt.TheVariants as stmts
use Rattle.lb_cat.specs.declared.cred.Cred.{Cred}
use Rattle.lb_cat.specs.declared.reply.Verb.TheVariants as verbs
use Rattle.lb_cat.specs.Catalog.{Cat, Table, Policy, table_named, policy_named}
use Rattle.lb_names.specs.Kinds.{Kind, kind_of}
use Rattle.lb_names.specs.Scopes.{Field, Catalogue, listed}
use Rattle.lb_names.specs.Typed.{Typed, ◌>>=◌}
use Rattle.lb_names.specs.Places.{outermost}
use Rattle.lb_names.specs.Statements.{broken, given, set_place, over_place, rows_typed, assignments_typed, where_typed, source_types_refused, kinds_given}
use Rattle.lb_names.specs.Typing.{answers as typed_query}
use Rattle.lb_names.specs.OrderTyping.{select_typed, outermost_role, keys_typed, order_place}
use Rattle.lb_rows.specs.Tables.{Tables, rows_of}
use Rattle.lb_mean.specs.Answer.{Checks}
use Rattle.lb_mean.specs.Conditions.{outputs}
use Rattle.lb_mean.specs.Joined.{piece}
use Rattle.lb_names.specs.Sights.{correlation}
use Rattle.lb_mean.specs.Meaning.{answers}
use Rattle.lb_mean.specs.Ordered.{chosen_by}
use Rattle.lb_mean.specs.Refused.{policy_of_table}
use Rattle.lb_mean.specs.Setting.{Setting, Frame, Env, row_frame, shown_frame}
use Rattle.lb_mean.specs.Visible.{guarded, unguarded}
use Rattle.lb_answer.specs.Answer.{insert_into, update_in, places_of, places_given}
use Rattle.lb_answer.specs.Bases.{update_basis, values_basis, query_basis}
use Rattle.lb_answer.specs.Before.{insert_refused, update_refused}
use Rattle.lb_answer.specs.Basis.{Basis}
use Rattle.lb_answer.specs.Candidates.{Marked}
use Rattle.lb_answer.specs.Laws.{AreRows}
use Rattle.lb_answer.specs.Writes.{Written}
use Rattle.lb_alter.specs.Fits.{RowsFit}
use Rattle.lb_kinds.specs.Agreement.{RowFits, AgreesOn}
use Rattle.lb_kinds.specs.Begins.{TargetHolds}
use Rattle.lb_kinds.specs.Given.{ValuesFit, AssignmentsFit}
use Rattle.lb_kinds.specs.HasKind.{HasKind, GivesKinds, HasKinds, IfResult}
use Rattle.lb_kinds.specs.Inserted.{InsertedRowsFit}
use Rattle.lb_kinds.specs.Selected.{SelectsGiveTheirKinds}
use Rattle.lb_kinds.specs.Settings.{columns_in, SameColumn, Knows, GuardedAgrees}
use Rattle.lb_kinds.specs.Standing.{PieceFits, HoldsFor}
use Rattle.lb_fits.specs.Given.{GivesPlaces}
use Rattle.lb_fits.specs.Dated.{SourceHasDays}
use Rattle.lb_fits.specs.Statements.{IsReady, UpdatesFit, InsertsFit, WritesFit}
use Rattle.lb_fits.proofs.Columns.{loosely}
use Rattle.lb_fits.proofs.Deleting.{deletes_fit}
use Rattle.lb_fits.proofs.Putting.{rows_there, answer_fits}
use Rattle.lb_fits.proofs.Sessions.{keeps_columns, own_fits}
use Rattle.lb_fits.proofs.Targets.{Holds, Targets, targets, same_given, row_placed}
use Rattle.lb_fits.proofs.Written.{updated_fits, inserted_fits}
use Rattle.lb_fits.proofs.Evaluated.{bound, unbroken, of_fields, cells_fit, same_call, set_placed, rows_given}

-- ---- statements

module _ (are_rows : (b : Basis (List Value)) (rows : List (List Value)) (marks : List Marked) → AreRows b rows marks)
    (values_fit : ValuesFit) (assignments_fit : AssignmentsFit) (inserted_rows_fit : InsertedRowsFit) (selects_give : SelectsGiveTheirKinds) (guarded_agrees : GuardedAgrees) (target_holds : TargetHolds) where
  pub known : (N : Catalogue) (C : Cat) (T : Tables) → Knows N C T → (n : List ℕ) (t : Table) → table_named C n ≡ Some t → AllZip SameColumn (listed (N.columns n)) t.columns
  known N C T k n t e = subst (λ (o : Option Table). AllZip SameColumn (listed (N.columns n)) (columns_in o)) e (k.columns n)

  pub updates_fit : UpdatesFit
  updates_fit rules N checks C c T day u begins days types =
      answer_fits C T begins.tables (update_refused checks C c u) verbs.Updated u.target.table (update_in C c T day u) (λ _ t w e h.
      let S : Setting = guarded C c T day in
      let P : Option Policy = policy_of_table C t in
      let fields : List Field = listed (N.columns u.target.table) in
      let agrees : AgreesOn N S = guarded_agrees N C c T day begins.knows begins.is_day begins.masks in
      let same : AllZip SameColumn fields t.columns = known N C T begins.knows u.target.table t e in
      let r = unbroken (assignments_typed N fields (set_place u.target) u.assignments 0 >>= λ x. where_typed N (over_place u.target) u.filter x.1) types in
      let b = bound (assignments_typed N fields (set_place u.target) u.assignments 0) (λ x. where_typed N (over_place u.target) u.filter x.1) r.it r.is in
      updated_fits are_rows C t (update_basis C c (unguarded C c T day) S t P u) (places_of t (map (λ a. a.column) u.assignments)) (rows_of u.target.table T) w
      (keeps_columns rules C begins.sound u.target.table t e) (own_fits C c begins.credentials t)
      (λ row f.
      let fit : RowFits (policy_named C) fields row = of_fields C fields t.columns row same (loosely C t.columns row f) in
      let p : PieceFits N S u.target (piece (S.sources u.target.table) (correlation u.target) row) = record {
        correlation = same_call u.target.correlation u.target.table;
        columns = refl;
        cells = cells_fit (policy_named C) fields row fit;
        shown = (agrees.tables u.target.table).shown row fit;
      } in
      let env : Env = row_frame (piece (S.sources u.target.table) (correlation u.target) row ∷ []) ∷ [] in
      let holds : HoldsFor N S (set_place u.target) None env = target_holds N S (set_place u.target) u.target refl (piece (S.sources u.target.table) (correlation u.target) row) p in
      set_placed N S C t env fields same u.target u.assignments 0 b.it b.is (assignments_fit N S agrees u.target env holds fields u.assignments days 0 b.it b.is))
      (rows_there C T begins.tables u.target.table t e) h)

  -- the kinds that the columns of an INSERT take
  into : (N : Catalogue) (C : Cat) (t : Table) (fields : List Field) → AllZip SameColumn fields t.columns → (columns : Option (List (List ℕ))) (x : Targets t fields (given fields columns)) → AllZip (Holds t) x.tys (places_given t columns)
  into N C t fields same columns x = subst (AllZip (Holds t) x.tys) (same_given t fields same columns) x.places

  frames_placed : (C : Cat) (t : Table) (N : Catalogue) (S : Setting) (s : Select) (tys : List Ty) (places : List ℕ) (ks : List Kind) → AllZip (Holds t) tys places
      → ((row : List Value) → HasKinds (policy_named C) ks row → AllZip (λ ty v. HasKind (policy_named C) (kind_of ty) v) tys row) → (frames : List Frame)
      → AllByRecursion (λ f. GivesKinds (policy_named C) ks (outputs (answers S s.query).items (f ∷ [])) × GivesKinds (policy_named C) ks (outputs (answers S s.query).items (shown_frame f ∷ []))) frames
      → AllByRecursion (λ f. GivesPlaces C t places (outputs (answers S s.query).items (f ∷ []))) frames
  frames_placed C t N S s tys places ks h law [] g = tt
  frames_placed C t N S s tys places ks h law (f ∷ frames) g = (one (outputs (answers S s.query).items (f ∷ [])) g.0.0, frames_placed C t N S s tys places ks h law frames g.1)
    where
      one : (out : Evaluated (List Value)) → GivesKinds (policy_named C) ks out → GivesPlaces C t places out
      one (Ok row) k = row_placed C t tys places row h (law row k)
      one (Err e) k = tt

  if_chosen : (out : Evaluated (List Frame)) (Q : List Frame → Type 0) → ((frames : List Frame) → out ≡ Ok frames → Q frames) → IfResult Q out
  if_chosen (Ok frames) Q h = h frames refl
  if_chosen (Err e) Q h = tt

  pair_first : (x : List Kind) (ks : List Kind) (m n : ℕ) → ◌≡◌ {A = Typed (List Kind)} (Ok (x, m)) (Ok (ks, n)) → x ≡ ks
  pair_first x ks m n e = ap kinds e
    where
      kinds : Typed (List Kind) → List Kind
      kinds (Ok z) = z.0
      kinds (Err at) = x

  source_fits : (rules : _) (N : Catalogue) (checks : Checks) (C : Cat) (c : Cred) (T : Tables) (day : ℤ) (i : Insert) (source : InsertSource) → IsReady rules N C c T day → SourceHasDays source
      → source_types_refused N (kinds_given N i.table i.columns) source ≡ None → (t : Table) (w : Written) → table_named C i.table ≡ Some t → insert_into C c T day i source t ≡ Ok w → RowsFit C t w.rows
  source_fits rules N checks C c T day i (sources.Rows rows) begins days types t w e h =
      let S : Setting = guarded C c T day in
      let P : Option Policy = policy_of_table C t in
      let fields : List Field = listed (N.columns i.table) in
      let agrees : AgreesOn N S = guarded_agrees N C c T day begins.knows begins.is_day begins.masks in
      let same : AllZip SameColumn fields t.columns = known N C T begins.knows i.table t e in
      let x : Targets t fields (given fields i.columns) = targets t fields same (given fields i.columns) in
      let places : List ℕ = places_given t i.columns in
      let there : AllZip (Holds t) x.tys places = into N C t fields same i.columns x in
      let r = unbroken (rows_typed N (map kind_of x.tys) rows 0) (subst (λ (ws : List Kind). broken (rows_typed N ws rows 0) ≡ None) x.kinds types) in
      inserted_fits C t (values_basis C c (unguarded C c T day) S t P) places (Ok rows) (rows_of i.table T) w
      (keeps_columns rules C begins.sound i.table t e) (own_fits C c begins.credentials t)
      (rows_given N S C t x.tys places there (λ a es d n y k. values_fit N S agrees x.tys a es d n y k) rows days 0 r.it r.is)
      (rows_there C T begins.tables i.table t e) h
  source_fits rules N checks C c T day i (sources.Query s) begins days types t w e h =
      let S : Setting = guarded C c T day in
      let P : Option Policy = policy_of_table C t in
      let fields : List Field = listed (N.columns i.table) in
      let agrees : AgreesOn N S = guarded_agrees N C c T day begins.knows begins.is_day begins.masks in
      let same : AllZip SameColumn fields t.columns = known N C T begins.knows i.table t e in
      let x : Targets t fields (given fields i.columns) = targets t fields same (given fields i.columns) in
      let places : List ℕ = places_given t i.columns in
      let there : AllZip (Holds t) x.tys places = into N C t fields same i.columns x in
      let wanted : Option (List Kind) = Some (map kind_of x.tys) in
      let r = unbroken (select_typed N s wanted) (subst (λ (ws : List Kind). broken (select_typed N s (Some ws)) ≡ None) x.kinds types) in
      let b = bound ((typed_query N s.query).kinds (outermost_role N s.order wanted) outermost 0) (λ ks. keys_typed N (order_place N s wanted) (out-Query s.query).distinct (out-Query s.query).items ks.0 s.order ks.1 >>= λ z. Ok (ks.0, z.1)) r.it r.is in
      let k = bound (keys_typed N (order_place N s wanted) (out-Query s.query).distinct (out-Query s.query).items b.it.0 s.order b.it.1) (λ z. Ok (b.it.0, z.1)) r.it b.then in
      let ks : b.it.0 ≡ r.it.0 = pair_first b.it.0 r.it.0 k.it.1 r.it.1 k.then in
      let law : (row : List Value) → HasKinds (policy_named C) r.it.0 row → AllZip (λ ty v. HasKind (policy_named C) (kind_of ty) v) x.tys row =
      λ row g. inserted_rows_fit N (policy_named C) x.tys s.query (outermost_role N s.order wanted) refl outermost 0 b.it.1 b.it.0 b.is row (subst (λ (z : List Kind). HasKinds (policy_named C) z row) (sym ks) g) in
      inserted_fits C t (query_basis C c (unguarded C c T day) S t P s) places (chosen_by S s) (rows_of i.table T) w
      (keeps_columns rules C begins.sound i.table t e) (own_fits C c begins.credentials t)
      (if_chosen (chosen_by S s) (AllByRecursion (λ f. GivesPlaces C t places (outputs (answers S s.query).items (f ∷ []))))
      (λ frames q. frames_placed C t N S s x.tys places r.it.0 there law frames (selects_give N S agrees s days wanted r.it.1 r.it.0 r.is frames q)))
      (rows_there C T begins.tables i.table t e) h

  pub inserts_fit : InsertsFit
  inserts_fit rules N checks C c T day i begins days types =
      answer_fits C T begins.tables (insert_refused checks C c i) verbs.Inserted i.table (insert_into C c T day i i.source) (λ _ t w e h. source_fits rules N checks C c T day i i.source begins days types t w e h)

  pub writes_fit : WritesFit
  writes_fit rules N checks C c T day (stmts.Select s) begins days types v e = absurd cc
  writes_fit rules N checks C c T day (stmts.Insert i) begins days types v e = inserts_fit rules N checks C c T day i begins days types v e
  writes_fit rules N checks C c T day (stmts.Update u) begins days types v e = updates_fit rules N checks C c T day u begins days types v e
  writes_fit rules N checks C c T day (stmts.Delete d) begins days types v e = deletes_fit are_rows checks C c T day d begins.tables v e
  writes_fit rules N checks C c T day (stmts.Change s) begins days types v e = absurd cc
