use Rattle.std.proofs.Common.{◌≡◌, None, subst}
use Rattle.std.specs.Prelude.{Err, Ok, position}
use Rattle.std.proofs.lemmas.Result.{err_from_is_err_and}
use Rattle.std.specs.Arc.{arc_value}
use Rattle.lb_alter.specs.ChangeControl.{new_mask, other_mask, source_refusal, with_mask}
use Rattle.lb_alter.specs.Naming.{stored_rules}
use Rattle.lb_alter.specs.Refusing.{alters, exists_already, found}
use Rattle.lb_cat.specs.Catalog.{is_column}
use Rattle.lb_cat.specs.Stamps.{Kept, bare, bare_table}
use Rattle.lb_cat.specs.declared.catalog.TableRec.{TableRec}
use Rattle.lb_names.specs.Mentions.{in_expr}
use Rattle.lb_changed.specs.Given.{IsRefused, Refuses}
use Rattle.lb_changed.specs.Made.{Makes}
use Rattle.lb_changed.proofs.Steps.{given_then, passes_then, refused_then, stops_then}
use Rattle.lb_protect.proofs.Masks.{to_names}
use Rattle.lb_protect.proofs.mask.create_mask.Goals as goal

pub returns-in_err-column : goal.returns-in_err-column
returns-in_err-column c T =
    let K : Kept = c.args.catalog.now in
    let d = c.args.def.now in
    let s = c.in_err-column.field-0.0 in
    let p = err_from_is_err_and c.from_residual-in_err-column.result c.from_residual-in_err-column.ensures.1 in
    rw (p.1, p.2) (passes_then K T (Err s) _ _ c.in_ok-secadm.ensures
    (given_then K T (Err s) _ _ _ c.in_ok-table.ensures.gives
    (refused_then K T _ _ s (subst (λ (t : TableRec). IsRefused (found d.column (position (is_column d.column) (bare_table t).columns)) s) c.deref.ensures c.in_err-column.ensures))))

pub returns-in_err-names_pass : goal.returns-in_err-names_pass
returns-in_err-names_pass c T =
    let K : Kept = c.args.catalog.now in
    let d = c.args.def.now in
    let column = c.in_ok-column.column in
    let s = c.in_err-names_pass.field-0.0 in
    let p = err_from_is_err_and c.from_residual-in_err-names_pass.result c.from_residual-in_err-names_pass.ensures.1 in
    rw (p.1, p.2) (to_names K T c.args.user.now d (bare_table (arc_value c.in_ok-table.table.now)) column (Err s) c.in_ok-secadm.ensures c.in_ok-table.ensures.gives
    (subst (λ (t : TableRec). found d.column (position (is_column d.column) (bare_table t).columns) ≡ Ok column) c.deref.ensures c.in_ok-column.ensures)
    c.in_ok-name_is_free.ensures
    (subst (λ (t : TableRec). exists_already (other_mask d.name column (bare_table t)) ≡ None) c.deref-2.ensures c.in_ok-column_is_free.ensures)
    (stops_then K T _ _ s c.in_err-names_pass.ensures))

pub returns-in_err-sources_pass : goal.returns-in_err-sources_pass
returns-in_err-sources_pass c T =
    let K : Kept = c.args.catalog.now in
    let d = c.args.def.now in
    let column = c.in_ok-column.column in
    let s = c.in_err-sources_pass.field-0.0 in
    let p = err_from_is_err_and c.from_residual-in_err-sources_pass.result c.from_residual-in_err-sources_pass.ensures.1 in
    rw (p.1, p.2) (to_names K T c.args.user.now d (bare_table (arc_value c.in_ok-table.table.now)) column (Err s) c.in_ok-secadm.ensures c.in_ok-table.ensures.gives
    (subst (λ (t : TableRec). found d.column (position (is_column d.column) (bare_table t).columns) ≡ Ok column) c.deref.ensures c.in_ok-column.ensures)
    c.in_ok-name_is_free.ensures
    (subst (λ (t : TableRec). exists_already (other_mask d.name column (bare_table t)) ≡ None) c.deref-2.ensures c.in_ok-column_is_free.ensures)
    (passes_then K T (Err s) _ _ c.in_ok-names_pass.ensures
    (stops_then K T _ _ s (subst (λ (t : TableRec). Refuses (source_refusal (bare K) d.name t.name (in_expr d.value)) s) c.deref-3.ensures c.in_err-sources_pass.ensures))))

pub returns-in_err-types_pass : goal.returns-in_err-types_pass
returns-in_err-types_pass c T =
    let K : Kept = c.args.catalog.now in
    let d = c.args.def.now in
    let column = c.in_ok-column.column in
    let s = c.in_err-types_pass.field-0.0 in
    let p = err_from_is_err_and c.from_residual-in_err-types_pass.result c.from_residual-in_err-types_pass.ensures.1 in
    rw (p.1, p.2) (to_names K T c.args.user.now d (bare_table (arc_value c.in_ok-table.table.now)) column (Err s) c.in_ok-secadm.ensures c.in_ok-table.ensures.gives
    (subst (λ (t : TableRec). found d.column (position (is_column d.column) (bare_table t).columns) ≡ Ok column) c.deref.ensures c.in_ok-column.ensures)
    c.in_ok-name_is_free.ensures
    (subst (λ (t : TableRec). exists_already (other_mask d.name column (bare_table t)) ≡ None) c.deref-2.ensures c.in_ok-column_is_free.ensures)
    (passes_then K T (Err s) _ _ c.in_ok-names_pass.ensures
    (passes_then K T (Err s) _ _ (subst (λ (t : TableRec). source_refusal (bare K) d.name t.name (in_expr d.value) ≡ None) c.deref-3.ensures c.in_ok-sources_pass.ensures)
    (stops_then K T _ _ s c.in_err-types_pass.ensures))))

pub returns : goal.returns
returns c T =
    let K : Kept = c.args.catalog.now in
    let d = c.args.def.now in
    let column = c.in_ok-column.column in
    let r = c.mask_made.result in
    (to_names K T c.args.user.now d (bare_table (arc_value c.in_ok-table.table.now)) column r c.in_ok-secadm.ensures c.in_ok-table.ensures.gives
    (subst (λ (t : TableRec). found d.column (position (is_column d.column) (bare_table t).columns) ≡ Ok column) c.deref.ensures c.in_ok-column.ensures)
    c.in_ok-name_is_free.ensures
    (subst (λ (t : TableRec). exists_already (other_mask d.name column (bare_table t)) ≡ None) c.deref-2.ensures c.in_ok-column_is_free.ensures)
    (passes_then K T r _ _ c.in_ok-names_pass.ensures
    (passes_then K T r _ _ (subst (λ (t : TableRec). source_refusal (bare K) d.name t.name (in_expr d.value) ≡ None) c.deref-3.ensures c.in_ok-sources_pass.ensures)
    (passes_then K T r _ _ c.in_ok-types_pass.ensures
    (subst (λ (t : TableRec). Makes K T (alters (bare K) T (with_mask (new_mask stored_rules (bare K) column d) (bare_table t))) r) c.deref-4.ensures (c.mask_made.ensures T))))))
