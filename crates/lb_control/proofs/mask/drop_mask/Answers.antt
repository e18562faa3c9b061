use Rattle.std.proofs.Common.{subst}
use Rattle.lb_cat.specs.Catalog.{is_mask}
use Rattle.lb_cat.specs.Stamps.{Kept, bare, bare_table}
use Rattle.lb_cat.specs.declared.catalog.TableRec.{TableRec}
use Rattle.lb_rows.specs.Lists.{without}
use Rattle.lb_alter.specs.Refusing.{alters}
use Rattle.lb_changed.specs.Made.{Makes}
use Rattle.lb_changed.proofs.Steps.{given_then, passes_then}
use Rattle.lb_control.proofs.mask.drop_mask.Goals as goal

pub returns : goal.returns
returns c T =
    let K : Kept = c.args.catalog.now in
    passes_then K T c.leaves_without.result _ _ c.in_ok-secadm.ensures
    (given_then K T c.leaves_without.result _ _ _ c.in_ok-table.ensures
    (subst (λ (t : TableRec). Makes K T (alters (bare K) T (record (bare_table t) { masks = without (is_mask c.args.name.now) t.masks })) c.leaves_without.result) c.deref.ensures (c.leaves_without.ensures T)))
