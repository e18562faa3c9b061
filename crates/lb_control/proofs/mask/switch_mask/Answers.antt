use Rattle.std.proofs.Common.{subst, map}
use Rattle.std.specs.Prelude.{if◌then◌else◌}
use Rattle.lb_cat.specs.Catalog.{is_mask}
use Rattle.lb_cat.specs.Stamps.{Kept, bare, bare_table}
use Rattle.lb_cat.specs.declared.catalog.TableRec.{TableRec}
use Rattle.lb_alter.specs.ChangeControl.{is_enabled}
use Rattle.lb_alter.specs.Refusing.{alters}
use Rattle.lb_changed.specs.Made.{Makes}
use Rattle.lb_changed.proofs.Steps.{given_then, passes_then}
use Rattle.lb_control.proofs.mask.switch_mask.Goals as goal

pub returns : goal.returns
returns c T =
    let K : Kept = c.args.catalog.now in
    passes_then K T c.leaves_switched.result _ _ c.in_ok-secadm.ensures
    (given_then K T c.leaves_switched.result _ _ _ c.in_ok-table.ensures
    (subst (λ (t : TableRec). Makes K T (alters (bare K) T (record (bare_table t) { masks = map (λ x. if is_mask c.args.name.now x then record x { enabled = is_enabled c.args.switch } else x) t.masks })) c.leaves_switched.result) c.deref.ensures (c.leaves_switched.ensures T)))
