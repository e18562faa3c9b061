use Rattle.std.proofs.Common.{◌≡◌, ◌&&◌, ◌==◌, not, drop}
use Rattle.std.specs.Prelude.{find}
use Rattle.lb_cat.specs.Catalog.{is_mask}
use Rattle.lb_protect.proofs.mask.other_mask.Given as goal

abbrev pub invariant-loop-mask : goal.invariant-loop-mask
invariant-loop-mask l =
    find (λ m. m.column == l.column && not (is_mask l.name m)) l.masks
    ≡ find (λ m. m.column == l.column && not (is_mask l.name m)) (drop l.mask-index l.masks)
