use Rattle.std.proofs.Common.{◌≡◌, ◌&&◌, ◌==◌, not, drop}
use Rattle.std.specs.List.{list_any}
use Rattle.lb_cat.specs.Catalog.{is_mask}
use Rattle.lb_protect.proofs.taken.stays_mask.Given as goal

abbrev pub invariant-loop-mask : goal.invariant-loop-mask
invariant-loop-mask l =
    list_any (λ m. is_mask l.name m && not (l.replaces && m.column == l.column)) l.masks
    ≡ list_any (λ m. is_mask l.name m && not (l.replaces && m.column == l.column)) (drop l.mask-index l.masks)
