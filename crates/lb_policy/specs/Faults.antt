-- What a change stops for where an element isn't added. It stands in private contracts alone.
use Rattle.std.specs.Prelude.{◌≡◌, ℕ, List, Option}
use Rattle.lb_label.specs.declared.component.ElementFault.{ElementFault}
use Rattle.lb_label.specs.declared.component.ElementFault.TheVariants as faults
use Rattle.lb_cat.specs.declared.refusal.LimitOf.TheVariants as limits
use Rattle.lb_cat.specs.declared.refusal.Refusal.TheVariants as refusals
use Rattle.lb_alter.specs.ChangePolicy.{parent_or}
use Rattle.lb_changed.specs.declared.stop.Stop.{Stop}
use Rattle.lb_changed.specs.declared.stop.Stop.TheVariants as stops
use Rattle.lb_changed.specs.Given.{StopsFor}

-- the refusal of the element with this number, this text and this parent, by its fault
abbrev pub StopsAt : ℕ → List ℕ → Option (List ℕ) → ElementFault → Stop → Type 0
StopsAt number element parent (faults.TooMany most) stop = StopsFor (refusals.Limit limits.Elements most) stop
StopsAt number element parent faults.BadElement stop = StopsFor (refusals.BadLabel number) stop
StopsAt number element parent faults.Repeated stop = StopsFor (refusals.Exists element) stop
StopsAt number element parent faults.NoParent stop = StopsFor (refusals.Unknown (parent_or parent)) stop
StopsAt number element parent faults.NoMemory stop = stop ≡ stops.NoMemory
