-- Permissions and masks by their names.
use Rattle.std.specs.Prelude.{ℕ, Bool, List}
use Rattle.lb_cat.specs.Catalog.{Table}
use Rattle.lb_alter.specs.ChangeControl.{has_permission, has_mask}
use Rattle.lb_control.specs.declared.kind.ControlKind.{ControlKind}
use Rattle.lb_control.specs.declared.kind.ControlKind.TheVariants as kinds

-- the table has one of that kind and name
abbrev pub has : ControlKind → List ℕ → Table → Bool
has kinds.Permission n t = has_permission n t
has kinds.Mask n t = has_mask n t
