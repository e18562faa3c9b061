use Rattle.std.proofs.Common.{◌≡◌, drop}
use Rattle.std.specs.List.{list_any}
use Rattle.std.specs.Str.{bytes_eq}
use Rattle.lb_refr.proofs.find.is_among.Given as goal

abbrev pub invariant-loop-permission : goal.invariant-loop-permission
invariant-loop-permission l = list_any (λ p. bytes_eq p.name l.name) l.permissions ≡ list_any (λ p. bytes_eq p.name l.name) (drop l.permission-index l.permissions)
