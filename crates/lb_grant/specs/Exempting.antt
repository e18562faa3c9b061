-- A rule's exemption, where it stays. It stands in a private contract alone.
use Rattle.std.specs.Prelude.{not, ◌&&◌, if◌then◌else◌}
use Rattle.lb_base.specs.declared.rule.Rule.{Rule}
use Rattle.lb_label.specs.declared.exemption.Exempt.{Exempt}
use Rattle.lb_label.specs.Exemption.{is_exempt, with_exemption}

-- with the exemption from the rule, where it is among the old ones and isn't among the revoked ones
abbrev pub kept_from : Exempt → Exempt → Exempt → Rule → Exempt
kept_from old revoked left rule = if is_exempt old rule && not (is_exempt revoked rule) then with_exemption left rule else left
