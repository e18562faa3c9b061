-- Exemptions that stay, rule after rule.
use Rattle.std.proofs.Common.{◌≡◌, refl, true, false, cond, not, ◌&&◌, List, [], ◌∷◌}
use Rattle.std.specs.Prelude.{filter, fold}
use Rattle.lb_base.specs.declared.rule.Rule.{Rule}
use Rattle.lb_label.specs.declared.exemption.Exempt.{Exempt}
use Rattle.lb_label.specs.Exemption.{is_exempt, no_exemption, with_exemption}
use Rattle.lb_cat.specs.Holdings.{all_rules, exempt_from, rules_in, with_exemptions, without_exemptions}
use Rattle.lb_stmt.specs.declared.change.Exempted.{Exempted}
use Rattle.lb_grant.specs.Exempting.{kept_from}

-- the rules that pass, one after the other
kept_in_turn : (old revoked : Exempt) (rules : List Rule) (left : Exempt) → fold (kept_from old revoked) left rules ≡ fold with_exemption left (filter (λ rule. is_exempt old rule && not (is_exempt revoked rule)) rules)
kept_in_turn old revoked [] left = refl
kept_in_turn old revoked (rule ∷ rules) left =
    elim (is_exempt old rule && not (is_exempt revoked rule)) as (λ b. fold (kept_from old revoked) (cond b (with_exemption left rule) left) rules
    ≡ fold with_exemption left (cond b (rule ∷ filter (λ rule. is_exempt old rule && not (is_exempt revoked rule)) rules) (filter (λ rule. is_exempt old rule && not (is_exempt revoked rule)) rules))) [
      | true ↦ kept_in_turn old revoked rules (with_exemption left rule)
      | false ↦ kept_in_turn old revoked rules left
    ]

pub without_in_turn : (old : Exempt) (revoked : Exempted) → fold (kept_from old (with_exemptions revoked no_exemption)) no_exemption all_rules ≡ without_exemptions revoked old
without_in_turn old revoked = kept_in_turn old (exempt_from (rules_in revoked)) all_rules no_exemption
