use Rattle.std.proofs.Common.{◌≡◌, ◌∙◌, sym, ap, ◌≤◌, length, None, true, arith}
use Rattle.std.proofs.lemmas.List.Sums.{position_or_len_is}
use Rattle.lb_rows.specs.Kept.{holds}
use Rattle.lb_rows.proofs.snap.place_of.Goals as goal

pub returns-then-is_of_table : goal.returns-then-is_of_table
returns-then-is_of_table c =
    let at : c.loop-version.place ≡ c.loop-version.version-index = c.loop-version.invariant.0 in
    let here : holds c.args.table.now c.version-item.result ≡ true = sym c.is_of_table.ensures ∙ c.if-is_of_table.true in
    at ∙ sym (position_or_len_is (holds c.args.table.now) c.args.versions.now c.loop-version.version-index c.version-item.result (omega arith)
    (λ k h. c.loop-version.invariant.1 k c.version-item.result h) (λ h. ap (holds c.args.table.now) (sym c.version-item.is) ∙ here))

pub returns : goal.returns
returns c =
    let at : c.loop-version.place ≡ c.loop-version.version-index = c.loop-version.invariant.0 in
    at ∙ sym (position_or_len_is (holds c.args.table.now) c.args.versions.now c.loop-version.version-index None c.loop-version.auto.version-index-end (λ k h. c.loop-version.invariant.1 k None h) (λ h. let ends : length c.args.versions.now ≤ c.loop-version.version-index = c.loop-version-test.false in absurd (omega arith)))
