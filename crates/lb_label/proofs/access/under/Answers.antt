use Rattle.std.proofs.Common.{◌≡◌, ◌<◌, ◌^◌, true, false, cond, refl, sym, ◌∙◌, arith}
use Rattle.std.specs.Int.{bit_at, trailing_zeros, w64}
use Rattle.lb_label.proofs.Elements.{set_below}
use Rattle.lb_label.proofs.RuleLemmas.{tree_small}
use Rattle.lb_label.proofs.UnderLemmas.{under_none, under_more, under_all, lowest_set, less_left}
use Rattle.lb_label.proofs.access.under.Goals as goal
use Rattle.lb_label.proofs.access.under.Goals.{then-is_in_or_under, else-is_in_or_under}

pub loop-rest-init : goal.loop-rest-init
loop-rest-init c = under_none c.args.component.now c.args.elements c.args.top

pub is_in_or_under-requires-clause-element : goal.is_in_or_under-requires-clause-element
is_in_or_under-requires-clause-element c =
    let small : c.loop-rest.rest < 2 ^ 64 = omega arith in
    set_below _ c.args.elements (trailing_zeros w64 c.loop-rest.rest) (tree_small c.args.component.now c.args.elements c.requires.kind c.requires.elements)
    (c.loop-rest.invariant.rest_in _ (lowest_set c.loop-rest.rest small c.loop-rest-test.true).1)

pub loop-rest-smaller : goal.loop-rest-smaller
loop-rest-smaller c =
    let small : c.loop-rest.rest < 2 ^ 64 = omega arith in
    let low : (trailing_zeros w64 c.loop-rest.rest < 64) × (bit_at c.loop-rest.rest (trailing_zeros w64 c.loop-rest.rest) ≡ 1) = lowest_set c.loop-rest.rest small c.loop-rest-test.true in
    less_left c.loop-rest.rest (trailing_zeros w64 c.loop-rest.rest) low.0 low.1

pub loop-rest-preserved : goal.loop-rest-preserved
loop-rest-preserved c =
    let small : c.loop-rest.rest < 2 ^ 64 = omega arith in
    let low : (trailing_zeros w64 c.loop-rest.rest < 64) × (bit_at c.loop-rest.rest (trailing_zeros w64 c.loop-rest.rest) ≡ 1) = lowest_set c.loop-rest.rest small c.loop-rest-test.true in
    elim c.if-is_in_or_under.branch [
      | then-is_in_or_under w ↦ under_more c.args.component.now c.args.elements c.args.top c.loop-rest.found c.loop-rest.rest (trailing_zeros w64 c.loop-rest.rest) c.if-is_in_or_under.found true
          c.loop-rest.invariant small low.0 low.1 (sym w.if-is_in_or_under.true ∙ c.is_in_or_under.ensures) w.found-is
      | else-is_in_or_under w ↦ under_more c.args.component.now c.args.elements c.args.top c.loop-rest.found c.loop-rest.rest (trailing_zeros w64 c.loop-rest.rest) c.if-is_in_or_under.found false
          c.loop-rest.invariant small low.0 low.1 (sym w.if-is_in_or_under.false ∙ c.is_in_or_under.ensures) w.found-is
    ]

pub returns : goal.returns
returns c = under_all c.args.component.now c.args.elements c.args.top c.loop-rest.found c.loop-rest.rest c.loop-rest.invariant c.loop-rest-test.false
