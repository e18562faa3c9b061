use Rattle.std.proofs.Common.{◌≡◌, ℕ, ◌<◌, Option, Some, length, sym, ap, subst, ◌∙◌}
use Rattle.lb_split.specs.Pieces.{pieces_from, resumed}
use Rattle.lb_split.specs.Scripts.{breaking, script_in, section_statements}
use Rattle.lb_split.specs.Sections.{from_header, headed}
use Rattle.lb_split.specs.declared.piece.Piece.TheVariants as pieces
use Rattle.lb_split.specs.declared.script.Script.{Script}
use Rattle.lb_split.proofs.Sectioned.{joined, turn_breaks, turn_joins, turn_shorter}
use Rattle.lb_split.proofs.script.script_from.Goals as goal

pub sections-smaller : goal.sections-smaller
sections-smaller c =
    let here : c.sections.next ≡ Some c.in-Some.span = cc in
    let next : from_header (pieces_from c.args.bytes.now (resumed c.args.bytes.now (pieces.Header c.in-Some.span.0 c.in-Some.span.1))) ≡ headed c.args.bytes.now c.in_ok-body.body.next =
    subst (λ (n : ℕ). from_header (pieces_from c.args.bytes.now n) ≡ headed c.args.bytes.now c.in_ok-body.body.next) c.resume-from.ensures.value c.in_ok-body.ensures.next in
    subst (λ (o : Option (ℕ × ℕ)). length (headed c.args.bytes.now c.in_ok-body.body.next) < length (headed c.args.bytes.now o)) (sym here)
    (turn_shorter c.args.bytes.now c.in-Some.span c.in_ok-body.body.next next)

pub sections-preserved : goal.sections-preserved
sections-preserved c =
    let here : c.sections.next ≡ Some c.in-Some.span = cc in
    let next : from_header (pieces_from c.args.bytes.now (resumed c.args.bytes.now (pieces.Header c.in-Some.span.0 c.in-Some.span.1))) ≡ headed c.args.bytes.now c.in_ok-body.body.next =
    subst (λ (n : ℕ). from_header (pieces_from c.args.bytes.now n) ≡ headed c.args.bytes.now c.in_ok-body.body.next) c.resume-from.ensures.value c.in_ok-body.ensures.next in
    let statements : c.in_ok-body.body.statements ≡ section_statements (pieces_from c.args.bytes.now (resumed c.args.bytes.now (pieces.Header c.in-Some.span.0 c.in-Some.span.1))) =
    c.in_ok-body.ensures.statements ∙ ap (λ (n : ℕ). section_statements (pieces_from c.args.bytes.now n)) c.resume-from.ensures.value in
    record {
      breaks = c.sections.invariant.breaks
          ∙ ap (λ (o : Option (ℕ × ℕ)). breaking c.args.bytes.now c.sections.is_first (headed c.args.bytes.now o)) here
          ∙ turn_breaks c.args.bytes.now c.sections.is_first c.in-Some.span c.in_ok-body.body.next c.in_ok-header.header c.in_ok-header.ensures.0 c.in_ok-header.ensures.1 next;
      joins = c.sections.invariant.joins
          ∙ ap (λ (o : Option (ℕ × ℕ)). joined c.sections.script (script_in c.args.bytes.now (headed c.args.bytes.now o))) here
          ∙ turn_joins c.args.bytes.now c.sections.is_first c.in-Some.span c.in_ok-body.body.next c.in_ok-header.header c.in_ok-body.body.statements c.sections.script
          c.in_ok-header.ensures.0 c.in_ok-header.ensures.1 c.sections.invariant.fresh statements next
          ∙ ap (λ (s : Script). joined s (script_in c.args.bytes.now (headed c.args.bytes.now c.in_ok-body.body.next))) (sym c.in_ok-script.ensures);
      fresh = λ e. absurd cc;
      within = c.in_ok-body.ensures.within;
    }
