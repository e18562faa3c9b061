use Rattle.std.proofs.Common.{List, ℕ, map, ap}
use Rattle.lb_split.specs.Scripts.{text_in}
use Rattle.lb_front.proofs.Begun.{is_full, section_shut, section_shut_part}
use Rattle.lb_front.proofs.section.run_section.Goals as goal

pub returns-in-Err-JournalFull-clause-ran : goal.returns-in-Err-JournalFull-clause-ran
returns-in-Err-JournalFull-clause-ran g c =
    let whole = is_full _ _ _ c.in-Err-JournalFull.field-0 c.in-Err-JournalFull.field-0-is c.in-Err-JournalFull.ensures.shut in
    section_shut _ _ _ _ _ _ _ _ _ c.run_shut.result whole.0 whole.1 c.in-Err-JournalFull.ensures.same.0
    (ap (λ (spans : List (ℕ × ℕ)). map (text_in c.args.bytes.now) spans) c.as_slice-in-Err-JournalFull.ensures) c.run_shut.ensures.ran

pub returns-in-Err-JournalFull-clause-cut : goal.returns-in-Err-JournalFull-clause-cut
returns-in-Err-JournalFull-clause-cut g c =
    let whole = is_full _ _ _ c.in-Err-JournalFull.field-0 c.in-Err-JournalFull.field-0-is c.in-Err-JournalFull.ensures.shut in
    section_shut_part _ _ _ _ _ _ _ _ _ c.run_shut.result whole.0 whole.1 c.in-Err-JournalFull.ensures.same.0
    (ap (λ (spans : List (ℕ × ℕ)). map (text_in c.args.bytes.now) spans) c.as_slice-in-Err-JournalFull.ensures) c.run_shut.ensures.cut
