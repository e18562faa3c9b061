use Rattle.lb_front.proofs.Sections.{script_ran, setup_cut, sessions_cut, cut_ends}
use Rattle.lb_front.proofs.run.run_script.Goals as goal

pub returns-in-Err-clause-ends : goal.returns-in-Err-clause-ends
returns-in-Err-clause-ends g c =
    cut_ends c.in-Err.cut _ _ _ _ c.status_of.ensures
    (setup_cut c.args.bytes.now c.args.script c.as_slice.result.now _ c.args.limit _ _ _ _ _ c.as_slice.ensures c.empty-book.ensures.journal c.empty-book.ensures.limit c.in-Err.ensures.cut)

pub returns-in-Ok-run_sections-clause-ends : goal.returns-in-Ok-run_sections-clause-ends
returns-in-Ok-run_sections-clause-ends g c =
    script_ran c.args.bytes.now c.args.script c.as_slice.result.now _ _ _ _ c.args.limit _ _ _ _ _ _ _ _ _ _ c.as_slice.ensures c.as_slice-2.ensures c.empty-book.ensures.journal c.empty-book.ensures.limit c.run_sections.ensures.limit c.run_sections-2.ensures.limit
    c.in-Ok.ensures.ran c.in-Ok-run_sections.ensures.ran c.run_sections-2.ensures.stands

pub returns-clause-ends : goal.returns-clause-ends
returns-clause-ends g c =
    cut_ends c.in-Err-run_sections.cut _ _ _ _ c.status_of-in-Err-run_sections.ensures
    (sessions_cut c.args.bytes.now c.args.script c.as_slice.result.now _ _ _ c.args.limit _ _ _ _ _ _ _ _ c.as_slice.ensures c.as_slice-2.ensures c.empty-book.ensures.journal c.empty-book.ensures.limit c.run_sections.ensures.limit c.in-Ok.ensures.ran c.in-Err-run_sections.ensures.cut)
