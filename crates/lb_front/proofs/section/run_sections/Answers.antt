use Rattle.std.proofs.Common.{List, map, ap}
use Rattle.lb_model.specs.Sections.{Section}
use Rattle.lb_front.specs.Scripted.{section_in}
use Rattle.lb_split.proofs.Mapped.{mapped_more}
use Rattle.lb_front.proofs.Sections.{looping_on, looping_cut}
use Rattle.lb_front.proofs.section.run_sections.Goals as goal

pub returns-in-Err-clause-cut : goal.returns-in-Err-clause-cut
returns-in-Err-clause-cut g c =
    let all : List Section = map (section_in c.args.bytes.now) c.args.sections.now in
    let more = mapped_more (section_in c.args.bytes.now) c.args.sections.now c.loop-section.section-index c.section-item.result (section_in c.args.bytes.now c.section-item.result) (ap (section_in c.args.bytes.now) c.section-item.is) c.loop-section-test.true in
    looping_cut _ _ c.run_section.new.book all c.loop-section.section-index _ _ _ _ _ _ _ _ _ c.loop-section.invariant more c.in-Err.ensures.cut c.run_section.ensures.stands c.run_section.ensures.limit

pub loop-section-preserved : goal.loop-section-preserved
loop-section-preserved g c =
    let all : List Section = map (section_in c.args.bytes.now) c.args.sections.now in
    let more = mapped_more (section_in c.args.bytes.now) c.args.sections.now c.loop-section.section-index c.section-item.result (section_in c.args.bytes.now c.section-item.result) (ap (section_in c.args.bytes.now) c.section-item.is) c.loop-section-test.true in
    looping_on _ _ _ all c.loop-section.section-index _ _ _ _ _ _ _ _ _ _ c.loop-section.invariant more c.in-Ok.ensures.ran c.run_section.ensures.stands c.run_section.ensures.counted c.run_section.ensures.limit c.run_section.ensures.later
