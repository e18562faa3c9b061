use Rattle.lb_split.proofs.Worded.{no_name}
use Rattle.lb_split.proofs.header.name.Goals as goal

pub returns-in-Err : goal.returns-in-Err
returns-in-Err c = no_name c.args.word.now c.in-Err.ensures.cases.0
