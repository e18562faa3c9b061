use Rattle.lb_read.proofs.Again.{spoken}
use Rattle.lb_readable.proofs.Again.{all_read_of, all_refused_of}
use Rattle.lb_readable.proofs.reading.readable.Goals as goal

pub read_again-again-requires : goal.read_again-again-requires
read_again-again-requires c = spoken c.args.text.now c.in_ok-stmt.stmt c.in_ok-stmt.ensures.read

pub returns-clause-read : goal.returns-clause-read
returns-clause-read c = all_read_of c.args.text.now c.in_ok-stmt.stmt c.read_again-again.result c.in_ok-stmt.ensures.read c.read_again-again.ensures.read

pub returns-clause-refused : goal.returns-clause-refused
returns-clause-refused c = all_refused_of c.args.text.now c.in_ok-stmt.stmt c.read_again-again.result c.in_ok-stmt.ensures.read c.read_again-again.ensures.refused
