use Rattle.std.proofs.Common.{sym, subst}
use Rattle.std.specs.Prelude.{IfOk}
use Rattle.lb_stmt.specs.declared.write.Stmt.{Stmt}
use Rattle.lb_rows.specs.Stamped.{rows_only}
use Rattle.lb_settled.specs.Statements.{LeavesOf}
use Rattle.lb_ddl.proofs.tables.change.Goals as goal

pub returns : goal.returns
returns c =
    subst (λ (s : Stmt). IfOk c.settled.result (LeavesOf c.args.catalog.now (rows_only c.args.tables.now) c.args.said.now.user s)) (sym c.in-Change.is)
    (c.settled.ensures (rows_only c.args.tables.now) c.args.said.now.user c.in-Change.change c.attempted-attempted.ensures)
