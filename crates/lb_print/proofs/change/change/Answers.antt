use Rattle.std.proofs.Common.{◌≡◌, OnOk, subst, sym}
use Rattle.lb_stmt.specs.declared.change.Change.{Change}
use Rattle.lb_tok.specs.ChangePieces.{change_pieces}
use Rattle.lb_tok.specs.Spacing.{laid}
use Rattle.lb_print.proofs.change.change.Goals as goal

pub returns-in-SecureColumn : goal.returns-in-SecureColumn
returns-in-SecureColumn c =
    subst (λ (x : Change). OnOk c.secure_column.result (c.secure_column.new.page ≡ laid c.args.page.now (change_pieces x))) (sym c.in-SecureColumn.is) c.secure_column.ensures

pub returns-in-GrantLabel : goal.returns-in-GrantLabel
returns-in-GrantLabel c =
    subst (λ (x : Change). OnOk c.grant_label.result (c.grant_label.new.page ≡ laid c.args.page.now (change_pieces x))) (sym c.in-GrantLabel.is) c.grant_label.ensures
