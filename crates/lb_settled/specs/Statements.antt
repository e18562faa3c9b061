-- Which statements change what.
use Rattle.std.specs.Prelude.{ℕ, Bool, true, false, not, List, ◌&&◌}
use Rattle.lb_stmt.specs.declared.change.Change.{Change}
use Rattle.lb_stmt.specs.declared.change.Change.TheVariants as changes
use Rattle.lb_stmt.specs.declared.write.Stmt.{Stmt}
use Rattle.lb_stmt.specs.declared.write.Stmt.TheVariants as stmts
use Rattle.lb_cat.specs.Stamps.{Kept}
use Rattle.lb_rows.specs.Tables.{Tables}
use Rattle.lb_changed.specs.declared.changed.Changed.{Changed as Made}
use Rattle.lb_journal.specs.Told.{is_change}
use Rattle.lb_settled.specs.Leaves.{Leaves}

-- it makes, alters or drops a table, or grants or revokes privileges on one
abbrev pub is_of_tables : Change → Bool
is_of_tables (changes.CreateTable n es policy) = true
is_of_tables (changes.DropTable n) = true
is_of_tables (changes.AddColumn n column ty) = true
is_of_tables (changes.AddPolicy n policy) = true
is_of_tables (changes.SecureColumn n column label) = true
is_of_tables (changes.UnsecureColumn n column) = true
is_of_tables (changes.GrantPrivileges privileges n to) = true
is_of_tables (changes.RevokePrivileges privileges n from) = true
is_of_tables s = false

-- the statement is such a change
abbrev pub is_change_of_tables : Stmt → Bool
is_change_of_tables (stmts.Change c) = is_of_tables c
is_change_of_tables s = false

-- the statement is a change of access control: of labels, permissions, masks, roles, authorities, or of what is active
abbrev pub is_change_of_control : Stmt → Bool
is_change_of_control s = is_change s && not (is_change_of_tables s)

-- what is left is what the change leaves that the statement is
abbrev pub LeavesOf : Kept → Tables → List ℕ → Stmt → Made → Type 0
LeavesOf K T user (stmts.Change c) m = Leaves K T user c m
LeavesOf K T user s m = ⊥
