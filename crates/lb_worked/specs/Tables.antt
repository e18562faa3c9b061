-- Short words for small catalogues, tables and sessions.
use Rattle.std.specs.Prelude.{ℕ, false, true, List, [], None, pos, codes}
use Rattle.lb_base.specs.declared.key.Ty.{Ty}
use Rattle.lb_base.specs.Evaluated.{Evaluated}
use Rattle.lb_base.specs.declared.value.Value.{Value}
use Rattle.lb_base.specs.declared.value.Value.TheVariants as values
use Rattle.lb_tree.specs.declared.query.Cond.{Cond}
use Rattle.lb_tree.specs.declared.query.Expr.{Expr}
use Rattle.lb_tree.specs.declared.query.Select.{Select}
use Rattle.lb_stmt.specs.declared.write.Stmt.{Stmt}
use Rattle.lb_cat.specs.declared.catalog.ColumnRec.{ColumnRec}
use Rattle.lb_cat.specs.declared.catalog.MaskRec.{MaskRec}
use Rattle.lb_cat.specs.declared.catalog.PermissionRec.{PermissionRec}
use Rattle.lb_cat.specs.declared.catalog.Privileges.{Privileges}
use Rattle.lb_cat.specs.Catalog.{Cat, Table, first_cat}
use Rattle.lb_cat.specs.Credentials.{cred}
use Rattle.lb_rows.specs.Tables.{Tables, Version}
use Rattle.lb_mean.specs.Answer.{Checks}
use Rattle.lb_mean.specs.Output.{rows_told}
use Rattle.lb_mean.specs.Visible.{guarded}
use Rattle.lb_answer.specs.Answer.{Answered, answer}

-- ---- tables

-- a column that takes nulls and is not secured
abbrev pub column : List ℕ → Ty → ColumnRec
column n ty = record { name = n; ty = ty; not_null = false; secured = None }

-- everybody may do everything
abbrev pub everything : Privileges
everything = record { select = true; insert = true; update = true; delete = true }

-- a table that everybody may read and write, without access control
abbrev pub plain : List ℕ → List ColumnRec → Table
plain n columns = record { name = n; owner = codes "SECADMIN"; columns = columns; key = None; policy = None; row_control = false; column_control = false; permissions = []; masks = []; public = everything }

-- the same under row access control
abbrev pub guarded_by : List PermissionRec → Table → Table
guarded_by ps t = record t { row_control = true; permissions = ps }

-- the same under column access control
abbrev pub masked_by : List MaskRec → Table → Table
masked_by ms t = record t { column_control = true; masks = ms }

-- an enabled permission of a table
abbrev pub permission : List ℕ → Table → Cond → PermissionRec
permission n t c = record { name = n; correlation = t.name; condition = c; enabled = true }

-- an enabled mask of the column at a place
abbrev pub mask : List ℕ → Table → ℕ → Expr → MaskRec
mask n t at e = record { name = n; column = at; correlation = t.name; value = e; enabled = true }

-- ---- rows

-- a number as a value
abbrev pub number : ℕ → Value
number n = values.Int (pos n)

-- a text as a value
abbrev pub word : List ℕ → Value
word t = values.Text t

-- the greatest 64-bit integer
abbrev pub greatest : ℕ
greatest = 9_223_372_036_854_775_807

-- the rows of a table
abbrev pub holding : Table → List (List Value) → Version
holding t rows = record { name = t.name; rows = rows }

-- ---- statements

-- the statements here have no refusal of names or types
abbrev pub no_checks : Checks
no_checks tables policies s = None

-- the first catalogue with these tables
abbrev pub with_tables : List Table → Cat
with_tables ts = record first_cat { tables = ts }

-- what a statement of a user without groups is answered
abbrev pub answered : Cat → Tables → List ℕ → Stmt → Answered
answered C T user s = answer no_checks C (cred C user []) T (pos 0) s

-- what a query of a user without groups gives, where it isn't refused before
abbrev pub given_rows : Cat → Tables → List ℕ → Select → Evaluated (List (List Value))
given_rows C T user s = rows_told (guarded C (cred C user []) T (pos 0)) s
