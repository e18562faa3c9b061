-- Statements and stored conditions whose DATE literals are days of the calendar, as those of every text that is read are.
use Rattle.std.specs.Prelude.{Option, Some, None}
use Rattle.std.specs.List.{AllByRecursion}
use Rattle.lb_tree.specs.declared.query.Cond.{Cond}
use Rattle.lb_tree.specs.declared.query.Select.{Select}
use Rattle.lb_tree.specs.declared.query.SortKey.{SortKey}
use Rattle.lb_stmt.specs.declared.write.InsertSource.{InsertSource}
use Rattle.lb_stmt.specs.declared.write.InsertSource.TheVariants as sources
use Rattle.lb_stmt.specs.declared.write.Stmt.{Stmt}
use Rattle.lb_stmt.specs.declared.write.Stmt.TheVariants as stmts
use Rattle.lb_cat.specs.declared.catalog.MaskRec.{MaskRec}
use Rattle.lb_cat.specs.declared.catalog.PermissionRec.{PermissionRec}
use Rattle.lb_cat.specs.Catalog.{Cat, Table}
use Rattle.lb_kinds.specs.Days.{days_in, days_in_cond, days_in_query, AreDays}

-- ---- what a statement writes

-- the DATE literals of VALUES or of the query are days
abbrev pub SourceHasDays : InsertSource → Type 0
SourceHasDays (sources.Rows rows) = AllByRecursion (λ es. AllByRecursion (λ e. AreDays (days_in e)) es) rows
SourceHasDays (sources.Query s) = AreDays (days_in_query s.query)

-- so are those of the values that a statement writes
abbrev pub WritesDays : Stmt → Type 0
WritesDays (stmts.Select s) = Unit {0}
WritesDays (stmts.Insert i) = SourceHasDays i.source
WritesDays (stmts.Update u) = AllByRecursion (λ a. AreDays (days_in a.value)) u.assignments
WritesDays (stmts.Delete d) = Unit {0}
WritesDays (stmts.Change c) = Unit {0}

-- ---- what a statement reads

-- the DATE literals of a query and of its ORDER BY are days
abbrev pub SelectHasDays : Select → Type 0
SelectHasDays s = AreDays (days_in_query s.query) × AllByRecursion (λ (k : SortKey). AreDays (days_in k.by)) s.order

-- those of a WHERE condition are days, where there is one
abbrev pub FilterHasDays : Option Cond → Type 0
FilterHasDays None = Unit {0}
FilterHasDays (Some c) = AreDays (days_in_cond c)

-- those of an INSERT's query are days, where it has one
abbrev pub SourceReadsDays : InsertSource → Type 0
SourceReadsDays (sources.Rows rows) = Unit {0}
SourceReadsDays (sources.Query s) = SelectHasDays s

-- the DATE literals of the rows that a statement looks for are days: of a query, of an INSERT's query, and of the WHERE of UPDATE and DELETE
abbrev pub ReadsDays : Stmt → Type 0
ReadsDays (stmts.Select s) = SelectHasDays s
ReadsDays (stmts.Insert i) = SourceReadsDays i.source
ReadsDays (stmts.Update u) = FilterHasDays u.filter
ReadsDays (stmts.Delete d) = FilterHasDays d.filter
ReadsDays (stmts.Change c) = Unit {0}

-- all DATE literals of a query or a write are days
abbrev pub IsDated : Stmt → Type 0
IsDated s = WritesDays s × ReadsDays s

-- ---- what a catalogue stores

-- the DATE literals of a permission are days
abbrev pub PermissionHasDays : PermissionRec → Type 0
PermissionHasDays p = AreDays (days_in_cond p.condition)

-- those of a mask are days
abbrev pub MaskHasDays : MaskRec → Type 0
MaskHasDays m = AreDays (days_in m.value)

-- those of all permissions and of all masks of the table are days
abbrev pub StoresDays : Table → Type 0
StoresDays t = AllByRecursion PermissionHasDays t.permissions × AllByRecursion MaskHasDays t.masks

-- so they are in each table of the catalogue
abbrev pub CatalogStoresDays : Cat → Type 0
CatalogStoresDays C = AllByRecursion StoresDays C.tables
