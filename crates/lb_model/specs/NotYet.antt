-- Which statements are not built yet: those of other forms than the five, and those that would go past a limit whose refusal is not built.
use Rattle.std.specs.Prelude.{ℕ, ◌≡◌, ◌≤◌, ◌*◌, Bool, true, false, not, ◌&&◌, ◌||◌, ◌==◌, nat_lt, List, [], ◌∷◌, ◌++◌, length, codes, Option, None, Some, is_some, ◌⊎◌, if◌then◌else◌}
use Rattle.std.specs.List.{list_any}
use Rattle.lb_base.specs.declared.value.Value.{Value}
use Rattle.lb_base.specs.declared.value.Value.TheVariants as values
use Rattle.lb_base.specs.declared.key.Ty.{Ty}
use Rattle.lb_base.specs.declared.key.Ty.TheVariants as types
use Rattle.lb_stmt.specs.declared.write.Stmt.{Stmt}
use Rattle.lb_stmt.specs.declared.write.Stmt.TheVariants as stmts
use Rattle.lb_stmt.specs.declared.change.Change.TheVariants as changes
use Rattle.lb_tok.specs.Syntax.{IsRepeatable}
use Rattle.lb_model.specs.Small.{IsSmall}
use Rattle.lb_model.specs.declared.catalog.ColumnRec.{ColumnRec}
use Rattle.lb_model.specs.declared.catalog.TableRec.{TableRec}
use Rattle.lb_model.specs.Catalog.{Cat, Tables, table_named, rows_of}
use Rattle.lb_model.specs.Answer.{given_rows, are_insertable}

-- a text of so many bytes is longer than the type takes
abbrev pub exceeds : Ty → ℕ → Bool
exceeds (types.Text width) n = nat_lt width n
exceeds _ n = false

abbrev pub is_too_wide : Ty → Value → Bool
is_too_wide ty (values.Text t) = exceeds ty (length t)
is_too_wide ty _ = false

-- the row has a value for each column, and no text is longer than its column takes
abbrev pub fits : List ColumnRec → List Value → Bool
fits [] [] = true
fits (c ∷ cs) (v ∷ vs) = not (is_too_wide c.ty v) && fits cs vs
fits _ _ = false

-- a table has at most so many cells, its rows times its columns
abbrev pub most_cells : ℕ
most_cells = 131072

-- rows times columns
abbrev pub cells : TableRec → List (List Value) → ℕ
cells t rows = length rows * length t.columns

-- the rows do not fit the table, or it would get too many cells by rows that may be inserted
abbrev pub is_insert_unbuilt : List ℕ → Option TableRec → List (List Value) → List (List Value) → Bool
is_insert_unbuilt user None old rows = false
is_insert_unbuilt user (Some t) old rows = list_any (λ row. not (fits t.columns row)) rows || (are_insertable user t rows && nat_lt most_cells (cells t (old ++ rows)))

-- the rows that the statement gives, where it is an INSERT of VALUES
abbrev pub rows_given : Stmt → List (List Value)
rows_given (stmts.Insert i) = given_rows i.source
rows_given s = []

-- the statement would make the 65th table, or its rows are not built
abbrev pub goes_past : Cat → Tables → List ℕ → Stmt → Bool
goes_past C T user (stmts.Change (changes.CreateTable n es policy)) = not (is_some (table_named n C.tables)) && nat_lt 63 (length C.tables)
goes_past C T user (stmts.Insert i) = is_insert_unbuilt user (table_named i.table C.tables) (rows_of i.table T) (given_rows i.source)
goes_past C T user s = false

-- of a statement that can be read: it is of another form, or of another user than SECADMIN, or it goes past a limit
abbrev pub IsUnbuilt : Cat → Tables → List ℕ → Stmt → Type 0
IsUnbuilt C T user s = (IsSmall s → ⊥) ⊎ ((user ≡ codes "SECADMIN") → ⊥) ⊎ (goes_past C T user s ≡ true)

-- the text can be read as this statement, which is not built yet
pub record IsNotYet (C : Cat) (T : Tables) (user text : List ℕ) (s : Stmt) : Type 0 where
  pub reads : IsRepeatable text s
  pub unbuilt : IsUnbuilt C T user s

-- the text can be read as this statement, which is built
pub record IsBuilt (C : Cat) (T : Tables) (user text : List ℕ) (s : Stmt) : Type 0 where
  pub reads : IsRepeatable text s
  pub built : IsUnbuilt C T user s → ⊥
