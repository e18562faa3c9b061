-- Where the record or the rows of a table stand.
use Rattle.std.specs.Prelude.{ℕ, ◌≡◌, ◌<◌, List, [], ◌∷◌, ◌++◌, Some, slice_set, slice_index_or, length}
use Rattle.lb_base.specs.declared.value.Value.{Value}
use Rattle.lb_model.specs.declared.catalog.TableRec.{TableRec}
use Rattle.lb_model.specs.declared.catalog.TableVersion.{TableVersion}
use Rattle.lb_model.specs.Catalog.{Tables, table_named, rows_of, put_version, with_changed}

-- the first record of that name stands at i, and a change of the record of that name is a change there
pub record FoundTable (n : List ℕ) (ts : List TableRec) (i : ℕ) : Type 0 where
  pub within : i < length ts
  pub first : TableRec
  pub named : table_named n ts ≡ Some first
  pub there : (d : TableRec) → slice_index_or ts i d ≡ first
  pub changed : (f : TableRec → TableRec) → with_changed n f ts ≡ slice_set ts i (f first)

-- the rows of the table of that name stand at i, and new rows for that table go there
pub record FoundVersion (n : List ℕ) (vs : Tables) (i : ℕ) : Type 0 where
  pub within : i < length vs
  pub first : TableVersion
  pub named : first.name ≡ n
  pub held : rows_of n vs ≡ first.rows
  pub there : (d : TableVersion) → slice_index_or vs i d ≡ first
  pub put : (rows : List (List Value)) → put_version (record { name = n; rows = rows }) vs ≡ slice_set vs i (record { name = n; rows = rows })

-- no rows of a table of that name are held, and new ones go last
pub record NoVersion (n : List ℕ) (vs : Tables) : Type 0 where
  pub none : rows_of n vs ≡ []
  pub put : (rows : List (List Value)) → put_version (record { name = n; rows = rows }) vs ≡ vs ++ record { name = n; rows = rows } ∷ []
