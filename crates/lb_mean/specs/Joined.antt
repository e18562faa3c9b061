-- FROM: nested loops over what is seen of the tables. A condition of ON has neither arithmetic nor a subquery, so in a statement whose types
-- are right it never faults. Where it would, the fault stands in the place of the rows that it would have given: so the joined rows can be
-- gone through one at a time.
use Rattle.std.specs.Prelude.{ℕ, if◌then◌else◌, List, [], ◌∷◌, ◌++◌, map, fold, Ok, Err}
use Rattle.std.specs.List.{flat_map}
use Rattle.lb_base.specs.declared.truth.Truth.{Truth}
use Rattle.lb_base.specs.declared.value.Value.{Value}
use Rattle.lb_base.specs.declared.value.Value.TheVariants as values
use Rattle.lb_base.specs.Evaluated.{Evaluated}
use Rattle.lb_base.specs.Truths.{is_true}
use Rattle.lb_tree.specs.declared.query.Tab.{Tab}
use Rattle.lb_tree.specs.declared.query.Cond.TheOpen as layers
use Rattle.lb_tree.specs.Folds.{Layer}
use Rattle.lb_names.specs.Sights.{correlation}
use Rattle.lb_mean.specs.Setting.{Setting, Source, Env, JoinedRow, Piece, row_frame, given}
use Rattle.lb_mean.specs.Meant.{Says, Joins, Chains, meaning}

-- a row of a table under the name that the table has in the query
abbrev pub piece : Source → List ℕ → List Value → Piece
piece source correlation vs = record { correlation = correlation; columns = source.columns; cells = given vs; shown = source.shown vs }

-- The rows that are seen. A query asks for them only where each of its tables could be seen without a fault.
abbrev pub rows_seen : Evaluated (List (List Value)) → List (List Value)
rows_seen (Ok rows) = rows
rows_seen (Err fault) = []

-- the rows of one table of FROM
abbrev pub pieces : Source → Tab → List Piece
pieces source tab = map (piece source (correlation tab)) (rows_seen source.rows)

-- the row of nulls that LEFT JOIN adds
abbrev pub null_piece : Source → Tab → Piece
null_piece source tab = piece source (correlation tab) (map (λ c. values.Null) source.columns)

-- ---- joins

-- a row continued by another one
abbrev pub beside : JoinedRow → Piece → JoinedRow
beside row p = row ++ (p ∷ [])

-- the row where ON is true, nothing where it is false or unknown, and the fault where it faults
abbrev pub if_true : JoinedRow → Evaluated Truth → List (Evaluated JoinedRow)
if_true row (Ok t) = if is_true t then Ok row ∷ [] else []
if_true row (Err fault) = Err fault ∷ []

-- a row continued by each row of a table with which ON is true, in the order of the table
abbrev pub matches : Says → Env → JoinedRow → List Piece → List (Evaluated JoinedRow)
matches on env row others = flat_map (λ p. if_true (beside row p) (on.test (row_frame (beside row p) ∷ env))) others

-- the row of nulls where nothing matches
abbrev pub or_nulls : JoinedRow → List (Evaluated JoinedRow) → List (Evaluated JoinedRow)
or_nulls nulls [] = Ok nulls ∷ []
or_nulls nulls (x ∷ xs) = x ∷ xs

-- INNER JOIN
abbrev pub inner : Source → Tab → Says → Joins
inner source tab on = record { seen = source.rows; rows = λ env row. matches on env row (pieces source tab) }

-- LEFT JOIN
abbrev pub left : Source → Tab → Says → Joins
left source tab on = record { seen = source.rows; rows = λ env row. or_nulls (beside row (null_piece source tab)) (matches on env row (pieces source tab)) }

-- CROSS JOIN
abbrev pub cross : Source → Tab → Joins
cross source tab = record { seen = source.rows; rows = λ env row. map (λ p. Ok (beside row p)) (pieces source tab) }

-- what a join means
abbrev pub join_step : Setting → Layer meaning layers.Join-F → Joins
join_step S (layers.Join-F.Inner tab on) = inner (S.sources tab.table) tab on
join_step S (layers.Join-F.Left tab on) = left (S.sources tab.table) tab on
join_step S (layers.Join-F.Cross tab) = cross (S.sources tab.table) tab

-- ---- chains

-- what follows from a row, or its fault
abbrev pub follow : (JoinedRow → List (Evaluated JoinedRow)) → Evaluated JoinedRow → List (Evaluated JoinedRow)
follow step (Ok row) = step row
follow step (Err fault) = Err fault ∷ []

-- the rows so far, each with what follows from it in its place
abbrev pub continued : (JoinedRow → List (Evaluated JoinedRow)) → List (Evaluated JoinedRow) → List (Evaluated JoinedRow)
continued step rows = flat_map (follow step) rows

-- the rows so far, continued by a join
abbrev pub joined_with : Env → List (Evaluated JoinedRow) → Joins → List (Evaluated JoinedRow)
joined_with env rows join = continued (join.rows env) rows

-- the rows of a table with its joins
abbrev pub chain_rows : Source → Tab → List Joins → Env → List (Evaluated JoinedRow)
chain_rows source tab joins env = fold (joined_with env) (map (λ p. Ok (p ∷ [])) (pieces source tab)) joins

-- a table with its joins
abbrev pub chain : Source → Tab → List Joins → Chains
chain source tab joins = record { seen = source.rows ∷ map (λ join. join.seen) joins; rows = chain_rows source tab joins }

-- what a table with its joins means
abbrev pub chain_step : Setting → Layer meaning layers.Chain-F → Chains
chain_step S x = chain (S.sources x.first.table) x.first x.joins

-- ---- FROM

-- a row in front of another one, or the other one's fault
abbrev pub in_front : JoinedRow → Evaluated JoinedRow → Evaluated JoinedRow
in_front row (Ok other) = Ok (row ++ other)
in_front row (Err fault) = Err fault

-- nested loops over the chains, the first one outermost
abbrev pub combined : List (List (Evaluated JoinedRow)) → List (Evaluated JoinedRow)
combined [] = Ok [] ∷ []
combined (rows ∷ chains) = continued (λ row. map (in_front row) (combined chains)) rows

-- the joined rows of a query
abbrev pub joined : List Chains → Env → List (Evaluated JoinedRow)
joined chains env = combined (map (λ c. c.rows env) chains)
