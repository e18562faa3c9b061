-- A (X), B (Y) and C (X, Z): which table a bare column of ON belongs to.
use Rattle.std.specs.Prelude.{ℕ, ◌≡◌, List, [], ◌∷◌, map, None, codes}
use Rattle.lb_base.specs.declared.key.Ty.TheVariants as types
use Rattle.lb_tree.specs.declared.query.Chain.{Chain}
use Rattle.lb_cat.specs.Catalog.{Cat}
use Rattle.lb_mean.specs.Refused.{tables_used}
use Rattle.lb_worked.specs.Trees.{col, int, equal, item, tab, from, joined, inner_join, select, asked}
use Rattle.lb_worked.specs.Tables.{column, plain, with_tables}

-- three tables of one column each
abbrev pub cat : Cat
cat = with_tables (plain (codes "A") (column (codes "X") types.Int ∷ []) ∷ plain (codes "B") (column (codes "Y") types.Int ∷ []) ∷ plain (codes "C") (column (codes "X") types.Int ∷ column (codes "Z") types.Int ∷ []) ∷ [])

-- the columns that SELECT Z FROM .. names through each table, in the order of the text
abbrev pub named_through : List Chain → List (List (List ℕ))
named_through chains = map (λ u. u.columns) (tables_used cat (asked (select (item (col (codes "Z")) ∷ []) chains None)))

-- SELECT Z FROM A JOIN B ON X = Y, C: X is A's alone, though C has a column X too
abbrev pub OtherChain : Type 0
OtherChain = named_through (joined (tab (codes "A")) (inner_join (tab (codes "B")) (equal (col (codes "X")) (col (codes "Y"))) ∷ []) ∷ from (tab (codes "C")) ∷ [])
    ≡ (codes "X" ∷ []) ∷ (codes "Y" ∷ []) ∷ (codes "Z" ∷ []) ∷ []

-- SELECT Z FROM A JOIN B ON X = Y JOIN C ON Z = 7: X is A's alone, since C stands later in the chain
abbrev pub LaterTable : Type 0
LaterTable = named_through (joined (tab (codes "A")) (inner_join (tab (codes "B")) (equal (col (codes "X")) (col (codes "Y"))) ∷ inner_join (tab (codes "C")) (equal (col (codes "Z")) (int 7)) ∷ []) ∷ [])
    ≡ (codes "X" ∷ []) ∷ (codes "Y" ∷ []) ∷ (codes "Z" ∷ codes "Z" ∷ []) ∷ []
