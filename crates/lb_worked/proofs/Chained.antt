-- The examples of specs/Chained, opened by hand.
use Rattle.std.proofs.Common.{ℕ, ◌≡◌, ◌∙◌, List, [], ◌∷◌, ◌++◌, false, true, map, None}
use Rattle.std.specs.Prelude.{codes}
use Rattle.lb_tree.specs.declared.query.Comparison.TheVariants as comparisons
use Rattle.lb_tree.specs.declared.query.Atom.TheVariants as atoms
use Rattle.lb_tree.specs.declared.query.Cond.TheOpen as layers
use Rattle.lb_tree.specs.declared.query.Expr.{Expr}
use Rattle.lb_tree.specs.Folds.{cond_of, expr_of, item_of, join_of}
use Rattle.lb_cat.specs.declared.catalog.ColumnRec.{ColumnRec}
use Rattle.lb_mean.specs.Named.{Uses, JoinUses, Joining, QueryUses, and_then, plainly}
use Rattle.lb_mean.specs.Refused.{columns_of}
use Rattle.lb_mean.specs.Uses.{using, use_steps, item_uses, join_uses, chain_uses, query_uses}
use Rattle.lb_worked.specs.Chained.{cat, OtherChain, LaterTable}
use Rattle.lb_worked.specs.Trees.{bare, col, int, equal, item, tab, from, joined, inner_join}
use Rattle.lb_worked.proofs.Computing.{u_cond, u_expr, u_item, u_join, u_chain, open_uses_of_query}

abbrev columns : List ℕ → List ColumnRec
columns = columns_of cat

abbrev one : List ℕ → Uses
one n = record { columns = plainly (bare n) ∷ []; tables = []; bare = true }

column : (n : List ℕ) → expr_of using (use_steps columns) (col n) ≡ one n
column n = u_expr columns (layers.Expr-F.Atom (atoms.Column (bare n)))

number : (n : ℕ) → expr_of using (use_steps columns) (int n) ≡ record { columns = []; tables = []; bare = false }
number n = u_expr columns (layers.Expr-F.Atom (atoms.Int (Rattle.std.specs.Prelude.pos n)))

compared : (a b : Expr) (x y : Uses) → expr_of using (use_steps columns) a ≡ x → expr_of using (use_steps columns) b ≡ y → cond_of using (use_steps columns) (equal a b) ≡ and_then x y
compared a b x y g h = u_cond columns (layers.Cond-F.Compare comparisons.Equal a b) ∙ λ i. and_then (g i) (h i)

z_shown : item_of using (use_steps columns) (item (col (codes "Z"))) ≡ item_uses columns (layers.Item-F.Value (one (codes "Z")) None)
z_shown = u_item columns (layers.Item-F.Value (col (codes "Z")) None) ∙ λ i. item_uses columns (layers.Item-F.Value (column (codes "Z") i) None)

abbrev x_and_y : Uses
x_and_y = and_then (one (codes "X")) (one (codes "Y"))

b_joined : join_of using (use_steps columns) (inner_join (tab (codes "B")) (equal (col (codes "X")) (col (codes "Y")))) ≡ join_uses columns (layers.Join-F.Inner (tab (codes "B")) x_and_y)
b_joined = u_join columns (layers.Join-F.Inner (tab (codes "B")) (equal (col (codes "X")) (col (codes "Y"))))
    ∙ λ i. join_uses columns (layers.Join-F.Inner (tab (codes "B")) (compared (col (codes "X")) (col (codes "Y")) (one (codes "X")) (one (codes "Y")) (column (codes "X")) (column (codes "Y")) i))

abbrev z_and_7 : Uses
z_and_7 = and_then (one (codes "Z")) (record { columns = []; tables = []; bare = false })

c_joined : join_of using (use_steps columns) (inner_join (tab (codes "C")) (equal (col (codes "Z")) (int 7))) ≡ join_uses columns (layers.Join-F.Inner (tab (codes "C")) z_and_7)
c_joined = u_join columns (layers.Join-F.Inner (tab (codes "C")) (equal (col (codes "Z")) (int 7)))
    ∙ λ i. join_uses columns (layers.Join-F.Inner (tab (codes "C")) (compared (col (codes "Z")) (int 7) (one (codes "Z")) (record { columns = []; tables = []; bare = false }) (column (codes "Z")) (number 7) i))

-- a query over chains
abbrev query : List (List Joining) → QueryUses
query chains = query_uses (record { distinct = false; items = item_uses columns (layers.Item-F.Value (one (codes "Z")) None) ∷ []; from = chains; filter = None; group = []; having = None })

abbrev chain : List ℕ → List JoinUses → List Joining
chain n joins = chain_uses columns (record { first = tab n; joins = joins })

abbrev told : QueryUses → List (List (List ℕ))
told q = map (λ u. u.columns) ((q.within []).tables ++ [])

pub other_chain : OtherChain
other_chain =
    (λ i. told (open_uses_of_query columns (record {
      distinct = false;
      items = item (col (codes "Z")) ∷ [];
      from = joined (tab (codes "A")) (inner_join (tab (codes "B")) (equal (col (codes "X")) (col (codes "Y"))) ∷ []) ∷ from (tab (codes "C")) ∷ [];
      filter = None;
      group = [];
      having = None;
    }) i))
    ∙ (λ i. told (query_uses (record {
      distinct = false;
      items = z_shown i ∷ [];
      from = (u_chain columns (record { first = tab (codes "A"); joins = inner_join (tab (codes "B")) (equal (col (codes "X")) (col (codes "Y"))) ∷ [] }) i)
          ∷ (u_chain columns (record { first = tab (codes "C"); joins = [] }) i) ∷ [];
      filter = None;
      group = [];
      having = None;
    })))
    ∙ (λ i. told (query (chain (codes "A") (b_joined i ∷ []) ∷ chain (codes "C") [] ∷ [])))

pub later_table : LaterTable
later_table =
    (λ i. told (open_uses_of_query columns (record {
      distinct = false;
      items = item (col (codes "Z")) ∷ [];
      from = joined (tab (codes "A")) (inner_join (tab (codes "B")) (equal (col (codes "X")) (col (codes "Y"))) ∷ inner_join (tab (codes "C")) (equal (col (codes "Z")) (int 7)) ∷ []) ∷ [];
      filter = None;
      group = [];
      having = None;
    }) i))
    ∙ (λ i. told (query_uses (record {
      distinct = false;
      items = z_shown i ∷ [];
      from = (u_chain columns (record { first = tab (codes "A"); joins = inner_join (tab (codes "B")) (equal (col (codes "X")) (col (codes "Y"))) ∷ inner_join (tab (codes "C")) (equal (col (codes "Z")) (int 7)) ∷ [] }) i) ∷ [];
      filter = None;
      group = [];
      having = None;
    })))
    ∙ (λ i. told (query (chain (codes "A") (b_joined i ∷ c_joined i ∷ []) ∷ [])))
