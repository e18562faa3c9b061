-- The pieces of queries, conditions and expressions in canonical order.
use Rattle.std.specs.Prelude.{ℕ, suc, Bool, true, false, nat_le, List, [], ◌∷◌, ◌++◌, map, Option, Some, None, ℤ, pos, negsuc}
use Rattle.std.specs.List.{flat_map}
use Rattle.lb_tree.specs.declared.query.Comparison.{Comparison}
use Rattle.lb_tree.specs.declared.query.Comparison.TheVariants as comparisons
use Rattle.lb_tree.specs.declared.query.Aggregate.{Aggregate}
use Rattle.lb_tree.specs.declared.query.Aggregate.TheVariants as aggregates
use Rattle.lb_tree.specs.declared.query.Function.{Function}
use Rattle.lb_tree.specs.declared.query.Function.TheVariants as functions
use Rattle.lb_tree.specs.declared.query.Direction.{Direction}
use Rattle.lb_tree.specs.declared.query.Direction.TheVariants as directions
use Rattle.lb_tree.specs.declared.query.Atom.{Atom}
use Rattle.lb_tree.specs.declared.query.Atom.TheVariants as atoms
use Rattle.lb_tree.specs.declared.query.Column.{Column}
use Rattle.lb_tree.specs.declared.query.Tab.{Tab}
use Rattle.lb_tree.specs.declared.query.Expr.{Expr}
use Rattle.lb_tree.specs.declared.query.Cond.{Cond}
use Rattle.lb_tree.specs.declared.query.Item.{Item}
use Rattle.lb_tree.specs.declared.query.Join.{Join}
use Rattle.lb_tree.specs.declared.query.Arm.{Arm}
use Rattle.lb_tree.specs.declared.query.Chain.{Chain}
use Rattle.lb_tree.specs.declared.query.Choice.{Choice}
use Rattle.lb_tree.specs.declared.query.Query.{Query}
use Rattle.lb_tree.specs.declared.query.Signed.{Signed}
use Rattle.lb_tree.specs.declared.query.SortKey.{SortKey}
use Rattle.lb_tree.specs.declared.query.Select.{Select}
use Rattle.lb_tree.specs.declared.query.Cond.TheOpen as layers
use Rattle.lb_tree.specs.declared.query.Cond.TheFolds.{fold-Cond, fold-Expr, fold-Item, fold-Join, fold-Arm, fold-Chain, fold-Choice, fold-Query, fold-Signed}
use Rattle.lb_tok.specs.declared.kind.Kind.{Kind}
use Rattle.lb_tok.specs.declared.kind.Kind.TheVariants as kinds
use Rattle.lb_tok.specs.Dates.{date_text}
use Rattle.lb_tok.specs.Spacing.{Piece, mark, name, dotted, all_of, opening, literal, digits, negative}

-- ---- lists, brackets and what may be left out

-- each part after the symbol
abbrev pub behind : Kind → List (List Piece) → List Piece
behind k [] = []
behind k (x ∷ xs) = mark k ∷ (x ++ behind k xs)

-- the parts with the symbol between two
abbrev pub separated : Kind → List (List Piece) → List Piece
separated k [] = []
separated k (x ∷ xs) = x ++ behind k xs

abbrev pub listed : List (List Piece) → List Piece
listed = separated kinds.Comma

abbrev pub parens : List Piece → List Piece
parens ps = mark kinds.Open ∷ (ps ++ mark kinds.Close ∷ [])

-- the name of a function, and its arguments in parentheses
abbrev pub call : Kind → List Piece → List Piece
call k ps = opening k ∷ (ps ++ mark kinds.Close ∷ [])

-- the word, and the part after it, where there is one
abbrev pub clause : Kind → Option (List Piece) → List Piece
clause k None = []
clause k (Some ps) = mark k ∷ ps

abbrev pub flag : Kind → Bool → List Piece
flag k true = mark k ∷ []
flag k false = []

abbrev pub option_of : {A B : Type 0} → (A → B) → Option A → Option B
option_of f None = None
option_of f (Some x) = Some (f x)

-- ---- names and literals

-- AS is always written
abbrev pub alias_pieces : Option (List ℕ) → List Piece
alias_pieces None = []
alias_pieces (Some n) = mark kinds.As ∷ name n ∷ []

abbrev pub tab_pieces : Tab → List Piece
tab_pieces t = name t.table ∷ alias_pieces t.correlation

abbrev pub column_piece : Option (List ℕ) → List ℕ → Piece
column_piece None n = name n
column_piece (Some t) n = dotted t n

abbrev pub column_pieces : Column → List Piece
column_pieces c = column_piece c.correlation c.name ∷ []

abbrev pub text_pieces : List ℕ → List Piece
text_pieces text = literal text ∷ []

abbrev pub name_pieces : List ℕ → List Piece
name_pieces n = name n ∷ []

abbrev pub int_piece : ℤ → Piece
int_piece (pos n) = digits n
int_piece (negsuc n) = negative (suc n)

-- SESSION_USER, and the texts after it
abbrev pub verified : List (List ℕ) → List Piece
verified texts = mark kinds.SessionUser ∷ behind kinds.Comma (map text_pieces texts)

abbrev pub two_texts : List ℕ → List ℕ → List Piece
two_texts a b = literal a ∷ mark kinds.Comma ∷ literal b ∷ []

abbrev pub atom_pieces : Atom → List Piece
atom_pieces atoms.Null = mark kinds.Null ∷ []
atom_pieces (atoms.Int n) = int_piece n ∷ []
atom_pieces (atoms.Text text) = text_pieces text
atom_pieces (atoms.Date day) = mark kinds.Date ∷ literal (date_text day) ∷ []
atom_pieces atoms.CurrentDate = mark kinds.Current ∷ mark kinds.Date ∷ []
atom_pieces atoms.SessionUser = mark kinds.SessionUser ∷ []
atom_pieces (atoms.Column c) = column_pieces c
atom_pieces atoms.CountRows = call kinds.Count (mark kinds.Star ∷ [])
atom_pieces (atoms.VerifyRole roles) = call kinds.VerifyRoleForUser (verified roles)
atom_pieces (atoms.VerifyGroup groups) = call kinds.VerifyGroupForUser (verified groups)
atom_pieces (atoms.SecLabel policy text) = call kinds.SecLabel (two_texts policy text)
atom_pieces (atoms.SecLabelByName policy label) = call kinds.SecLabelByName (two_texts policy label)
atom_pieces (atoms.SecLabelToChar policy c) = call kinds.SecLabelToChar (literal policy ∷ mark kinds.Comma ∷ column_pieces c)

-- ---- how tightly the parts of a node hold together

-- The pieces of an expression or a condition, and how tightly they hold together. Of expressions, 0 is a list of `+` and `-`,
-- 1 of `||`, 2 of `*`, and 3 any other; of conditions, 0 is a list of OR, 1 of AND, 2 is NOT, and 3 any other.
pub record Phrase : Type 0 where
  pub pieces : List Piece
  pub rank : ℕ

-- in parentheses unless it holds together as tightly as asked
abbrev pub enclosed : Bool → List Piece → List Piece
enclosed true ps = ps
enclosed false ps = parens ps

abbrev pub at_least : ℕ → Phrase → List Piece
at_least rank x = enclosed (nat_le rank x.rank) x.pieces

abbrev pub pieces_of : Phrase → List Piece
pieces_of x = x.pieces

-- ---- expressions

abbrev pub sign_kind : Bool → Kind
sign_kind true = kinds.Minus
sign_kind false = kinds.Plus

-- a part of a sum after its sign
abbrev pub signed : Bool × Phrase → List Piece
signed x = mark (sign_kind x.0) ∷ at_least 1 x.1

-- no sign stands before the first part
abbrev pub sum_pieces : List (Bool × Phrase) → List Piece
sum_pieces [] = []
sum_pieces (x ∷ xs) = at_least 1 x.1 ++ flat_map signed xs

abbrev pub else_pieces : Option Phrase → List Piece
else_pieces x = clause kinds.Else (option_of pieces_of x)

-- arms between CASE and END; before them the operand, if there is one
abbrev pub case_pieces : List Piece → List (List Piece) → Option Phrase → List Piece
case_pieces operand arms otherwise = mark kinds.Case ∷ (operand ++ (flat_map (λ a. a) arms ++ (else_pieces otherwise ++ mark kinds.End ∷ [])))

-- the name of an aggregate with its `(`, and DISTINCT where it is meant
abbrev pub aggregate_front : Aggregate → List Piece
aggregate_front aggregates.Count = opening kinds.Count ∷ []
aggregate_front aggregates.CountDistinct = opening kinds.Count ∷ mark kinds.Distinct ∷ []
aggregate_front aggregates.Sum = opening kinds.Sum ∷ []
aggregate_front aggregates.Min = opening kinds.Min ∷ []
aggregate_front aggregates.Max = opening kinds.Max ∷ []

abbrev pub aggregate_pieces : Aggregate → List Piece → List Piece
aggregate_pieces a x = aggregate_front a ++ (x ++ mark kinds.Close ∷ [])

abbrev pub function_kind : Function → Kind
function_kind functions.Length = kinds.Length
function_kind functions.Year = kinds.Year
function_kind functions.Month = kinds.Month
function_kind functions.Day = kinds.Day

-- A tree is folded: what each node gives, where its parts have given theirs. Of a part of a sum that is whether a minus
-- stands before it, and its expression.
abbrev pub Given : (Type 0 → Type 0 → Type 0 → Type 0 → Type 0 → Type 0 → Type 0 → Type 0 → Type 0 → Type 0) → Type 0
Given Layer = Layer Phrase Phrase (List Piece) (List Piece) (List Piece) (List Piece) (List Piece) (List Piece) (Bool × Phrase)

abbrev pub expr_layer : Given layers.Expr-F → Phrase
expr_layer (layers.Expr-F.Atom x) = record { pieces = atom_pieces x; rank = 3 }
expr_layer (layers.Expr-F.Sum xs) = record { pieces = sum_pieces xs; rank = 0 }
expr_layer (layers.Expr-F.Concat xs) = record { pieces = separated kinds.Bars (map (at_least 2) xs); rank = 1 }
expr_layer (layers.Expr-F.Product xs) = record { pieces = separated kinds.Star (map (at_least 3) xs); rank = 2 }
expr_layer (layers.Expr-F.Case arms otherwise) = record { pieces = case_pieces [] arms otherwise; rank = 3 }
expr_layer (layers.Expr-F.Match operand choices otherwise) = record { pieces = case_pieces operand.pieces choices otherwise; rank = 3 }
expr_layer (layers.Expr-F.Aggregate a x) = record { pieces = aggregate_pieces a x.pieces; rank = 3 }
expr_layer (layers.Expr-F.Substr text from length) = record { pieces = call kinds.Substr (text.pieces ++ mark kinds.Comma ∷ (from.pieces ++ clause kinds.Comma (option_of pieces_of length))); rank = 3 }
expr_layer (layers.Expr-F.Apply f x) = record { pieces = call (function_kind f) x.pieces; rank = 3 }
expr_layer (layers.Expr-F.Coalesce xs) = record { pieces = call kinds.Coalesce (listed (map pieces_of xs)); rank = 3 }

abbrev pub signed_layer : Given layers.Signed-F → Bool × Phrase
signed_layer x = (x.minus, x.part)

abbrev pub arm_layer : Given layers.Arm-F → List Piece
arm_layer x = mark kinds.When ∷ (x.when.pieces ++ mark kinds.Then ∷ x.result.pieces)

abbrev pub choice_layer : Given layers.Choice-F → List Piece
choice_layer x = mark kinds.When ∷ (x.when.pieces ++ mark kinds.Then ∷ x.result.pieces)

-- ---- conditions

abbrev pub comparison_kind : Comparison → Kind
comparison_kind comparisons.Equal = kinds.Equal
comparison_kind comparisons.NotEqual = kinds.NotEqual
comparison_kind comparisons.Less = kinds.Less
comparison_kind comparisons.AtMost = kinds.AtMost
comparison_kind comparisons.Greater = kinds.Greater
comparison_kind comparisons.AtLeast = kinds.AtLeast

-- NOT stands first, also over IS NULL, IN and BETWEEN
abbrev pub cond_layer : Given layers.Cond-F → Phrase
cond_layer (layers.Cond-F.Or xs) = record { pieces = separated kinds.Or (map (at_least 1) xs); rank = 0 }
cond_layer (layers.Cond-F.And xs) = record { pieces = separated kinds.And (map (at_least 2) xs); rank = 1 }
cond_layer (layers.Cond-F.Not x) = record { pieces = mark kinds.Not ∷ at_least 3 x; rank = 2 }
cond_layer (layers.Cond-F.Exists q) = record { pieces = mark kinds.Exists ∷ parens q; rank = 3 }
cond_layer (layers.Cond-F.Compare by a b) = record { pieces = a.pieces ++ mark (comparison_kind by) ∷ b.pieces; rank = 3 }
cond_layer (layers.Cond-F.CompareQuery by a q) = record { pieces = a.pieces ++ mark (comparison_kind by) ∷ parens q; rank = 3 }
cond_layer (layers.Cond-F.IsNull a) = record { pieces = a.pieces ++ mark kinds.Is ∷ mark kinds.Null ∷ []; rank = 3 }
cond_layer (layers.Cond-F.InQuery a q) = record { pieces = a.pieces ++ mark kinds.In ∷ parens q; rank = 3 }
cond_layer (layers.Cond-F.InList a xs) = record { pieces = a.pieces ++ mark kinds.In ∷ parens (listed (map pieces_of xs)); rank = 3 }
cond_layer (layers.Cond-F.Between a low high) = record { pieces = a.pieces ++ mark kinds.Between ∷ (low.pieces ++ mark kinds.And ∷ high.pieces); rank = 3 }

-- ---- queries

abbrev pub item_layer : Given layers.Item-F → List Piece
item_layer layers.Item-F.Everything = mark kinds.Star ∷ []
item_layer (layers.Item-F.AllOf n) = all_of n ∷ []
item_layer (layers.Item-F.Value x alias) = x.pieces ++ alias_pieces alias

-- INNER and OUTER are not written
abbrev pub join_layer : Given layers.Join-F → List Piece
join_layer (layers.Join-F.Inner t on) = mark kinds.Join ∷ (tab_pieces t ++ mark kinds.On ∷ on.pieces)
join_layer (layers.Join-F.Left t on) = mark kinds.Left ∷ mark kinds.Join ∷ (tab_pieces t ++ mark kinds.On ∷ on.pieces)
join_layer (layers.Join-F.Cross t) = mark kinds.Cross ∷ mark kinds.Join ∷ tab_pieces t

abbrev pub chain_layer : Given layers.Chain-F → List Piece
chain_layer x = tab_pieces x.first ++ flat_map (λ j. j) x.joins

abbrev pub group_pieces : List Column → List Piece
group_pieces [] = []
group_pieces (c ∷ cs) = mark kinds.Group ∷ mark kinds.By ∷ listed (map column_pieces (c ∷ cs))

abbrev pub query_layer : Given layers.Query-F → List Piece
query_layer q =
    mark kinds.Select ∷ (flag kinds.Distinct q.distinct ++ (listed q.items
    ++ mark kinds.From ∷ (listed q.from
    ++ (clause kinds.Where (option_of pieces_of q.filter)
    ++ (group_pieces q.group
    ++ clause kinds.Having (option_of pieces_of q.having))))))

-- ---- whole trees

unfoldable pub cond_phrase : Cond → Phrase
cond_phrase = fold-Cond Phrase Phrase (List Piece) (List Piece) (List Piece) (List Piece) (List Piece) (List Piece) (Bool × Phrase) cond_layer expr_layer item_layer join_layer arm_layer chain_layer choice_layer query_layer signed_layer

unfoldable pub expr_phrase : Expr → Phrase
expr_phrase = fold-Expr Phrase Phrase (List Piece) (List Piece) (List Piece) (List Piece) (List Piece) (List Piece) (Bool × Phrase) cond_layer expr_layer item_layer join_layer arm_layer chain_layer choice_layer query_layer signed_layer

unfoldable pub item_pieces : Item → List Piece
item_pieces = fold-Item Phrase Phrase (List Piece) (List Piece) (List Piece) (List Piece) (List Piece) (List Piece) (Bool × Phrase) cond_layer expr_layer item_layer join_layer arm_layer chain_layer choice_layer query_layer signed_layer

unfoldable pub join_pieces : Join → List Piece
join_pieces = fold-Join Phrase Phrase (List Piece) (List Piece) (List Piece) (List Piece) (List Piece) (List Piece) (Bool × Phrase) cond_layer expr_layer item_layer join_layer arm_layer chain_layer choice_layer query_layer signed_layer

unfoldable pub arm_pieces : Arm → List Piece
arm_pieces = fold-Arm Phrase Phrase (List Piece) (List Piece) (List Piece) (List Piece) (List Piece) (List Piece) (Bool × Phrase) cond_layer expr_layer item_layer join_layer arm_layer chain_layer choice_layer query_layer signed_layer

unfoldable pub chain_pieces : Chain → List Piece
chain_pieces = fold-Chain Phrase Phrase (List Piece) (List Piece) (List Piece) (List Piece) (List Piece) (List Piece) (Bool × Phrase) cond_layer expr_layer item_layer join_layer arm_layer chain_layer choice_layer query_layer signed_layer

unfoldable pub choice_pieces : Choice → List Piece
choice_pieces = fold-Choice Phrase Phrase (List Piece) (List Piece) (List Piece) (List Piece) (List Piece) (List Piece) (Bool × Phrase) cond_layer expr_layer item_layer join_layer arm_layer chain_layer choice_layer query_layer signed_layer

unfoldable pub query_pieces : Query → List Piece
query_pieces = fold-Query Phrase Phrase (List Piece) (List Piece) (List Piece) (List Piece) (List Piece) (List Piece) (Bool × Phrase) cond_layer expr_layer item_layer join_layer arm_layer chain_layer choice_layer query_layer signed_layer

unfoldable pub signed_part : Signed → Bool × Phrase
signed_part = fold-Signed Phrase Phrase (List Piece) (List Piece) (List Piece) (List Piece) (List Piece) (List Piece) (Bool × Phrase) cond_layer expr_layer item_layer join_layer arm_layer chain_layer choice_layer query_layer signed_layer

abbrev pub expr_pieces : Expr → List Piece
expr_pieces e = (expr_phrase e).pieces

abbrev pub cond_pieces : Cond → List Piece
cond_pieces c = (cond_phrase c).pieces

-- ---- order, FETCH and writes

-- ASC is not written
abbrev pub direction_pieces : Direction → List Piece
direction_pieces directions.Ascending = []
direction_pieces directions.Descending = mark kinds.Desc ∷ []

abbrev pub key_pieces : SortKey → List Piece
key_pieces k = expr_pieces k.by ++ direction_pieces k.direction

abbrev pub order_pieces : List SortKey → List Piece
order_pieces [] = []
order_pieces (k ∷ ks) = mark kinds.Order ∷ mark kinds.By ∷ listed (map key_pieces (k ∷ ks))

abbrev pub fetch_pieces : Option ℤ → List Piece
fetch_pieces None = []
fetch_pieces (Some n) = mark kinds.Fetch ∷ mark kinds.First ∷ int_piece n ∷ mark kinds.Rows ∷ mark kinds.Only ∷ []

abbrev pub select_pieces : Select → List Piece
select_pieces s = query_pieces s.query ++ (order_pieces s.order ++ fetch_pieces s.fetch)

abbrev pub where_pieces : Option Cond → List Piece
where_pieces c = clause kinds.Where (option_of cond_pieces c)
