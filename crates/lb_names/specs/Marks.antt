-- The names that a query, a condition or an expression writes, in text order, each with what is in sight of it. No catalogue is asked.
use Rattle.std.specs.Prelude.{List, [], ◌∷◌, ◌++◌, map, Option, None, Some}
use Rattle.std.specs.List.{flat_map}
use Rattle.lb_tree.specs.declared.query.Atom.{Atom}
use Rattle.lb_tree.specs.declared.query.Atom.TheVariants as atoms
use Rattle.lb_tree.specs.declared.query.Column.{Column}
use Rattle.lb_tree.specs.declared.query.Tab.{Tab}
use Rattle.lb_tree.specs.declared.query.Cond.{Cond}
use Rattle.lb_tree.specs.declared.query.Expr.{Expr}
use Rattle.lb_tree.specs.declared.query.Query.{Query}
use Rattle.lb_tree.specs.declared.query.Cond.TheOpen as layers
use Rattle.lb_tree.specs.Folds.{Kinds, Layer, Steps, cond_of, expr_of, query_of}
use Rattle.lb_names.specs.declared.place.Seen.{Seen}
use Rattle.lb_names.specs.Sights.{Name, correlation, calls_of, items_in, Sight, inside, inside_on}

-- a name that is written, or the beginning of a query
pub data Mark : Type 0 where
  -- a query with these FROM items begins, or a write with this target
  enter : List Seen → Mark
  -- a FROM item or a target, after the correlation names that come before it in its query; and those of the enclosing queries
  item : List Name → List Name → Tab → Mark
  -- a column where these items are in sight
  column : List Seen → Column → Mark
  -- `*` or `x.*` in a query with these items
  star : List Seen → Option Name → Mark
  -- a call that names a policy
  call : Atom → Mark

-- marks in text order
abbrev pub Marks : Type 0
Marks = List Mark

-- ---- what each kind of node is for the names in it

-- the marks of a part, by what is in sight
pub record Marked : Type 0 where
  pub marks : Sight → Marks

-- a join's table, and the marks of its ON condition
pub record JoinMarks : Type 0 where
  pub tab : Tab
  pub on : Sight → Marks

-- the tables of a chain
pub record ChainMarks : Type 0 where
  pub first : Tab
  pub joins : List JoinMarks

-- how the marks of the parts are had, whatever else a definition by recursion on the tree gives of them
pub record Marking (K : Kinds) : Type 0 where
  pub cond : K.cond → Sight → Marks
  pub expr : K.expr → Sight → Marks
  pub item : K.item → Sight → Marks
  pub join : K.join → JoinMarks
  pub arm : K.arm → Sight → Marks
  pub chain : K.chain → ChainMarks
  pub choice : K.choice → Sight → Marks
  pub query : K.query → Sight → Marks
  pub signed : K.signed → Sight → Marks

-- the marks of all parts in order
abbrev pub of_each : {A : Type 0} → (A → Sight → Marks) → List A → Sight → Marks
of_each marks xs v = flat_map (λ x. marks x v) xs

-- the marks of a part that may be missing
abbrev pub of_any : {A : Type 0} → (A → Sight → Marks) → Option A → Sight → Marks
of_any marks None v = []
of_any marks (Some x) v = marks x v

-- SECLABEL_TO_CHAR names its policy before its column
abbrev pub atom_marks : Atom → Sight → Marks
atom_marks (atoms.Column c) v = column v.seen c ∷ []
atom_marks (atoms.SecLabel p t) v = call (atoms.SecLabel p t) ∷ []
atom_marks (atoms.SecLabelByName p l) v = call (atoms.SecLabelByName p l) ∷ []
atom_marks (atoms.SecLabelToChar p c) v = call (atoms.SecLabelToChar p c) ∷ column v.seen c ∷ []
atom_marks _ v = []

-- ---- FROM

-- the tables of a chain
abbrev pub tables_of_chain : ChainMarks → List Tab
tables_of_chain chain = chain.first ∷ map (λ j. j.tab) chain.joins

-- all FROM items of a query, in text order
abbrev pub tables_of : List ChainMarks → List Tab
tables_of chains = flat_map tables_of_chain chains

-- the joins of a chain after these tables of it, and after these correlation names of the query; all are the query's names
abbrev pub joins_marks : Sight → List Name → List Name → List Tab → List JoinMarks → Marks
joins_marks outer all before tabs [] = []
joins_marks outer all before tabs (j ∷ joins) = item before outer.around j.tab ∷ (j.on (inside_on outer all (tabs ++ j.tab ∷ [])) ++ joins_marks outer all (before ++ correlation j.tab ∷ []) (tabs ++ j.tab ∷ []) joins)

-- the chains after these correlation names of the query
abbrev pub chains_marks : Sight → List Name → List Name → List ChainMarks → Marks
chains_marks outer all before [] = []
chains_marks outer all before (ch ∷ chains) = item before outer.around ch.first ∷ (joins_marks outer all (before ++ correlation ch.first ∷ []) (ch.first ∷ []) ch.joins ++ chains_marks outer all (before ++ calls_of (tables_of_chain ch)) chains)

-- ---- the marks of a node, by those of its parts

module _ (K : Kinds) (M : Marking K) where
  -- of a condition
  abbrev pub marks_in_cond : Layer K layers.Cond-F → Sight → Marks
  marks_in_cond (layers.Cond-F.Or xs) v = of_each M.cond xs v
  marks_in_cond (layers.Cond-F.And xs) v = of_each M.cond xs v
  marks_in_cond (layers.Cond-F.Not x) v = M.cond x v
  marks_in_cond (layers.Cond-F.Exists q) v = M.query q v
  marks_in_cond (layers.Cond-F.Compare by a b) v = M.expr a v ++ M.expr b v
  marks_in_cond (layers.Cond-F.CompareQuery by a q) v = M.expr a v ++ M.query q v
  marks_in_cond (layers.Cond-F.IsNull a) v = M.expr a v
  marks_in_cond (layers.Cond-F.InQuery a q) v = M.expr a v ++ M.query q v
  marks_in_cond (layers.Cond-F.InList a xs) v = M.expr a v ++ of_each M.expr xs v
  marks_in_cond (layers.Cond-F.Between a low high) v = M.expr a v ++ (M.expr low v ++ M.expr high v)

  -- of an expression
  abbrev pub marks_in_expr : Layer K layers.Expr-F → Sight → Marks
  marks_in_expr (layers.Expr-F.Atom a) v = atom_marks a v
  marks_in_expr (layers.Expr-F.Sum xs) v = of_each M.signed xs v
  marks_in_expr (layers.Expr-F.Concat xs) v = of_each M.expr xs v
  marks_in_expr (layers.Expr-F.Product xs) v = of_each M.expr xs v
  marks_in_expr (layers.Expr-F.Case arms otherwise) v = of_each M.arm arms v ++ of_any M.expr otherwise v
  marks_in_expr (layers.Expr-F.Match x choices otherwise) v = M.expr x v ++ (of_each M.choice choices v ++ of_any M.expr otherwise v)
  marks_in_expr (layers.Expr-F.Aggregate op x) v = M.expr x v
  marks_in_expr (layers.Expr-F.Substr x from n) v = M.expr x v ++ (M.expr from v ++ of_any M.expr n v)
  marks_in_expr (layers.Expr-F.Apply f x) v = M.expr x v
  marks_in_expr (layers.Expr-F.Coalesce xs) v = of_each M.expr xs v

  -- of an item of a select list
  abbrev pub marks_in_item : Layer K layers.Item-F → Sight → Marks
  marks_in_item layers.Item-F.Everything v = star v.own None ∷ []
  marks_in_item (layers.Item-F.AllOf x) v = star v.own (Some x) ∷ []
  marks_in_item (layers.Item-F.Value x name) v = M.expr x v

  -- of a join
  abbrev pub marks_in_join : Layer K layers.Join-F → JoinMarks
  marks_in_join (layers.Join-F.Inner tab on) = record { tab = tab; on = M.cond on }
  marks_in_join (layers.Join-F.Left tab on) = record { tab = tab; on = M.cond on }
  marks_in_join (layers.Join-F.Cross tab) = record { tab = tab; on = λ v. [] }

  -- of WHEN condition THEN result
  abbrev pub marks_in_arm : Layer K layers.Arm-F → Sight → Marks
  marks_in_arm x v = M.cond x.when v ++ M.expr x.result v

  -- of WHEN value THEN result
  abbrev pub marks_in_choice : Layer K layers.Choice-F → Sight → Marks
  marks_in_choice x v = M.expr x.when v ++ M.expr x.result v

  -- of a chain
  abbrev pub marks_in_chain : Layer K layers.Chain-F → ChainMarks
  marks_in_chain x = record { first = x.first; joins = map M.join x.joins }

  -- of a part of a sum
  abbrev pub marks_in_signed : Layer K layers.Signed-F → Sight → Marks
  marks_in_signed x v = M.expr x.part v

  -- the FROM items of the query
  abbrev pub tables_from : Layer K layers.Query-F → List Tab
  tables_from q = tables_of (map M.chain q.from)

  -- of a query: its beginning, select list, FROM, WHERE, GROUP BY, HAVING
  abbrev pub marks_in_query : Layer K layers.Query-F → Sight → Marks
  marks_in_query q outer =
      enter (items_in outer.seen (tables_from q))
      ∷ (of_each M.item q.items (inside outer (tables_from q))
      ++ (chains_marks outer (calls_of (tables_from q)) [] (map M.chain q.from)
      ++ (of_any M.cond q.filter (inside outer (tables_from q))
      ++ (map (column (inside outer (tables_from q)).seen) q.group
      ++ of_any M.cond q.having (inside outer (tables_from q))))))

-- ---- whole trees

-- each kind of node gives its marks alone
abbrev pub marked : Kinds
marked = record { cond = Marked; expr = Marked; item = Marked; join = JoinMarks; arm = Marked; chain = ChainMarks; choice = Marked; query = Marked; signed = Marked }

-- and so do its parts
abbrev pub marking : Marking marked
marking = record { cond = λ x. x.marks; expr = λ x. x.marks; item = λ x. x.marks; join = λ j. j; arm = λ x. x.marks; chain = λ c. c; choice = λ x. x.marks; query = λ x. x.marks; signed = λ x. x.marks }

-- the marks of each kind of node
abbrev pub mark_steps : Steps marked
mark_steps = record {
  cond = λ x. record { marks = marks_in_cond marked marking x };
  expr = λ x. record { marks = marks_in_expr marked marking x };
  item = λ x. record { marks = marks_in_item marked marking x };
  join = marks_in_join marked marking;
  arm = λ x. record { marks = marks_in_arm marked marking x };
  chain = marks_in_chain marked marking;
  choice = λ x. record { marks = marks_in_choice marked marking x };
  query = λ q. record { marks = marks_in_query marked marking q };
  signed = λ x. record { marks = marks_in_signed marked marking x };
}

-- the names in a condition, an expression and a query
unfoldable pub cond_marks : Cond → Sight → Marks
cond_marks c v = (cond_of marked mark_steps c).marks v

-- the names in an expression
unfoldable pub expr_marks : Expr → Sight → Marks
expr_marks e v = (expr_of marked mark_steps e).marks v

-- the names in a query
unfoldable pub query_marks : Query → Sight → Marks
query_marks q v = (query_of marked mark_steps q).marks v
