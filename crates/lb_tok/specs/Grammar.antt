-- The grammar of queries and writes: which tokens spell which tree. Each production stands below its line,
-- in which square brackets hold what may be left out, and braces what stands any number of times.
use Rattle.std.specs.Prelude.{ℕ, zero, suc, List, [], ◌∷◌, Bool, true, false, Option, Some, None, ℤ, pos}
use Rattle.std.specs.Option.{option_and_then}
use Rattle.lb_tree.specs.declared.query.Expr.{Expr}
use Rattle.lb_tree.specs.declared.query.Expr.TheVariants as exprs
use Rattle.lb_tree.specs.declared.query.Atom.TheVariants as atoms
use Rattle.lb_tree.specs.declared.query.Cond.{Cond}
use Rattle.lb_tree.specs.declared.query.Cond.TheVariants as conds
use Rattle.lb_tree.specs.declared.query.Cond.TheViews.{roll-Query, roll-Chain}
use Rattle.lb_tree.specs.declared.query.Query.{Query}
use Rattle.lb_tree.specs.declared.query.Chain.{Chain}
use Rattle.lb_tree.specs.declared.query.Signed.{Signed}
use Rattle.lb_tree.specs.declared.query.Arm.{Arm}
use Rattle.lb_tree.specs.declared.query.Choice.{Choice}
use Rattle.lb_tree.specs.declared.query.Item.{Item}
use Rattle.lb_tree.specs.declared.query.Item.TheVariants as items
use Rattle.lb_tree.specs.declared.query.Join.{Join}
use Rattle.lb_tree.specs.declared.query.Join.TheVariants as joins
use Rattle.lb_tree.specs.declared.query.Tab.{Tab}
use Rattle.lb_tree.specs.declared.query.Column.{Column}
use Rattle.lb_tree.specs.declared.query.Select.{Select}
use Rattle.lb_tree.specs.declared.query.SortKey.{SortKey}
use Rattle.lb_tree.specs.declared.query.Direction.{Direction}
use Rattle.lb_tree.specs.declared.query.Direction.TheVariants as directions
use Rattle.lb_tree.specs.declared.query.Comparison.{Comparison}
use Rattle.lb_tree.specs.declared.query.Aggregate.TheVariants as aggregates
use Rattle.lb_stmt.specs.declared.write.InsertSource.{InsertSource}
use Rattle.lb_stmt.specs.declared.write.InsertSource.TheVariants as sources
use Rattle.lb_stmt.specs.declared.write.Insert.{Insert}
use Rattle.lb_stmt.specs.declared.write.Assignment.{Assignment}
use Rattle.lb_stmt.specs.declared.write.Update.{Update}
use Rattle.lb_stmt.specs.declared.write.Delete.{Delete}
use Rattle.lb_stmt.specs.declared.write.Stmt.{Stmt}
use Rattle.lb_stmt.specs.declared.write.Stmt.TheVariants as stmts
use Rattle.lb_tok.specs.declared.kind.Kind.TheVariants as kinds
use Rattle.lb_tok.specs.declared.call.Call.{Call}
use Rattle.lb_tok.specs.declared.call.Call.TheVariants as calls
use Rattle.lb_tok.specs.Kinds.{only, from_to, names}
use Rattle.lb_tok.specs.Words.{name_in, text_in, int_in, negative_in, count_in, day_in, word_in, comparison_of}
use Rattle.lb_tok.specs.Form.{an_expr, a_cond, a_query, Below, Lang, Nothing, One, Seq, Either, Many, Word, After, Made, Means, May, Flag, Optional, Listed, Bracket, Parens}

-- ---- single tokens

-- name: a word that isn't reserved
abbrev pub IsName : Lang (List ℕ)
IsName = One names (λ t. name_in t.content)

abbrev pub IsText : Lang (List ℕ)
IsText = One (only kinds.Text) (λ t. text_in t.content)

-- int, which 64 bits hold
abbrev pub IsInt : Lang ℤ
IsInt = One (only kinds.Numeral) (λ t. int_in t.content)

-- int after a minus
abbrev pub IsNegative : Lang ℤ
IsNegative = One (only kinds.Numeral) (λ t. negative_in t.content)

-- int from 1 on
abbrev pub IsCount : Lang ℤ
IsCount = One (only kinds.Numeral) (λ t. count_in t.content)

-- a text that writes a true day
abbrev pub IsDayLiteral : Lang ℤ
IsDayLiteral = One (only kinds.Text) (λ t. day_in t.content)

-- ---- lists of one part are their part

abbrev pub sums : Expr → List Signed → Expr
sums x [] = x
sums x (y ∷ ys) = exprs.Sum (record { minus = false; part = x } ∷ y ∷ ys)

abbrev pub concats : Expr → List Expr → Expr
concats x [] = x
concats x (y ∷ ys) = exprs.Concat (x ∷ y ∷ ys)

abbrev pub products : Expr → List Expr → Expr
products x [] = x
products x (y ∷ ys) = exprs.Product (x ∷ y ∷ ys)

abbrev pub ands : Cond → List Cond → Cond
ands x [] = x
ands x (y ∷ ys) = conds.And (x ∷ y ∷ ys)

abbrev pub ors : Cond → List Cond → Cond
ors x [] = x
ors x (y ∷ ys) = conds.Or (x ∷ y ∷ ys)

-- ---- what stands in a bracket

abbrev pub InExpr : Lang Expr
InExpr s ts e = s ts (an_expr e)

abbrev pub InCond : Lang Cond
InCond s ts c = s ts (a_cond c)

abbrev pub InQuery : Lang Query
InQuery s ts q = s ts (a_query q)

-- ---- expressions

abbrev pub alone : List ℕ → Column
alone n = record { correlation = None; name = n }

abbrev pub of_table : List ℕ → List ℕ → Column
of_table t n = record { correlation = Some t; name = n }

abbrev pub a_column : Column → Expr
a_column c = exprs.Atom (atoms.Column c)

-- col = name [. name]
abbrev pub IsColumn : Lang Column
IsColumn = Seq IsName (λ n. Either (After kinds.Dot (Made (of_table n) IsName)) (Nothing (alone n)))

-- case = CASE {WHEN cond THEN expr}+ [ELSE expr] END | CASE expr {WHEN expr THEN expr}+ [ELSE expr] END
abbrev pub IsArm : Lang Arm
IsArm = After kinds.When (Seq InCond (λ c. After kinds.Then (Made (λ e. record { when = c; result = e }) InExpr)))

abbrev pub IsChoice : Lang Choice
IsChoice = After kinds.When (Seq InExpr (λ v. After kinds.Then (Made (λ e. record { when = v; result = e }) InExpr)))

abbrev pub IsElse : Lang (Option Expr)
IsElse = Optional (After kinds.Else InExpr)

abbrev pub IsArms : Lang Expr
IsArms = Seq IsArm (λ a. Seq (Many IsArm) (λ as'. Made (exprs.Case (a ∷ as')) IsElse))

abbrev pub IsChoices : Lang Expr
IsChoices = Seq InExpr (λ v. Seq IsChoice (λ c. Seq (Many IsChoice) (λ cs. Made (exprs.Match v (c ∷ cs)) IsElse)))

abbrev pub IsCase : Lang Expr
IsCase = Bracket kinds.Case kinds.End (Either IsArms IsChoices)

-- what follows the name of a function
abbrev pub IsCounted : Lang Expr
IsCounted = Either (Means kinds.Star (exprs.Atom atoms.CountRows))
    (Either (After kinds.Distinct (Made (exprs.Aggregate aggregates.CountDistinct) InExpr)) (Made (exprs.Aggregate aggregates.Count) InExpr))

abbrev pub IsParted : Lang Expr
IsParted = Seq InExpr (λ t. After kinds.Comma (Seq InExpr (λ i. Made (exprs.Substr t i) (Optional (After kinds.Comma InExpr)))))

abbrev pub IsFirstOf : Lang Expr
IsFirstOf = Seq InExpr (λ x. After kinds.Comma (Made (λ xs. exprs.Coalesce (x ∷ xs)) (Listed InExpr)))

abbrev pub IsVerified : Lang (List (List ℕ))
IsVerified = After kinds.SessionUser (After kinds.Comma (Listed IsText))

abbrev pub IsTwoTexts : Lang (List ℕ × List ℕ)
IsTwoTexts = Seq IsText (λ p. After kinds.Comma (Made (λ l. (p, l)) IsText))

abbrev pub IsShown : Lang Expr
IsShown = Seq IsText (λ p. After kinds.Comma (Made (λ c. exprs.Atom (atoms.SecLabelToChar p c)) IsColumn))

-- COUNT "(" * ")" | COUNT "(" [DISTINCT] expr ")"
-- (SUM | MIN | MAX) "(" expr ")"
-- SUBSTR "(" expr , expr [, expr] ")"
-- (LENGTH | YEAR | MONTH | DAY) "(" expr ")"
-- COALESCE "(" expr , expr {, expr} ")"
-- (VERIFY_ROLE_FOR_USER | VERIFY_GROUP_FOR_USER) "(" SESSION_USER , text {, text} ")"
-- (SECLABEL | SECLABEL_BY_NAME) "(" text , text ")"
-- SECLABEL_TO_CHAR "(" text , col ")"
-- DATE text | DATE "(" text ")"
abbrev pub IsArguments : Call → Lang Expr
IsArguments calls.Count = Parens IsCounted
IsArguments (calls.Total a) = Parens (Made (exprs.Aggregate a) InExpr)
IsArguments calls.Substr = Parens IsParted
IsArguments (calls.Apply f) = Parens (Made (exprs.Apply f) InExpr)
IsArguments calls.Coalesce = Parens IsFirstOf
IsArguments calls.VerifyRole = Parens (Made (λ rs. exprs.Atom (atoms.VerifyRole rs)) IsVerified)
IsArguments calls.VerifyGroup = Parens (Made (λ gs. exprs.Atom (atoms.VerifyGroup gs)) IsVerified)
IsArguments calls.SecLabel = Parens (Made (λ p. exprs.Atom (atoms.SecLabel p.0 p.1)) IsTwoTexts)
IsArguments calls.SecLabelByName = Parens (Made (λ p. exprs.Atom (atoms.SecLabelByName p.0 p.1)) IsTwoTexts)
IsArguments calls.SecLabelToChar = Parens IsShown
IsArguments calls.Date = Either (Parens (Made (λ d. exprs.Atom (atoms.Date d)) IsDayLiteral)) (Made (λ d. exprs.Atom (atoms.Date d)) IsDayLiteral)

-- the name of a function
abbrev pub IsFunction : Lang Call
IsFunction = One names (λ t. option_and_then (λ w. w.0) (word_in t))

-- call = the name of a function, and what follows it
abbrev pub IsCall : Lang Expr
IsCall = Seq IsFunction IsArguments

-- - int | int
abbrev pub IsNumber : Lang Expr
IsNumber = Either (After kinds.Minus (Made (λ n. exprs.Atom (atoms.Int n)) IsNegative)) (Made (λ n. exprs.Atom (atoms.Int n)) IsInt)

-- CURRENT DATE | CURRENT_DATE
abbrev pub IsToday : Lang Expr
IsToday = Either (After kinds.Current (Means kinds.Date (exprs.Atom atoms.CurrentDate))) (Means kinds.CurrentDate (exprs.Atom atoms.CurrentDate))

-- NULL | - int | int | text | CURRENT DATE | CURRENT_DATE | SESSION_USER | case
abbrev pub IsLiteral : Lang Expr
IsLiteral =
    Either (Means kinds.Null (exprs.Atom atoms.Null))
    (Either IsNumber
    (Either (Made (λ t. exprs.Atom (atoms.Text t)) IsText)
    (Either IsToday
    (Either (Means kinds.SessionUser (exprs.Atom atoms.SessionUser))
    IsCase))))

-- fact = "(" expr ")" | col | call | NULL | int | - int | text | CURRENT DATE | CURRENT_DATE | SESSION_USER | case
abbrev pub IsFact : Lang Expr
IsFact = Either (Parens InExpr) (Either (Either (Made a_column IsColumn) IsCall) IsLiteral)

-- term = fact {* fact}
abbrev pub IsTerm : Lang Expr
IsTerm = Seq IsFact (λ x. Made (products x) (Many (After kinds.Star IsFact)))

-- cat = term {"||" term}
abbrev pub IsConcat : Lang Expr
IsConcat = Seq IsTerm (λ x. Made (concats x) (Many (After kinds.Bars IsTerm)))

-- expr = cat {(+ | -) cat}
abbrev pub IsSign : Lang Bool
IsSign = Either (Means kinds.Plus false) (Means kinds.Minus true)

abbrev pub IsSigned : Lang Signed
IsSigned = Seq IsSign (λ m. Made (λ x. record { minus = m; part = x }) IsConcat)

abbrev pub IsExpr : Lang Expr
IsExpr = Seq IsConcat (λ x. Made (sums x) (Many IsSigned))

-- ---- conditions

abbrev pub IsComparison : Lang Comparison
IsComparison = One (from_to kinds.Equal kinds.AtLeast) (λ t. comparison_of t.kind)

-- pred = cmp expr | cmp "(" query ")" | IS [NOT] NULL
--      | [NOT] (IN "(" (query | expr {, expr}) ")" | BETWEEN expr AND expr)
abbrev pub Negated : Lang Cond → Lang Cond
Negated P = Either (After kinds.Not (Made conds.Not P)) P

abbrev pub IsNullTest : Expr → Lang Cond
IsNullTest e = Negated (Means kinds.Null (conds.IsNull e))

abbrev pub IsSet : Expr → Lang Cond
IsSet e = Either (Made (conds.InQuery e) InQuery) (Made (conds.InList e) (Listed InExpr))

abbrev pub IsRange : Expr → Lang Cond
IsRange e = Either (After kinds.In (Parens (IsSet e)))
    (After kinds.Between (Seq IsExpr (λ low. After kinds.And (Made (λ high. conds.Between e low high) IsExpr))))

abbrev pub IsPred : Expr → Lang Cond
IsPred e =
    Either (Seq IsComparison (λ c. Either (Made (conds.CompareQuery c e) (Parens InQuery)) (Made (conds.Compare c e) IsExpr)))
    (Either (After kinds.Is (IsNullTest e)) (Negated (IsRange e)))

-- prim = "(" cond ")" | EXISTS "(" query ")" | expr pred
abbrev pub IsPrim : Lang Cond
IsPrim = Either (Parens InCond) (Either (After kinds.Exists (Made conds.Exists (Parens InQuery))) (Seq IsExpr IsPred))

-- neg = [NOT] prim
abbrev pub IsNeg : Lang Cond
IsNeg = Negated IsPrim

-- conj = neg {AND neg}
abbrev pub IsConj : Lang Cond
IsConj = Seq IsNeg (λ x. Made (ands x) (Many (After kinds.And IsNeg)))

-- cond = conj {OR conj}
abbrev pub IsCond : Lang Cond
IsCond = Seq IsConj (λ x. Made (ors x) (Many (After kinds.Or IsConj)))

-- ---- queries

-- [[AS] name]
abbrev pub IsAlias : Lang (Option (List ℕ))
IsAlias = Either (After kinds.As (Made Some IsName)) (Optional IsName)

-- tab = name [[AS] name]
abbrev pub IsTab : Lang Tab
IsTab = Seq IsName (λ t. Made (λ c. record { table = t; correlation = c }) IsAlias)

-- item = name . * | expr [[AS] name]
abbrev pub IsItem : Lang Item
IsItem = Either (Seq IsName (λ n. After kinds.Dot (Means kinds.Star (items.AllOf n)))) (Seq IsExpr (λ e. Made (items.Value e) IsAlias))

-- items = * | item {, item}
abbrev pub IsItems : Lang (List Item)
IsItems = Either (Means kinds.Star (items.Everything ∷ [])) (Listed IsItem)

-- join = [INNER] JOIN tab ON cond | LEFT [OUTER] JOIN tab ON cond | CROSS JOIN tab
abbrev pub IsOn : Lang (Tab × Cond)
IsOn = After kinds.Join (Seq IsTab (λ t. After kinds.On (Made (λ c. (t, c)) IsCond)))

abbrev pub IsJoin : Lang Join
IsJoin =
    Either (After kinds.Left (Seq (May kinds.Outer) (λ _. Made (λ p. joins.Left p.0 p.1) IsOn)))
    (Either (After kinds.Cross (After kinds.Join (Made joins.Cross IsTab)))
    (Seq (May kinds.Inner) (λ _. Made (λ p. joins.Inner p.0 p.1) IsOn)))

-- chain = tab {join}
abbrev pub IsChain : Lang Chain
IsChain = Seq IsTab (λ t. Made (λ js. roll-Chain (record { first = t; joins = js })) (Many IsJoin))

-- [WHERE cond], [GROUP BY col {, col}], [HAVING cond]
abbrev pub IsWhere : Lang (Option Cond)
IsWhere = Optional (After kinds.Where IsCond)

abbrev pub IsGroup : Lang (List Column)
IsGroup = Either (After kinds.Group (After kinds.By (Listed IsColumn))) (Nothing [])

abbrev pub IsHaving : Lang (Option Cond)
IsHaving = Optional (After kinds.Having IsCond)

-- query = SELECT [DISTINCT] items FROM chain {, chain} [WHERE cond] [GROUP BY col {, col}] [HAVING cond]
abbrev pub IsQuery : Lang Query
IsQuery = After kinds.Select (Seq (Flag kinds.Distinct) (λ d. Seq IsItems (λ is. After kinds.From (Seq (Listed IsChain) (λ cs. Seq IsWhere (λ w. Seq IsGroup (λ g.
    Made (λ h. roll-Query (record { distinct = d; items = is; from = cs; filter = w; group = g; having = h })) IsHaving)))))))

-- order = ORDER BY expr [ASC | DESC] {, expr [ASC | DESC]}
abbrev pub IsDirection : Lang Direction
IsDirection = Either (Means kinds.Asc directions.Ascending) (Either (Means kinds.Desc directions.Descending) (Nothing directions.Ascending))

abbrev pub IsSortKey : Lang SortKey
IsSortKey = Seq IsExpr (λ e. Made (λ d. record { by = e; direction = d }) IsDirection)

abbrev pub IsOrder : Lang (List SortKey)
IsOrder = Either (After kinds.Order (After kinds.By (Listed IsSortKey))) (Nothing [])

-- fetch = FETCH FIRST [int] (ROW | ROWS) ONLY, where the int is at least 1, and 1 where it is left out
abbrev pub IsFetch : Lang ℤ
IsFetch = After kinds.Fetch (After kinds.First (Seq (Either IsCount (Nothing (pos 1))) (λ n. Seq (Either (Word kinds.Row) (Word kinds.Rows)) (λ _. Means kinds.Only n))))

-- query [order] [fetch]
abbrev pub IsSelect : Lang Select
IsSelect = Seq IsQuery (λ q. Seq IsOrder (λ o. Made (λ f. record { query = q; order = o; fetch = f }) (Optional IsFetch)))

-- ---- writes

-- row = "(" expr {, expr} ")"
abbrev pub IsRow : Lang (List Expr)
IsRow = Parens (Listed InExpr)

-- insert = INSERT INTO name ["(" name {, name} ")"] (VALUES row {, row} | query [order] [fetch])
abbrev pub IsSource : Lang InsertSource
IsSource = Either (After kinds.Values (Made sources.Rows (Listed IsRow))) (Made sources.Query IsSelect)

abbrev pub IsTargets : Lang (Option (List (List ℕ)))
IsTargets = Optional (Parens (Listed IsName))

abbrev pub IsInsert : Lang Insert
IsInsert = After kinds.Insert (After kinds.Into (Seq IsName (λ t. Seq IsTargets (λ cs. Made (λ s. record { table = t; columns = cs; source = s }) IsSource))))

-- update = UPDATE tab SET name = expr {, name = expr} [WHERE cond]
abbrev pub IsAssignment : Lang Assignment
IsAssignment = Seq IsName (λ c. After kinds.Equal (Made (λ v. record { column = c; value = v }) IsExpr))

abbrev pub IsUpdate : Lang Update
IsUpdate = After kinds.Update (Seq IsTab (λ t. After kinds.Set (Seq (Listed IsAssignment) (λ as'. Made (λ w. record { target = t; assignments = as'; filter = w }) IsWhere))))

-- delete = DELETE FROM tab [WHERE cond]
abbrev pub IsDelete : Lang Delete
IsDelete = After kinds.Delete (After kinds.From (Seq IsTab (λ t. Made (λ w. record { target = t; filter = w }) IsWhere)))

-- query [order] [fetch] | insert | update | delete
abbrev pub IsQueryOrWrite : Lang Stmt
IsQueryOrWrite =
    Either (Made stmts.Select IsSelect)
    (Either (Made stmts.Insert IsInsert)
    (Either (Made stmts.Update IsUpdate)
    (Made stmts.Delete IsDelete)))

-- ---- brackets up to a depth

abbrev pub spelt : Below → Below
spelt s ts (an_expr e) = IsExpr s ts e
spelt s ts (a_cond c) = IsCond s ts c
spelt s ts (a_query q) = IsQuery s ts q

-- what brackets hold that hold brackets of so many levels
unfoldable pub level : ℕ → Below
level zero ts x = ⊥
level (suc k) ts x = spelt (level k) ts x
