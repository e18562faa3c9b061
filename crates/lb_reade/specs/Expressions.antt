-- Expressions and conditions, read from left to right by the next token. X_at reads the production X of the grammar, where w
-- says what reads in brackets; X_on reads the rest of it after a part that is given. Where two alternatives begin alike,
-- the reader takes what they share first.
use Rattle.std.specs.Prelude.{ℕ, List, ◌∷◌, ◌++◌, Bool, true, false, Option, Some, None, ◌⊎◌, if◌then◌else◌}
use Rattle.std.proofs.Common.{inl, inr}
use Rattle.lb_tree.specs.declared.query.Expr.{Expr}
use Rattle.lb_tree.specs.declared.query.Expr.TheVariants as exprs
use Rattle.lb_tree.specs.declared.query.Atom.TheVariants as atoms
use Rattle.lb_tree.specs.declared.query.Cond.{Cond}
use Rattle.lb_tree.specs.declared.query.Cond.TheVariants as conds
use Rattle.lb_tree.specs.declared.query.Query.{Query}
use Rattle.lb_tree.specs.declared.query.Signed.{Signed}
use Rattle.lb_tree.specs.declared.query.Arm.{Arm}
use Rattle.lb_tree.specs.declared.query.Choice.{Choice}
use Rattle.lb_tree.specs.declared.query.Comparison.{Comparison}
use Rattle.lb_tree.specs.declared.query.Aggregate.TheVariants as aggregates
use Rattle.lb_tok.specs.declared.kind.Kind.TheVariants as kinds
use Rattle.lb_tok.specs.declared.call.Call.{Call}
use Rattle.lb_tok.specs.declared.call.Call.TheVariants as calls
use Rattle.lb_tok.specs.Kinds.{Kinds, only, from_to, names}
use Rattle.lb_tok.specs.Words.{is_date}
use Rattle.lb_tok.specs.Grammar.{sums, concats, products, ands, ors, alone, of_table, a_column}
use Rattle.lb_readt.specs.Readers.{Reader, seq, give, pick, many, after, made, means, optional, choose, listed, bracket}
use Rattle.lb_readt.specs.Tokens.{name_at, text_at, int_at, negative_at, day_at, word_at, comparison_at, column_at}

-- what stands in a parenthesis at the head of a condition: a condition, or an expression with which one may begin
abbrev pub Mixed : Type 0
Mixed = Cond ⊎ Expr

-- what stands in a parenthesis after a comparison sign
abbrev pub Side : Type 0
Side = Query ⊎ Expr

-- whether one more bracket may open, and what reads each kind of content in it
pub record Readers : Type 0 where
  pub room : Bool
  pub expr : Reader Expr
  pub mixed : Reader Mixed
  pub condition : Reader Cond
  pub query : Reader Query

-- "(", what f reads, ")"
abbrev pub parens : {A : Type 0} → Readers → Reader A → Reader A
parens w f = bracket w.room kinds.Open kinds.Close f

-- ---- CASE and calls

-- WHEN cond THEN expr
unfoldable pub arm_at : Readers → Reader Arm
arm_at w = after kinds.When (seq w.condition (λ c. after kinds.Then (made (λ e. record { when = c; result = e }) w.expr)))

-- WHEN expr THEN expr
unfoldable pub choice_at : Readers → Reader Choice
choice_at w = after kinds.When (seq w.expr (λ v. after kinds.Then (made (λ e. record { when = v; result = e }) w.expr)))

-- [ELSE expr]
unfoldable pub else_at : Readers → Reader (Option Expr)
else_at w = optional (only kinds.Else) (after kinds.Else w.expr)

-- after CASE, where WHEN comes next: a searched CASE
unfoldable pub arms_at : Readers → Reader Expr
arms_at w = seq (arm_at w) (λ a. seq (many (only kinds.When) (arm_at w)) (λ as'. made (exprs.Case (a ∷ as')) (else_at w)))

-- after CASE, where an operand comes next: a simple CASE
unfoldable pub choices_at : Readers → Reader Expr
choices_at w = seq w.expr (λ v. seq (choice_at w) (λ c. seq (many (only kinds.When) (choice_at w)) (λ cs. made (exprs.Match v (c ∷ cs)) (else_at w))))

unfoldable pub in_case_at : Readers → Reader Expr
in_case_at w = pick (only kinds.When) (arms_at w) (choices_at w)

unfoldable pub case_at : Readers → Reader Expr
case_at w = bracket w.room kinds.Case kinds.End (in_case_at w)

-- the argument of COUNT: * | [DISTINCT] expr
unfoldable pub counted_at : Readers → Reader Expr
counted_at w = pick (only kinds.Star) (means kinds.Star (exprs.Atom atoms.CountRows))
    (pick (only kinds.Distinct) (after kinds.Distinct (made (exprs.Aggregate aggregates.CountDistinct) w.expr)) (made (exprs.Aggregate aggregates.Count) w.expr))

-- [, expr]
unfoldable pub last_part_at : Readers → Reader (Option Expr)
last_part_at w = optional (only kinds.Comma) (after kinds.Comma w.expr)

-- the arguments of SUBSTR: expr , expr [, expr]
unfoldable pub parted_at : Readers → Reader Expr
parted_at w = seq w.expr (λ t. after kinds.Comma (seq w.expr (λ i. made (exprs.Substr t i) (last_part_at w))))

-- the arguments of COALESCE: expr , expr {, expr}
unfoldable pub first_of_at : Readers → Reader Expr
first_of_at w = seq w.expr (λ x. after kinds.Comma (made (λ xs. exprs.Coalesce (x ∷ xs)) (listed w.expr)))

-- the arguments of a role or group check: SESSION_USER , text {, text}
unfoldable pub verified_texts_at : Reader (List (List ℕ))
verified_texts_at = after kinds.SessionUser (after kinds.Comma (listed text_at))

unfoldable pub two_texts_at : Reader (List ℕ × List ℕ)
two_texts_at = seq text_at (λ p. after kinds.Comma (made (λ l. (p, l)) text_at))

-- the arguments of SECLABEL_TO_CHAR: text , col
unfoldable pub shown_at : Reader Expr
shown_at = seq text_at (λ p. after kinds.Comma (made (λ c. exprs.Atom (atoms.SecLabelToChar p c)) column_at))

unfoldable pub date_at : Reader Expr
date_at = made (λ d. exprs.Atom (atoms.Date d)) day_at

-- what stands between the parentheses of a call
unfoldable pub in_arguments_at : Readers → Call → Reader Expr
in_arguments_at w calls.Count = counted_at w
in_arguments_at w (calls.Total a) = made (exprs.Aggregate a) w.expr
in_arguments_at w calls.Substr = parted_at w
in_arguments_at w (calls.Apply f) = made (exprs.Apply f) w.expr
in_arguments_at w calls.Coalesce = first_of_at w
in_arguments_at w calls.VerifyRole = made (λ rs. exprs.Atom (atoms.VerifyRole rs)) verified_texts_at
in_arguments_at w calls.VerifyGroup = made (λ gs. exprs.Atom (atoms.VerifyGroup gs)) verified_texts_at
in_arguments_at w calls.SecLabel = made (λ p. exprs.Atom (atoms.SecLabel p.0 p.1)) two_texts_at
in_arguments_at w calls.SecLabelByName = made (λ p. exprs.Atom (atoms.SecLabelByName p.0 p.1)) two_texts_at
in_arguments_at w calls.SecLabelToChar = shown_at
in_arguments_at w calls.Date = date_at

-- the arguments of a function, after its name: those of DATE may be a text alone
unfoldable pub arguments_at : Readers → Call → Reader Expr
arguments_at w c = choose (is_date c) (pick (only kinds.Open) (parens w (in_arguments_at w c)) date_at) (parens w (in_arguments_at w c))

-- what begins the arguments of a function
unfoldable pub begins_arguments : Call → Kinds
begins_arguments c = if is_date c then only kinds.Open ++ only kinds.Text else only kinds.Open

-- after a name: the arguments of a function, or nothing
unfoldable pub called_at : Readers → Option Call → List ℕ → Reader Expr
called_at w None n = give (a_column (alone n))
called_at w (Some c) n = pick (begins_arguments c) (arguments_at w c) (give (a_column (alone n)))

-- after a name: the column of the table that it names, or as above
unfoldable pub named_on : Readers → Option Call × List ℕ → Reader Expr
named_on w p = pick (only kinds.Dot) (after kinds.Dot (made (λ m. a_column (of_table p.1 m)) name_at)) (called_at w p.0 p.1)

unfoldable pub named_at : Readers → Reader Expr
named_at w = seq word_at (named_on w)

-- ---- expressions

-- int | - int
unfoldable pub number_at : Reader Expr
number_at = pick (only kinds.Minus) (after kinds.Minus (made (λ n. exprs.Atom (atoms.Int n)) negative_at)) (made (λ n. exprs.Atom (atoms.Int n)) int_at)

-- CURRENT DATE | CURRENT_DATE
unfoldable pub today_at : Reader Expr
today_at = pick (only kinds.Current) (after kinds.Current (means kinds.Date (exprs.Atom atoms.CurrentDate))) (means kinds.CurrentDate (exprs.Atom atoms.CurrentDate))

-- a factor that begins with neither a name nor a parenthesis
unfoldable pub literal_at : Readers → Reader Expr
literal_at w =
    pick (only kinds.Null) (means kinds.Null (exprs.Atom atoms.Null))
    (pick (only kinds.Minus ++ only kinds.Numeral) number_at
    (pick (only kinds.Text) (made (λ t. exprs.Atom (atoms.Text t)) text_at)
    (pick (only kinds.Current ++ only kinds.CurrentDate) today_at
    (pick (only kinds.SessionUser) (means kinds.SessionUser (exprs.Atom atoms.SessionUser))
    (case_at w)))))

-- a factor that begins with no parenthesis
unfoldable pub plain_at : Readers → Reader Expr
plain_at w = pick names (named_at w) (literal_at w)

unfoldable pub fact_at : Readers → Reader Expr
fact_at w = pick (only kinds.Open) (parens w w.expr) (plain_at w)

-- a factor that begins with no name
unfoldable pub unnamed_at : Readers → Reader Expr
unnamed_at w = pick (only kinds.Open) (parens w w.expr) (literal_at w)

-- {* fact}
unfoldable pub product_on : Readers → Expr → Reader Expr
product_on w x = made (products x) (many (only kinds.Star) (after kinds.Star (fact_at w)))

unfoldable pub term_at : Readers → Reader Expr
term_at w = seq (fact_at w) (product_on w)

-- {"||" term}
unfoldable pub concat_on : Readers → Expr → Reader Expr
concat_on w x = made (concats x) (many (only kinds.Bars) (after kinds.Bars (term_at w)))

unfoldable pub concat_at : Readers → Reader Expr
concat_at w = seq (term_at w) (concat_on w)

-- + | -: whether it is a minus
unfoldable pub sign_at : Reader Bool
sign_at = pick (only kinds.Plus) (means kinds.Plus false) (means kinds.Minus true)

-- (+ | -) cat
unfoldable pub signed_at : Readers → Reader Signed
signed_at w = seq sign_at (λ m. made (λ x. record { minus = m; part = x }) (concat_at w))

abbrev pub signs : Kinds
signs = only kinds.Plus ++ only kinds.Minus

-- {(+ | -) cat}
unfoldable pub sum_on : Readers → Expr → Reader Expr
sum_on w x = made (sums x) (many signs (signed_at w))

unfoldable pub expr_at : Readers → Reader Expr
expr_at w = seq (concat_at w) (sum_on w)

-- the rest of an expression after its first factor
unfoldable pub rest_at : Readers → Expr → Reader Expr
rest_at w x = seq (product_on w x) (λ t. seq (concat_on w t) (sum_on w))

-- ---- conditions

-- NOT and what f reads, or what f reads
abbrev pub negated : Reader Cond → Reader Cond
negated f = pick (only kinds.Not) (after kinds.Not (made conds.Not f)) f

-- after e IS: [NOT] NULL
unfoldable pub null_test_at : Expr → Reader Cond
null_test_at e = negated (means kinds.Null (conds.IsNull e))

-- in the parenthesis of e IN: query | expr {, expr}
unfoldable pub set_at : Readers → Expr → Reader Cond
set_at w e = pick (only kinds.Select) (made (conds.InQuery e) w.query) (made (conds.InList e) (listed w.expr))

-- after e [NOT]: IN or BETWEEN
unfoldable pub range_at : Readers → Expr → Reader Cond
range_at w e = pick (only kinds.In) (after kinds.In (parens w (set_at w e)))
    (after kinds.Between (seq (expr_at w) (λ low. after kinds.And (made (λ high. conds.Between e low high) (expr_at w)))))

-- query | expr
unfoldable pub side_at : Readers → Reader Side
side_at w = pick (only kinds.Select) (made (λ q. inl q) w.query) (made (λ e. inr e) w.expr)

-- after the parenthesis of a comparison: nothing follows a query, the rest of an expression follows its beginning
abbrev pub compared_on : Readers → Expr → Comparison → Side → Reader Cond
compared_on w e c (inl q) = give (conds.CompareQuery c e q)
compared_on w e c (inr x) = made (conds.Compare c e) (rest_at w x)

-- after e and a comparison sign: "(" query ")" | expr
unfoldable pub compared_at : Readers → Expr → Comparison → Reader Cond
compared_at w e c = pick (only kinds.Open) (seq (parens w (side_at w)) (compared_on w e c)) (seq (plain_at w) (λ x. made (conds.Compare c e) (rest_at w x)))

-- after e: a predicate
unfoldable pub pred_at : Readers → Expr → Reader Cond
pred_at w e = pick (from_to kinds.Equal kinds.AtLeast) (seq comparison_at (compared_at w e)) (pick (only kinds.Is) (after kinds.Is (null_test_at e)) (negated (range_at w e)))

-- what begins a predicate
abbrev pub in_pred : Kinds
in_pred = from_to kinds.Equal kinds.AtLeast ++ only kinds.Is ++ only kinds.Not ++ only kinds.In ++ only kinds.Between

-- after e: a predicate, or nothing
unfoldable pub may_pred : Readers → Expr → Reader Mixed
may_pred w e = pick in_pred (made (λ c. inl c) (pred_at w e)) (give (inr e))

-- after the parenthesis of a primary condition: nothing follows a condition, the rest of the expression and then what last
-- reads follow an expression
abbrev pub behind : {M : Type 0} → Readers → (Cond → M) → (Expr → Reader M) → Mixed → Reader M
behind w f last (inl c) = give (f c)
behind w f last (inr e) = seq (rest_at w e) last

unfoldable pub exists_at : Readers → Reader Cond
exists_at w = after kinds.Exists (made conds.Exists (parens w w.query))

-- a primary condition, where last reads what follows its expression
unfoldable pub prim_with : {M : Type 0} → Readers → (Cond → M) → (Expr → Reader M) → Reader M
prim_with w f last = pick (only kinds.Exists) (made f (exists_at w))
    (pick (only kinds.Open) (seq (parens w w.mixed) (behind w f last)) (seq (plain_at w) (λ x. seq (rest_at w x) last)))

unfoldable pub prim_at : Readers → Reader Cond
prim_at w = prim_with w (λ c. c) (pred_at w)

-- a primary condition, or an expression with which one may begin
unfoldable pub may_prim : Readers → Reader Mixed
may_prim w = prim_with w (λ c. inl c) (may_pred w)

unfoldable pub neg_at : Readers → Reader Cond
neg_at w = negated (prim_at w)

-- the same, with NOT or without
unfoldable pub may_neg : Readers → Reader Mixed
may_neg w = pick (only kinds.Not) (after kinds.Not (made (λ c. inl (conds.Not c)) (prim_at w))) (may_prim w)

-- {AND neg}
unfoldable pub and_on : Readers → Cond → Reader Cond
and_on w x = made (ands x) (many (only kinds.And) (after kinds.And (neg_at w)))

unfoldable pub conj_at : Readers → Reader Cond
conj_at w = seq (neg_at w) (and_on w)

-- {OR conj}
unfoldable pub or_on : Readers → Cond → Reader Cond
or_on w x = made (ors x) (many (only kinds.Or) (after kinds.Or (conj_at w)))

unfoldable pub cond_at : Readers → Reader Cond
cond_at w = seq (conj_at w) (or_on w)

-- a condition goes on by AND and OR, an expression ends before its parenthesis closes
abbrev pub mixed_on : Readers → Mixed → Reader Mixed
mixed_on w (inl c) = seq (and_on w c) (λ x. made (λ y. inl y) (or_on w x))
mixed_on w (inr e) = give (inr e)

unfoldable pub mixed_at : Readers → Reader Mixed
mixed_at w = seq (may_neg w) (mixed_on w)
