-- The readers of expressions are exact for their productions.
use Rattle.std.proofs.Common.{Bool, true, false, inl, inr, ◌≡◌, ℕ, zero, suc, List, [], ◌∷◌, ◌++◌, Option, Some, None, refl, sym, ap, subst, ◌∙◌}
use Rattle.std.specs.Option.{option_and_then}
use Rattle.lb_tree.specs.declared.query.Expr.{Expr}
use Rattle.lb_tree.specs.declared.query.Expr.TheVariants as exprs
use Rattle.lb_tree.specs.declared.query.Atom.TheVariants as atoms
use Rattle.lb_tree.specs.declared.query.Aggregate.TheVariants as aggregates
use Rattle.lb_tree.specs.declared.query.Column.{Column}
use Rattle.lb_tok.specs.declared.kind.Kind.TheVariants as kinds
use Rattle.lb_tok.specs.declared.call.Call.{Call}
use Rattle.lb_tok.specs.declared.call.Call.TheVariants as calls
use Rattle.lb_tok.specs.declared.token.Token.{Token}
use Rattle.lb_tok.specs.declared.token.Content.{Content}
use Rattle.lb_tok.specs.Kinds.{Kinds, only, from_to, names, has}
use Rattle.lb_tok.specs.Words.{name_in, word_in, call_of, is_date}
use Rattle.lb_tok.specs.Form.{Lang, Nothing, One, Seq, Either, Many, After, Made, Optional, Parens}
use Rattle.lb_tok.specs.Grammar.{level, IsName, IsDayLiteral, sums, concats, products, InExpr, InCond, InQuery, alone, of_table, a_column, IsColumn, IsArm, IsChoice, IsElse, IsArms, IsChoices, IsCase, IsCounted, IsParted, IsFirstOf, IsVerified, IsTwoTexts, IsNumber, IsToday, IsShown, IsArguments, IsCall, IsLiteral, IsFact, IsTerm, IsConcat, IsSign, IsSigned, IsExpr}
use Rattle.lb_readt.specs.Readers.{Reader, give, pick}
use Rattle.lb_reade.specs.Expressions.{Readers, parens, arm_at, choice_at, else_at, arms_at, choices_at, in_case_at, case_at, counted_at, parted_at, first_of_at, last_part_at, verified_texts_at, two_texts_at, in_arguments_at, number_at, today_at, shown_at, date_at, arguments_at, begins_arguments, called_at, named_on, named_at, literal_at, plain_at, fact_at, product_on, term_at, concat_on, concat_at, sign_at, signed_at, sum_on, expr_at, rest_at}
use Rattle.lb_readt.proofs.Sets.{disjoint}
use Rattle.lb_readt.proofs.Joined.{Within}
use Rattle.lb_readt.proofs.Repeats.{bracket_exact, bracket_tongue, Inside}
use Rattle.lb_readt.proofs.Combined.{IsReaderOf, plain_token, give_reads, then_reads, same_reads, pick_reads, many_reads, wide, made_reads, after_reads, means_reads, optional_reads, listed_reads}
use Rattle.lb_readt.proofs.Languages.{nil, assoc, unassoc}
use Rattle.lb_readt.proofs.Tokens.{name_reads, text_reads, int_reads, negative_reads, day_reads, word_at_reads, column_reads}
use Rattle.lb_reade.proofs.Inner.{in_literal, in_fact, in_cond, InMixed, expr_tongue, cond_tongue, mixed_tongue, query_tongue}

-- what may go on after a fact, an expression and a condition
abbrev pub after_fact : Kinds
after_fact = only kinds.Dot ++ only kinds.Open ++ only kinds.Text

abbrev pub after_expr : Kinds
after_expr = after_fact ++ only kinds.Star ++ only kinds.Bars ++ only kinds.Plus ++ only kinds.Minus

abbrev pub after_cond : Kinds
after_cond = after_expr ++ from_to kinds.Equal kinds.AtLeast ++ only kinds.Is ++ only kinds.Not ++ only kinds.In ++ only kinds.Between ++ only kinds.And ++ only kinds.Or

abbrev pub after_query : Kinds
after_query = only kinds.Comma ++ only kinds.As ++ names ++ only kinds.Left ++ only kinds.Cross ++ only kinds.Inner ++ only kinds.Join ++ only kinds.Where ++ only kinds.Group ++ only kinds.Having ++ after_cond

-- the readers one bracket further in
pub record Lower (b : Bool) (d : ℕ) (w : Readers) : Type 0 where
  pub expr : IsReaderOf b d w.expr InExpr false in_fact after_expr
  pub condition : IsReaderOf b d w.condition InCond false in_cond after_cond
  pub mixed : IsReaderOf b d w.mixed InMixed false in_cond after_cond
  pub query : IsReaderOf b d w.query InQuery false (only kinds.Select) after_query

abbrev pub HasRoom : ℕ → Readers → Type 0
HasRoom zero w = w.room ≡ false
HasRoom (suc d) w = (w.room ≡ true) × Lower true d w

-- d more brackets may open, and the readers in them are right
pub record Ready (d : ℕ) (w : Readers) : Type 0 where
  pub inner : HasRoom d w

untrue : {A : Type 0} → false ≡ true → A
untrue e = absurd cc

-- nothing of the readers, all of the languages
pub shell : (w : Readers) → Lower false 0 w
shell w =
    record {
      expr = record { tongue = expr_tongue; exact = λ e. untrue e };
      condition = record { tongue = cond_tongue; exact = λ e. untrue e };
      mixed = record { tongue = mixed_tongue; exact = λ e. untrue e };
      query = record { tongue = query_tongue; exact = λ e. untrue e };
    }

-- a reader of what stands in a bracket
pub record Content' {A : Type 0} (w : Readers) (f : Reader A) (P : Lang A) (F D : Kinds) : Type 0 where
  pub reads : (b : Bool) (d : ℕ) → Lower b d w → IsReaderOf b d f P false F D

inside : (d : ℕ) (w : Readers) {A : Type 0} (f : Reader A) (P : Lang A) (F D : Kinds) → HasRoom d w → Content' w f P F D → Inside level d w.room f P F D
inside zero w f P F D r g = r
inside (suc d) w f P F D r g = (r.0, (g.reads true d r.1).exact refl)

pub parens_reads : {b : Bool} {d : ℕ} {w : Readers} {A : Type 0} {f : Reader A} {P : Lang A} {F D : Kinds} → Ready d w → Content' w f P F D → disjoint (only kinds.Close) D ≡ true → IsReaderOf b d (parens w f) (Parens P) false (only kinds.Open) []
unfolding has
parens_reads {b} {d} {w} {A} {f} {P} {F} {D} r g h =
    let t = (g.reads false 0 (shell w)).tongue in
    record {
      tongue = bracket_tongue kinds.Open kinds.Close (plain_token kinds.Open) (plain_token kinds.Close) refl refl t;
      exact = λ _. bracket_exact d w.room f F D kinds.Open kinds.Close (plain_token kinds.Open) (plain_token kinds.Close) refl refl refl refl refl h t (inside d w f P F D r.inner g);
    }

-- ---- CASE and calls

pub arm_reads : {b : Bool} {d : ℕ} {w : Readers} → Lower b d w → IsReaderOf b d (arm_at w) IsArm false (only kinds.When) after_expr
unfolding arm_at
arm_reads l = wide _ _ refl refl refl (after_reads kinds.When refl (then_reads l.condition (λ c. after_reads kinds.Then refl (made_reads (λ e. record { when = c; result = e }) l.expr)) refl))

pub choice_reads : {b : Bool} {d : ℕ} {w : Readers} → Lower b d w → IsReaderOf b d (choice_at w) IsChoice false (only kinds.When) after_expr
unfolding choice_at
choice_reads l = wide _ _ refl refl refl (after_reads kinds.When refl (then_reads l.expr (λ v. after_reads kinds.Then refl (made_reads (λ e. record { when = v; result = e }) l.expr)) refl))

abbrev after_else : Kinds
after_else = only kinds.Else ++ after_expr

else_reads : {b : Bool} {d : ℕ} {w : Readers} → Lower b d w → IsReaderOf b d (else_at w) IsElse true (only kinds.Else) after_else
unfolding else_at
else_reads l = optional_reads (after_reads kinds.Else refl l.expr)

abbrev after_arms : Kinds
after_arms = only kinds.When ++ after_else

arms_reads : {b : Bool} {d : ℕ} {w : Readers} → Lower b d w → IsReaderOf b d (arms_at w) IsArms false (only kinds.When) after_arms
unfolding arms_at
arms_reads l = wide _ _ refl refl refl (then_reads (arm_reads l) (λ a. then_reads (many_reads (arm_reads l) refl) (λ as'. made_reads (exprs.Case (a ∷ as')) (else_reads l)) refl) refl)

choices_reads : {b : Bool} {d : ℕ} {w : Readers} → Lower b d w → IsReaderOf b d (choices_at w) IsChoices false in_fact after_arms
unfolding choices_at
choices_reads l = wide _ _ refl refl refl (then_reads l.expr (λ v. then_reads (choice_reads l) (λ c. then_reads (many_reads (choice_reads l) refl) (λ cs. made_reads (exprs.Match v (c ∷ cs)) (else_reads l)) refl) refl) refl)

in_case_reads : {b : Bool} {d : ℕ} {w : Readers} → Lower b d w → IsReaderOf b d (in_case_at w) (Either IsArms IsChoices) false (only kinds.When ++ in_fact) after_arms
unfolding in_case_at
in_case_reads l = wide _ _ refl refl refl (pick_reads (arms_reads l) (choices_reads l) refl)

pub case_reads : {b : Bool} {d : ℕ} {w : Readers} → Ready d w → IsReaderOf b d (case_at w) IsCase false (only kinds.Case) []
unfolding case_at has
case_reads {b} {d} {w} r =
    let g : Content' w (in_case_at w) (Either IsArms IsChoices) (only kinds.When ++ in_fact) after_arms = record { reads = λ b d l. in_case_reads l } in
    let t = (g.reads false 0 (shell w)).tongue in
    record {
      tongue = bracket_tongue kinds.Case kinds.End (plain_token kinds.Case) (plain_token kinds.End) refl refl t;
      exact = λ _. bracket_exact d w.room (in_case_at w) (only kinds.When ++ in_fact) after_arms kinds.Case kinds.End (plain_token kinds.Case) (plain_token kinds.End) refl refl refl refl refl refl t (inside d w (in_case_at w) (Either IsArms IsChoices) (only kinds.When ++ in_fact) after_arms r.inner g);
    }

counted_reads : {b : Bool} {d : ℕ} {w : Readers} → Lower b d w → IsReaderOf b d (counted_at w) IsCounted false (only kinds.Star ++ only kinds.Distinct ++ in_fact) after_expr
unfolding counted_at
counted_reads l = wide _ _ refl refl refl (pick_reads (means_reads kinds.Star (exprs.Atom atoms.CountRows) refl)
    (pick_reads (after_reads kinds.Distinct refl (made_reads (exprs.Aggregate aggregates.CountDistinct) l.expr)) (made_reads (exprs.Aggregate aggregates.Count) l.expr) refl) refl)

last_part_reads : {b : Bool} {d : ℕ} {w : Readers} → Lower b d w → IsReaderOf b d (last_part_at w) (Optional (After kinds.Comma InExpr)) true (only kinds.Comma) (only kinds.Comma ++ after_expr)
unfolding last_part_at
last_part_reads l = optional_reads (after_reads kinds.Comma refl l.expr)

parted_reads : {b : Bool} {d : ℕ} {w : Readers} → Lower b d w → IsReaderOf b d (parted_at w) IsParted false in_fact (only kinds.Comma ++ after_expr)
unfolding parted_at
parted_reads l = wide _ _ refl refl refl (then_reads l.expr (λ t. after_reads kinds.Comma refl (then_reads l.expr (λ i. made_reads (exprs.Substr t i) (last_part_reads l)) refl)) refl)

first_of_reads : {b : Bool} {d : ℕ} {w : Readers} → Lower b d w → IsReaderOf b d (first_of_at w) IsFirstOf false in_fact (only kinds.Comma ++ after_expr)
unfolding first_of_at
first_of_reads l = wide _ _ refl refl refl (then_reads l.expr (λ x. after_reads kinds.Comma refl (made_reads (λ xs. exprs.Coalesce (x ∷ xs)) (listed_reads l.expr refl))) refl)

verified_reads : {b : Bool} {d : ℕ} → IsReaderOf b d verified_texts_at IsVerified false (only kinds.SessionUser) (only kinds.Comma)
unfolding verified_texts_at
verified_reads = wide _ _ refl refl refl (after_reads kinds.SessionUser refl (after_reads kinds.Comma refl (listed_reads text_reads refl)))

two_texts_reads : {b : Bool} {d : ℕ} → IsReaderOf b d two_texts_at IsTwoTexts false (only kinds.Text) []
unfolding two_texts_at
two_texts_reads = wide _ _ refl refl refl (then_reads text_reads (λ p. after_reads kinds.Comma refl (made_reads (λ l. (p, l)) text_reads)) refl)

shown_reads : {b : Bool} {d : ℕ} → IsReaderOf b d shown_at IsShown false (only kinds.Text) (only kinds.Dot)
unfolding shown_at
shown_reads = wide _ _ refl refl refl (then_reads text_reads (λ p. after_reads kinds.Comma refl (made_reads (λ c. exprs.Atom (atoms.SecLabelToChar p c)) column_reads)) refl)

date_reads : {b : Bool} {d : ℕ} → IsReaderOf b d date_at (Made (λ n. exprs.Atom (atoms.Date n)) IsDayLiteral) false (only kinds.Text) []
unfolding date_at
date_reads = made_reads (λ n. exprs.Atom (atoms.Date n)) day_reads

arguments_reads : {b : Bool} {d : ℕ} {w : Readers} → Ready d w → (c : Call) → IsReaderOf b d (arguments_at w c) (IsArguments c) false (begins_arguments c) []
unfolding arguments_at in_arguments_at begins_arguments is_date
arguments_reads r calls.Count = parens_reads r (record { reads = λ b d l. counted_reads l }) refl
arguments_reads r (calls.Total a) = parens_reads r (record { reads = λ b d l. made_reads (exprs.Aggregate a) l.expr }) refl
arguments_reads r calls.Substr = parens_reads r (record { reads = λ b d l. parted_reads l }) refl
arguments_reads r (calls.Apply f) = parens_reads r (record { reads = λ b d l. made_reads (exprs.Apply f) l.expr }) refl
arguments_reads r calls.Coalesce = parens_reads r (record { reads = λ b d l. first_of_reads l }) refl
arguments_reads r calls.VerifyRole = parens_reads r (record { reads = λ b d l. made_reads (λ rs. exprs.Atom (atoms.VerifyRole rs)) verified_reads }) refl
arguments_reads r calls.VerifyGroup = parens_reads r (record { reads = λ b d l. made_reads (λ gs. exprs.Atom (atoms.VerifyGroup gs)) verified_reads }) refl
arguments_reads r calls.SecLabel = parens_reads r (record { reads = λ b d l. made_reads (λ p. exprs.Atom (atoms.SecLabel p.0 p.1)) two_texts_reads }) refl
arguments_reads r calls.SecLabelByName = parens_reads r (record { reads = λ b d l. made_reads (λ p. exprs.Atom (atoms.SecLabelByName p.0 p.1)) two_texts_reads }) refl
arguments_reads r calls.SecLabelToChar = parens_reads r (record { reads = λ b d l. shown_reads }) refl
arguments_reads r calls.Date = wide _ _ refl refl refl (pick_reads (parens_reads r (record { reads = λ b d l. date_reads }) refl) date_reads refl)

-- after a name
abbrev pub Called : Option Call → List ℕ → Lang Expr
Called None n = Nothing (a_column (alone n))
Called (Some c) n = Either (IsArguments c) (Nothing (a_column (alone n)))

abbrev in_called : Kinds
in_called = only kinds.Open ++ only kinds.Text

pub called_reads : {b : Bool} {d : ℕ} {w : Readers} → Ready d w → (o : Option Call) (n : List ℕ) → IsReaderOf b d (called_at w o n) (Called o n) true in_called in_called
unfolding called_at begins_arguments is_date
called_reads r None n = wide _ _ refl refl refl (give_reads (a_column (alone n)))
called_reads {b} {d} {w} r (Some c) n = go c (pick_reads (arguments_reads r c) (give_reads (a_column (alone n))) refl)
  where
    go : (c : Call) → IsReaderOf b d (pick (begins_arguments c) (arguments_at w c) (give (a_column (alone n)))) (Either (IsArguments c) (Nothing (a_column (alone n)))) true (begins_arguments c ++ []) (begins_arguments c ++ ([] ++ [])) → IsReaderOf b d (pick (begins_arguments c) (arguments_at w c) (give (a_column (alone n)))) (Either (IsArguments c) (Nothing (a_column (alone n)))) true in_called in_called
    go calls.Count p = wide _ _ refl refl refl p
    go (calls.Total a) p = wide _ _ refl refl refl p
    go calls.Substr p = wide _ _ refl refl refl p
    go (calls.Apply f) p = wide _ _ refl refl refl p
    go calls.Coalesce p = wide _ _ refl refl refl p
    go calls.VerifyRole p = wide _ _ refl refl refl p
    go calls.VerifyGroup p = wide _ _ refl refl refl p
    go calls.SecLabel p = wide _ _ refl refl refl p
    go calls.SecLabelByName p = wide _ _ refl refl refl p
    go calls.SecLabelToChar p = wide _ _ refl refl refl p
    go calls.Date p = wide _ _ refl refl refl p

abbrev pub NamedOn : Option Call × List ℕ → Lang Expr
NamedOn p = Either (After kinds.Dot (Made (λ m. a_column (of_table p.1 m)) IsName)) (Called p.0 p.1)

abbrev pub Named : Lang Expr
Named = Seq (One names word_in) NamedOn

-- col or call
abbrev pub IsNamed : Lang Expr
IsNamed = Either (Made a_column IsColumn) IsCall

-- a name, and the function that it names
pub named_view : (c : Content) (o : Option Call) (n : List ℕ) → name_in c ≡ Some n → option_and_then {U = Option Call × List ℕ} (λ m. Some (o, m)) (name_in c) ≡ Some (o, n)
named_view c o n e = ap (λ (v : Option (List ℕ)). option_and_then {U = Option Call × List ℕ} (λ m. Some (o, m)) v) e

pub view_name : (v : Option (List ℕ)) (o p : Option Call) (n : List ℕ) → option_and_then {U = Option Call × List ℕ} (λ m. Some (o, m)) v ≡ Some (p, n) → (v ≡ Some n) × (o ≡ p)
view_name None o p n e = absurd cc
view_name (Some m) o p n e = let q : ◌≡◌ {A = Option Call × List ℕ} (o, m) (p, n) = cc in (ap (λ (z : Option Call × List ℕ). Some z.1) q, ap (λ (z : Option Call × List ℕ). z.0) q)

view_call : (v : Option (Option Call × List ℕ)) (c : Call) → option_and_then {U = Call} (λ w. w.0) v ≡ Some c → (n : List ℕ) × (v ≡ Some (Some c, n))
view_call None c e = absurd cc
view_call (Some p) c e = (p.1, ap (λ (o : Option Call). Some (o, p.1)) e)

pub to_named : Within Named IsNamed
to_named s ts x p = go p.2 p.3 p.4
  where
    go : (w : Option Call × List ℕ) → One names word_in s p.0 w → NamedOn w s p.1 x → IsNamed s ts x
    go w t (inl q) =
        let v = view_name (name_in t.0.content) (call_of t.0.kind) w.0 w.1 t.3 in
        let m = q.4 in
        inl (ts, [], of_table w.1 m.2, (p.0, p.1, w.1, (t.0, t.1, t.2, v.0), inl (q.0, q.1, q.2, q.3, (m.0, m.1, m.2, m.3, (m.4.0, refl), m.5), q.5), p.5), (refl, m.4.1), sym (nil ts))
    go (None, n) t (inr q) =
        let v = view_name (name_in t.0.content) (call_of t.0.kind) None n t.3 in
        inl (ts, [], alone n, (p.0, p.1, n, (t.0, t.1, t.2, v.0), inr (q.0, refl), p.5), (refl, q.1), sym (nil ts))
    go (Some c, n) t (inr (inr q)) =
        let v = view_name (name_in t.0.content) (call_of t.0.kind) (Some c) n t.3 in
        inl (ts, [], alone n, (p.0, p.1, n, (t.0, t.1, t.2, v.0), inr (q.0, refl), p.5), (refl, q.1), sym (nil ts))
    go (Some c, n) t (inr (inl q)) = inr (p.0, p.1, c, (t.0, t.1, t.2, ap (λ (o : Option (Option Call × List ℕ)). option_and_then {U = Call} (λ w. w.0) o) t.3), q, p.5)

pub of_named : Within IsNamed Named
of_named s ts x (inl p) = column p.2 p.3 p.4.1
  where
    whole : p.0 ≡ ts
    whole = sym (p.5 ∙ ap (λ (u : List Token). p.0 ++ u) p.4.0 ∙ nil p.0)

    called : (o : Option Call) (n : List ℕ) → Called o n s [] (a_column (alone n))
    called None n = (refl, refl)
    called (Some c) n = inr (refl, refl)

    column : (c : Column) → IsColumn s p.0 c → x ≡ a_column c → Named s ts x
    column c q e = elim q.4 [
      | inl d ↦
          let m = d.4 in
          let t = q.3 in
          (q.0, q.1, (call_of t.0.kind, q.2), (t.0, t.1, t.2, named_view t.0.content (call_of t.0.kind) q.2 t.3), inl (d.0, d.1, d.2, d.3, (m.0, m.1, m.2, m.3, (m.4.0, e ∙ ap (λ (k : Column). a_column k) m.4.1), m.5), d.5), sym whole ∙ q.5)
      | inr d ↦
          let t = q.3 in
          (q.0, q.1, (call_of t.0.kind, q.2), (t.0, t.1, t.2, named_view t.0.content (call_of t.0.kind) q.2 t.3), inr (subst (λ (u : List Token). Called (call_of t.0.kind) q.2 s u x) (sym d.0) (subst (λ (e : Expr). Called (call_of t.0.kind) q.2 s [] e) (sym (e ∙ ap (λ (k : Column). a_column k) d.1)) (called (call_of t.0.kind) q.2))), sym whole ∙ q.5)
    ]
of_named s ts x (inr p) =
    let t = p.3 in
    let v = view_call (word_in t.0) p.2 t.3 in
    (p.0, p.1, (Some p.2, v.0), (t.0, t.1, t.2, v.1), inr (inl p.4), p.5)

abbrev named_on_reads_set : Kinds
named_on_reads_set = only kinds.Dot ++ in_called

named_on_reads : {b : Bool} {d : ℕ} {w : Readers} → Ready d w → (p : Option Call × List ℕ) → IsReaderOf b d (named_on w p) (NamedOn p) true named_on_reads_set named_on_reads_set
unfolding named_on
named_on_reads r p = wide _ _ refl refl refl (pick_reads (after_reads kinds.Dot refl (made_reads (λ m. a_column (of_table p.1 m)) name_reads)) (called_reads r p.0 p.1) refl)

pub named_reads : {b : Bool} {d : ℕ} {w : Readers} → Ready d w → IsReaderOf b d (named_at w) IsNamed false names after_fact
unfolding named_at
named_reads r = wide _ _ refl refl refl (same_reads IsNamed to_named of_named (then_reads word_at_reads (named_on_reads r) refl))

-- ---- facts

number_reads : {b : Bool} {d : ℕ} → IsReaderOf b d number_at IsNumber false (only kinds.Minus ++ only kinds.Numeral) []
unfolding number_at
number_reads = wide _ _ refl refl refl (pick_reads (after_reads kinds.Minus refl (made_reads (λ n. exprs.Atom (atoms.Int n)) negative_reads)) (made_reads (λ n. exprs.Atom (atoms.Int n)) int_reads) refl)

today_reads : {b : Bool} {d : ℕ} → IsReaderOf b d today_at IsToday false (only kinds.Current ++ only kinds.CurrentDate) []
unfolding today_at
today_reads = wide _ _ refl refl refl (pick_reads (after_reads kinds.Current refl (means_reads kinds.Date (exprs.Atom atoms.CurrentDate) refl)) (means_reads kinds.CurrentDate (exprs.Atom atoms.CurrentDate) refl) refl)

pub literal_reads : {b : Bool} {d : ℕ} {w : Readers} → Ready d w → IsReaderOf b d (literal_at w) IsLiteral false in_literal []
unfolding literal_at
literal_reads r = wide _ _ refl refl refl (
    pick_reads (means_reads kinds.Null (exprs.Atom atoms.Null) refl)
    (pick_reads number_reads
    (pick_reads (made_reads (λ t. exprs.Atom (atoms.Text t)) text_reads)
    (pick_reads today_reads
    (pick_reads (means_reads kinds.SessionUser (exprs.Atom atoms.SessionUser) refl)
    (case_reads r) refl) refl) refl) refl) refl)

-- a fact that begins with no bracket
abbrev pub Plain : Lang Expr
Plain = Either IsNamed IsLiteral

pub plain_reads : {b : Bool} {d : ℕ} {w : Readers} → Ready d w → IsReaderOf b d (plain_at w) Plain false (names ++ in_literal) after_fact
unfolding plain_at
plain_reads r = wide _ _ refl refl refl (pick_reads (named_reads r) (literal_reads r) refl)

pub in_parens : (w : Readers) → Content' w w.expr InExpr in_fact after_expr
in_parens w = record { reads = λ b d l. l.expr }

pub fact_reads : {b : Bool} {d : ℕ} {w : Readers} → Ready d w → IsReaderOf b d (fact_at w) IsFact false in_fact after_fact
unfolding fact_at
fact_reads {b} {d} {w} r = wide _ _ refl refl refl (pick_reads (parens_reads r (in_parens w) refl) (plain_reads r) refl)

-- ---- products, concatenations and sums

abbrev pub ProductOn : Expr → Lang Expr
ProductOn x = Made (products x) (Many (After kinds.Star IsFact))

abbrev pub ConcatOn : Expr → Lang Expr
ConcatOn x = Made (concats x) (Many (After kinds.Bars IsTerm))

abbrev pub SumOn : Expr → Lang Expr
SumOn x = Made (sums x) (Many IsSigned)

abbrev pub Rest : Expr → Lang Expr
Rest x = Seq (ProductOn x) (λ t. Seq (ConcatOn t) SumOn)

abbrev after_product : Kinds
after_product = after_fact ++ only kinds.Star

abbrev after_concat : Kinds
after_concat = after_product ++ only kinds.Bars

product_reads : {b : Bool} {d : ℕ} {w : Readers} → Ready d w → (x : Expr) → IsReaderOf b d (product_on w x) (ProductOn x) true (only kinds.Star) after_product
unfolding product_on
product_reads r x = wide _ _ refl refl refl (made_reads (products x) (many_reads (after_reads kinds.Star refl (fact_reads r)) refl))

term_reads : {b : Bool} {d : ℕ} {w : Readers} → Ready d w → IsReaderOf b d (term_at w) IsTerm false in_fact after_product
unfolding term_at
term_reads r = wide _ _ refl refl refl (then_reads (fact_reads r) (product_reads r) refl)

concat_on_reads : {b : Bool} {d : ℕ} {w : Readers} → Ready d w → (x : Expr) → IsReaderOf b d (concat_on w x) (ConcatOn x) true (only kinds.Bars) after_concat
unfolding concat_on
concat_on_reads r x = wide _ _ refl refl refl (made_reads (concats x) (many_reads (after_reads kinds.Bars refl (term_reads r)) refl))

concat_reads : {b : Bool} {d : ℕ} {w : Readers} → Ready d w → IsReaderOf b d (concat_at w) IsConcat false in_fact after_concat
unfolding concat_at
concat_reads r = wide _ _ refl refl refl (then_reads (term_reads r) (concat_on_reads r) refl)

abbrev in_sum : Kinds
in_sum = only kinds.Plus ++ only kinds.Minus

sign_reads : {b : Bool} {d : ℕ} → IsReaderOf b d sign_at IsSign false in_sum []
unfolding sign_at
sign_reads = wide _ _ refl refl refl (pick_reads (means_reads kinds.Plus false refl) (means_reads kinds.Minus true refl) refl)

signed_reads : {b : Bool} {d : ℕ} {w : Readers} → Ready d w → IsReaderOf b d (signed_at w) IsSigned false in_sum after_concat
unfolding signed_at
signed_reads r = wide _ _ refl refl refl (then_reads sign_reads (λ m. made_reads (λ x. record { minus = m; part = x }) (concat_reads r)) refl)

sum_on_reads : {b : Bool} {d : ℕ} {w : Readers} → Ready d w → (x : Expr) → IsReaderOf b d (sum_on w x) (SumOn x) true in_sum after_expr
unfolding sum_on
sum_on_reads r x = wide _ _ refl refl refl (made_reads (sums x) (many_reads (signed_reads r) refl))

pub expr_reads : {b : Bool} {d : ℕ} {w : Readers} → Ready d w → IsReaderOf b d (expr_at w) IsExpr false in_fact after_expr
unfolding expr_at
expr_reads r = wide _ _ refl refl refl (then_reads (concat_reads r) (sum_on_reads r) refl)

-- what goes on after a first fact
abbrev pub in_rest : Kinds
in_rest = only kinds.Star ++ only kinds.Bars ++ in_sum

pub rest_reads : {b : Bool} {d : ℕ} {w : Readers} → Ready d w → (x : Expr) → IsReaderOf b d (rest_at w x) (Rest x) true in_rest after_expr
unfolding rest_at
rest_reads r x = wide _ _ refl refl refl (then_reads (product_reads r x) (λ t. then_reads (concat_on_reads r t) (sum_on_reads r) refl) refl)

-- an expression is a fact and the rest
pub to_parts : Within IsExpr (Seq IsFact Rest)
to_parts s ts x p =
    let q = assoc IsTerm ConcatOn SumOn s ts x p in
    assoc IsFact ProductOn (λ t. Seq (ConcatOn t) SumOn) s ts x q

pub from_parts : Within (Seq IsFact Rest) IsExpr
from_parts s ts x p = unassoc IsTerm ConcatOn SumOn s ts x (unassoc IsFact ProductOn (λ t. Seq (ConcatOn t) SumOn) s ts x p)
