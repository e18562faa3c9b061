-- Tables: CREATE TABLE and ALTER TABLE.
use Rattle.std.proofs.Common.{Bool, true, false, ◌||◌, inl, inr, ◌≡◌, ℕ, zero, suc, List, [], ◌∷◌, ◌++◌, Option, Some, None, refl, sym, ap, ◌∙◌}
use Rattle.std.proofs.lemmas.List.{append-nil}
use Rattle.lb_stmt.specs.declared.change.PlainType.{PlainType}
use Rattle.lb_stmt.specs.declared.change.PlainType.TheVariants as plains
use Rattle.lb_stmt.specs.declared.change.ColumnType.{ColumnType}
use Rattle.lb_stmt.specs.declared.change.ColumnType.TheVariants as types
use Rattle.lb_stmt.specs.declared.change.Element.{Element}
use Rattle.lb_stmt.specs.declared.change.Element.TheVariants as elements
use Rattle.lb_stmt.specs.declared.change.Change.TheVariants as changes
use Rattle.lb_tok.specs.declared.kind.Kind.TheVariants as kinds
use Rattle.lb_tok.specs.Kinds.{Kinds, only, names, has}
use Rattle.lb_tok.specs.Form.{Lang, Nothing, Seq, Either, Many, After, Made, Optional, Listed, Parens}
use Rattle.lb_tok.specs.Grammar.{level, IsName, IsInt}
use Rattle.lb_tok.specs.Changes.{any_is, column_def, IsPlainType, IsType, IsOption, IsSecured, IsElement, IsCreateTable}
use Rattle.lb_readt.specs.Readers.{listed}
use Rattle.lb_reade.specs.Expressions.{Readers, parens}
use Rattle.lb_readq.specs.Queries.{readers}
use Rattle.lb_readt.proofs.Joined.{Tongue, Within}
use Rattle.lb_readt.proofs.Repeats.{bracket_exact, bracket_tongue, Inside}
use Rattle.lb_readt.proofs.Combined.{IsReaderOf, plain_token, give_reads, then_reads, same_reads, pick_reads, many_reads, wide, made_reads, after_reads, means_reads, may_reads, optional_reads, listed_reads}
use Rattle.lb_readt.proofs.Tokens.{name_reads, int_reads}
use Rattle.lb_reade.proofs.Expressions.{Ready, parens_reads}
use Rattle.lb_readt.proofs.Languages.{nil, made_is, made_of}
use Rattle.lb_readq.proofs.Queries.{ready}
use Rattle.lb_readd.specs.Defining.{plain_types, width_at, plain_type_at, type_at, option_at, in_option, written, options_at, secured_at, column_of, in_either, column_on, key_at, element_on, element_at, in_table_at, table_policy_at, create_table_at}
use Rattle.lb_readg.proofs.Names.{Chosen, ahead_reads}

-- ---- types

abbrev pub Width : Lang PlainType
Width = Made plains.Text (Parens IsInt)

pub width_reads : {b : Bool} {d : ℕ} {w : Readers} → Ready d w → IsReaderOf b d (width_at w) Width false (only kinds.Open) []
unfolding width_at
width_reads r = made_reads plains.Text (parens_reads r (record { reads = λ b d l. int_reads }) refl)

pub plain_type_reads : {b : Bool} {d : ℕ} {w : Readers} → Ready d w → IsReaderOf b d (plain_type_at w) IsPlainType false plain_types []
unfolding plain_type_at
plain_type_reads r = wide _ _ refl refl refl (pick_reads (means_reads kinds.BigInt plains.Int refl)
    (pick_reads (means_reads kinds.Integer plains.Int refl)
    (pick_reads (means_reads kinds.Int plains.Int refl)
    (pick_reads (after_reads kinds.Varchar refl (width_reads r))
    (means_reads kinds.Date plains.Date refl) refl) refl) refl) refl)

-- what begins a type
abbrev in_type : Kinds
in_type = only kinds.Db2SecurityLabel ++ plain_types

type_reads : {b : Bool} {d : ℕ} {w : Readers} → Ready d w → IsReaderOf b d (type_at w) IsType false in_type []
unfolding type_at
type_reads r = wide _ _ refl refl refl (pick_reads (means_reads kinds.Db2SecurityLabel types.Label refl) (made_reads types.Plain (plain_type_reads r)) refl)

-- ---- columns of a new table

option_reads : {b : Bool} {d : ℕ} → IsReaderOf b d option_at IsOption false in_option []
unfolding option_at
option_reads = wide _ _ refl refl refl (pick_reads (after_reads kinds.Not refl (means_reads kinds.Null false refl)) (after_reads kinds.Primary refl (means_reads kinds.Key true refl)) refl)

abbrev Options : Lang (Bool × Bool)
Options = Made written (Many IsOption)

options_reads : {b : Bool} {d : ℕ} → IsReaderOf b d options_at Options true in_option in_option
unfolding options_at
options_reads = wide _ _ refl refl refl (made_reads written (many_reads option_reads refl))

abbrev in_secured : Kinds
in_secured = only kinds.Column ++ only kinds.Secured

secured_reads : {b : Bool} {d : ℕ} → IsReaderOf b d secured_at IsSecured false in_secured []
unfolding secured_at
secured_reads = wide _ _ refl refl refl (then_reads (may_reads kinds.Column refl) (λ _. after_reads kinds.Secured refl (after_reads kinds.With refl name_reads)) refl)

-- after a column's name
abbrev SecuredOn : List ℕ → ColumnType → List Bool → Lang Element
SecuredOn n t before = Either (Seq IsSecured (λ l. Made (λ behind. column_def n t before (Some l) behind) (Many IsOption))) (Nothing (column_def n t before None []))

abbrev ColumnOn : List ℕ → Lang Element
ColumnOn n = Seq IsType (λ t. Seq (Many IsOption) (SecuredOn n t))

-- the same, by what the options say
abbrev SecuredBy : List ℕ → ColumnType → Bool × Bool → Lang Element
SecuredBy n t before = Either (Seq IsSecured (λ l. Made (λ behind. column_of n t (Some l) (in_either before behind)) Options)) (Nothing (column_of n t None before))

abbrev ColumnBy : List ℕ → Lang Element
ColumnBy n = Seq IsType (λ t. Seq Options (SecuredBy n t))

or_assoc : (a b c : Bool) → (a || (b || c)) ≡ ((a || b) || c)
or_assoc true b c = refl
or_assoc false b c = refl

any_append : (b : Bool) (xs ys : List Bool) → any_is b (xs ++ ys) ≡ (any_is b xs || any_is b ys)
any_append true [] ys = refl
any_append false [] ys = refl
any_append true (x ∷ xs) ys = ap (λ (c : Bool). x || c) (any_append true xs ys) ∙ or_assoc x (any_is true xs) (any_is true ys)
any_append false (true ∷ xs) ys = any_append false xs ys
any_append false (false ∷ xs) ys = refl

written_append : (xs ys : List Bool) → written (xs ++ ys) ≡ in_either (written xs) (written ys)
written_append xs ys = ap (λ (c : Bool). (c, any_is true (xs ++ ys))) (any_append false xs ys) ∙ ap (λ (c : Bool). (any_is false xs || any_is false ys, c)) (any_append true xs ys)

-- the options before and after SECURED WITH
with_both : (n : List ℕ) (t : ColumnType) (label : Option (List ℕ)) (xs ys : List Bool) → column_def n t xs label ys ≡ column_of n t label (in_either (written xs) (written ys))
with_both n t label xs ys = ap (λ (w : Bool × Bool). column_of n t label w) (written_append xs ys)

with_none : (n : List ℕ) (t : ColumnType) (xs : List Bool) → column_def n t xs None [] ≡ column_of n t None (written xs)
with_none n t xs = ap (λ (os : List Bool). column_of n t None (written os)) (append-nil xs)

to_column : (n : List ℕ) → Within (ColumnBy n) (ColumnOn n)
to_column n s ts x p = go p.4 p.4.4
  where
    go : (q : Seq Options (SecuredBy n p.2) s p.1 x) → SecuredBy n p.2 q.2 s q.1 x → ColumnOn n s ts x
    go q (inl c) =
        let os = made_of written (Many IsOption) s q.0 q.2 q.3 in
        let m = made_of (λ behind. column_of n p.2 (Some c.2) (in_either q.2 behind)) Options s c.1 x c.4 in
        let bs = made_of written (Many IsOption) s c.1 m.0 m.1 in
        let e : x ≡ column_def n p.2 os.0 (Some c.2) bs.0 = m.2 ∙ ap (λ (z : Bool × Bool). column_of n p.2 (Some c.2) (in_either q.2 z)) bs.2 ∙ ap (λ (z : Bool × Bool). column_of n p.2 (Some c.2) (in_either z (written bs.0))) os.2 ∙ sym (with_both n p.2 (Some c.2) os.0 bs.0) in
        (p.0, p.1, p.2, p.3, (q.0, q.1, os.0, os.1, inl (c.0, c.1, c.2, c.3, (c.1, [], bs.0, bs.1, (refl, e), sym (nil c.1)), c.5), q.5), p.5)
    go q (inr c) =
        let os = made_of written (Many IsOption) s q.0 q.2 q.3 in
        let e : x ≡ column_def n p.2 os.0 None [] = c.1 ∙ ap (λ (z : Bool × Bool). column_of n p.2 None z) os.2 ∙ sym (with_none n p.2 os.0) in
        (p.0, p.1, p.2, p.3, (q.0, q.1, os.0, os.1, inr (c.0, e), q.5), p.5)

of_column : (n : List ℕ) → Within (ColumnOn n) (ColumnBy n)
of_column n s ts x p = go p.4 p.4.4
  where
    go : (q : Seq (Many IsOption) (SecuredOn n p.2) s p.1 x) → SecuredOn n p.2 q.2 s q.1 x → ColumnBy n s ts x
    go q (inl c) =
        let bs = made_of (λ behind. column_def n p.2 q.2 (Some c.2) behind) (Many IsOption) s c.1 x c.4 in
        let e : x ≡ column_of n p.2 (Some c.2) (in_either (written q.2) (written bs.0)) = bs.2 ∙ with_both n p.2 (Some c.2) q.2 bs.0 in
        (p.0, p.1, p.2, p.3, (q.0, q.1, written q.2, made_is written (Many IsOption) s q.0 q.2 q.3, inl (c.0, c.1, c.2, c.3, (c.1, [], written bs.0, made_is written (Many IsOption) s c.1 bs.0 bs.1, (refl, e), sym (nil c.1)), c.5), q.5), p.5)
    go q (inr c) = (p.0, p.1, p.2, p.3, (q.0, q.1, written q.2, made_is written (Many IsOption) s q.0 q.2 q.3, inr (c.0, c.1 ∙ with_none n p.2 q.2), q.5), p.5)

abbrev after_column : Kinds
after_column = in_option ++ in_secured

column_reads : {b : Bool} {d : ℕ} {w : Readers} → Ready d w → (n : List ℕ) → IsReaderOf b d (column_on w n) (ColumnOn n) false in_type after_column
unfolding column_on
column_reads r n = wide _ _ refl refl refl (same_reads (ColumnOn n) (to_column n) (of_column n) (then_reads (type_reads r) (λ t. then_reads options_reads (λ before.
    pick_reads (wide in_secured in_option refl refl refl (then_reads secured_reads (λ l. made_reads (λ behind. column_of n t (Some l) (in_either before behind)) options_reads) refl)) (give_reads (column_of n t None before)) refl) refl) refl))

abbrev KeyDef : Lang Element
KeyDef = After kinds.Key (Made elements.Key (Parens IsName))

key_reads : {b : Bool} {d : ℕ} {w : Readers} → Ready d w → IsReaderOf b d (key_at w) KeyDef false (only kinds.Key) []
unfolding key_at
key_reads r = after_reads kinds.Key refl (made_reads elements.Key (parens_reads r (record { reads = λ b d l. name_reads }) refl))

element_on_reads : {b : Bool} {d : ℕ} {w : Readers} → Ready d w → (p : Bool × List ℕ) → IsReaderOf b d (element_on w p) (Chosen KeyDef ColumnOn p) false (only kinds.Key ++ in_type) after_column
unfolding element_on
element_on_reads r (true, n) = wide _ _ refl refl refl (pick_reads (key_reads r) (column_reads r n) refl)
element_on_reads r (false, n) = wide _ _ refl refl refl (column_reads r n)

element_reads : {b : Bool} {d : ℕ} {w : Readers} → Ready d w → IsReaderOf b d (element_at w) IsElement false names after_column
unfolding element_at
element_reads r = wide _ _ refl refl refl (ahead_reads kinds.Primary KeyDef ColumnOn refl (element_on_reads r) refl)

abbrev after_elements : Kinds
after_elements = only kinds.Comma ++ after_column

elements_reads : {b : Bool} {d : ℕ} {w : Readers} → Ready d w → IsReaderOf b d (listed (element_at w)) (Listed IsElement) false names after_elements
elements_reads r = wide _ _ refl refl refl (listed_reads (element_reads r) refl)

in_table : (d : ℕ) → Inside level d (readers d).room (in_table_at d) (Listed IsElement) names after_elements
unfolding readers in_table_at
in_table zero = refl
in_table (suc d) = (refl, (elements_reads {b = true} {d = d} (ready d)).exact refl)

table_reads : {b : Bool} {d : ℕ} → IsReaderOf b d (parens (readers d) (in_table_at d)) (Parens (Listed IsElement)) false (only kinds.Open) []
unfolding has
table_reads {b} {d} =
    let t : Tongue level (Listed IsElement) false names = (elements_reads {b = false} {d = 0} (ready 0)).tongue in
    record {
      tongue = bracket_tongue kinds.Open kinds.Close (plain_token kinds.Open) (plain_token kinds.Close) refl refl t;
      exact = λ _. bracket_exact d (readers d).room (in_table_at d) names after_elements kinds.Open kinds.Close (plain_token kinds.Open) (plain_token kinds.Close) refl refl refl refl refl refl t (in_table d);
    }

table_policy_reads : {b : Bool} {d : ℕ} → IsReaderOf b d table_policy_at (Optional (After kinds.Security (After kinds.Policy IsName))) true (only kinds.Security) (only kinds.Security)
unfolding table_policy_at
table_policy_reads = wide _ _ refl refl refl (optional_reads (after_reads kinds.Security refl (after_reads kinds.Policy refl name_reads)))

pub create_table_reads : {b : Bool} {d : ℕ} → IsReaderOf b d (create_table_at d) IsCreateTable false (only kinds.Table) (only kinds.Security)
unfolding create_table_at
create_table_reads = wide _ _ refl refl refl (after_reads kinds.Table refl (then_reads name_reads (λ t. then_reads table_reads (λ es. made_reads (changes.CreateTable t es) table_policy_reads) refl) refl))
