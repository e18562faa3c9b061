-- The two tests of keys agree for rows that fit.
use Rattle.std.proofs.Common.{ℕ, zero, suc, ◌≡◌, refl, sym, subst, ap, ◌∙◌, Bool, true, false, not, ◌&&◌, ◌||◌, List, [], ◌∷◌, map, slice_get, Option, Some, None}
use Rattle.std.specs.Prelude.{option_map}
use Rattle.std.specs.List.{AllByRecursion, AllZip, list_any}
use Rattle.std.specs.Str.{bytes_eq}
use Rattle.std.proofs.lemmas.Cmp.{int_eq_equiv}
use Rattle.std.proofs.lemmas.Slice.Eq.{bytes_eq-Decides}
use Rattle.lb_base.specs.declared.value.Value.{Value}
use Rattle.lb_base.specs.declared.value.Value.TheVariants as values
use Rattle.lb_base.specs.Compare.{equal_of, truth_of}
use Rattle.lb_base.specs.Truths.{is_true}
use Rattle.lb_cat.specs.declared.catalog.ColumnRec.{ColumnRec}
use Rattle.lb_cat.specs.Catalog.{Cat, Table}
use Rattle.lb_base.specs.Conditions.{is_null}
use Rattle.lb_rows.specs.KeyValues.{is_true as is_true_of, are_keys, value_at, keys_differ}
use Rattle.lb_answer.specs.Keys.{is_one_key, is_doubled, has_double}
use Rattle.lb_alter.specs.Columns.{HasKeyColumn, not_null_in}
use Rattle.lb_alter.specs.Fits.{FitsColumn, FitsTable}
use Rattle.lb_alter.proofs.Untouched.{turned}
use Rattle.lb_fits.specs.Laws.{KeysAgree}

-- ---- one test of two values

bytes_by : (b : Bool) (xs ys : List ℕ) → bytes_eq xs ys ≡ b → bytes_eq xs ys ≡ bytes_eq ys xs
bytes_by false xs ys e = e ∙ sym (turned xs ys e)
bytes_by true xs ys e = let s : xs ≡ ys = (bytes_eq-Decides xs ys).0 e in subst (λ (zs : List ℕ). bytes_eq xs zs ≡ bytes_eq zs xs) s refl

bytes_turned : (xs ys : List ℕ) → bytes_eq xs ys ≡ bytes_eq ys xs
bytes_turned xs ys = bytes_by (bytes_eq xs ys) xs ys refl

as_truth : (b : Bool) → is_true_of (truth_of b) ≡ is_true (truth_of b)
as_truth true = refl
as_truth false = refl

turned_truth : (a b : Bool) → a ≡ b → is_true_of (truth_of a) ≡ is_true (truth_of b)
turned_truth a b e = as_truth a ∙ ap (λ (x : Bool). is_true (truth_of x)) e

key_turned : (v w : Value) → is_true_of (equal_of v w) ≡ is_one_key w v
key_turned values.Null values.Null = refl
key_turned values.Null (values.Int y) = refl
key_turned values.Null (values.Text y) = refl
key_turned values.Null (values.Date y) = refl
key_turned values.Null (values.Label y) = refl
key_turned (values.Int x) values.Null = refl
key_turned (values.Int x) (values.Int y) = turned_truth _ _ (int_eq_equiv.symm x y)
key_turned (values.Int x) (values.Text y) = refl
key_turned (values.Int x) (values.Date y) = refl
key_turned (values.Int x) (values.Label y) = refl
key_turned (values.Text x) values.Null = refl
key_turned (values.Text x) (values.Int y) = refl
key_turned (values.Text x) (values.Text y) = turned_truth _ _ (bytes_turned x y)
key_turned (values.Text x) (values.Date y) = refl
key_turned (values.Text x) (values.Label y) = refl
key_turned (values.Date x) values.Null = refl
key_turned (values.Date x) (values.Int y) = refl
key_turned (values.Date x) (values.Text y) = refl
key_turned (values.Date x) (values.Date y) = turned_truth _ _ (int_eq_equiv.symm x y)
key_turned (values.Date x) (values.Label y) = refl
key_turned (values.Label x) values.Null = refl
key_turned (values.Label x) (values.Int y) = refl
key_turned (values.Label x) (values.Text y) = refl
key_turned (values.Label x) (values.Date y) = refl
key_turned (values.Label x) (values.Label y) = turned_truth _ _ (bytes_turned x.items y.items)

-- ---- the keys of a list

any_same : (p q : Value → Bool) → ((w : Value) → p w ≡ q w) → (ks : List Value) → list_any p ks ≡ list_any q ks
any_same p q e [] = refl
any_same p q e (k ∷ ks) = λ i. e k i || any_same p q e ks i

de_morgan : (a b : Bool) → (not a && not b) ≡ not (a || b)
de_morgan true b = refl
de_morgan false b = refl

abbrev AreSomething : List Value → Type 0
AreSomething ks = AllByRecursion (λ (k : Value). is_null k ≡ false) ks

keys_agree : (ks : List Value) → AreSomething ks → are_keys ks ≡ not (is_doubled ks)
keys_agree [] h = refl
keys_agree (k ∷ ks) h =
    (λ i. not (h.0 i) && not (any_same (λ w. is_true_of (equal_of k w)) (λ later. is_one_key later k) (key_turned k) ks i) && keys_agree ks h.1 i)
    ∙ de_morgan (list_any (λ later. is_one_key later k) ks) (is_doubled ks)

-- ---- rows that fit have something for a key

no_null : (a l n : Bool) → a ≡ true → ((a || l) && n) ≡ false → n ≡ false
no_null true l n e h = h
no_null false l n e h = absurd cc

some_true : (a : Bool) → ◌≡◌ {A = Option Bool} (Some a) (Some true) → a ≡ true
some_true a e = ap given e
  where
    given : Option Bool → Bool
    given None = true
    given (Some b) = b

module _ (C : Cat) where
  key_value : (cs : List ColumnRec) (row : List Value) (at : ℕ) → AllZip (FitsColumn C) cs row → option_map not_null_in (slice_get cs at) ≡ Some true → is_null (value_at at row) ≡ false
  key_value [] row at h e = absurd cc
  key_value (c ∷ cs) [] at h e = absurd h
  key_value (c ∷ cs) (v ∷ row) zero h e = no_null c.not_null _ (is_null v) (some_true c.not_null e) h.0.1
  key_value (c ∷ cs) (v ∷ row) (suc at) h e = key_value cs row at h.1 e

  key_values : (t : Table) (at : ℕ) → option_map not_null_in (slice_get t.columns at) ≡ Some true → (rows : List (List Value)) → AllByRecursion (FitsTable C t) rows → AreSomething (map (value_at at) rows)
  key_values t at e [] h = tt
  key_values t at e (row ∷ rows) h = (key_value t.columns row at h.0 e, key_values t at e rows h.1)

  tests_agree : (t : Table) (key : Option ℕ) (rows : List (List Value)) → HasKeyColumn t key → AllByRecursion (FitsTable C t) rows → keys_differ key rows ≡ not (has_double key rows)
  tests_agree t None rows k h = refl
  tests_agree t (Some at) rows k h = keys_agree (map (value_at at) rows) (key_values t at k.not_null rows h)

pub tests_of_keys_agree : KeysAgree
tests_of_keys_agree C t rows k h = tests_agree C t t.key rows k h
