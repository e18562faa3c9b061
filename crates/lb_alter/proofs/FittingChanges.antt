-- What a change leaves of rows that fit: where tables, columns and labels stay, and where a table is made, dropped or widened.
use Rattle.std.proofs.Common.{◌≡◌, refl, sym, ap, subst, ◌∙◌, ℕ, zero, suc, ◌+◌, ◌*◌, ◌≤◌, Bool, true, false, not, ◌&&◌, ◌||◌, List, [], ◌∷◌, ◌++◌, map, length, Option, Some, None, Ok, Err, is_some, arith}
use Rattle.std.specs.Prelude.{find, nat_lt}
use Rattle.std.specs.List.{AllByRecursion, AllZip}
use Rattle.std.specs.Str.{bytes_eq}
use Rattle.std.proofs.lemmas.Slice.Eq.{bytes_eq-Decides}
use Rattle.lb_base.specs.declared.key.Key.{Key}
use Rattle.lb_base.specs.declared.key.Key.TheVariants as keys
use Rattle.lb_base.specs.declared.key.Ty.{Ty}
use Rattle.lb_base.specs.declared.key.Ty.TheVariants as types
use Rattle.lb_base.specs.declared.value.Value.{Value}
use Rattle.lb_base.specs.declared.value.Value.TheVariants as values
use Rattle.lb_stmt.specs.declared.change.Element.{Element}
use Rattle.lb_stmt.specs.declared.change.PlainType.{PlainType}
use Rattle.lb_cat.specs.declared.catalog.ColumnRec.{ColumnRec}
use Rattle.lb_cat.specs.declared.catalog.LabelRec.{LabelRec}
use Rattle.lb_cat.specs.declared.refusal.Refusal.{Refusal}
use Rattle.lb_cat.specs.declared.refusal.Refusal.TheVariants as refusals
use Rattle.lb_cat.specs.declared.refusal.NeededPrivilege.TheVariants as needed
use Rattle.lb_rows.specs.KeyValues.{are_keys, keys_differ, value_at}
use Rattle.lb_rows.specs.Lists.{put, without}
use Rattle.lb_rows.specs.Tables.{Tables, Version, is_version, put_version, rows_in, rows_of}
use Rattle.lb_cat.specs.Catalog.{Cat, Table, Policy, User, table_named, policy_named, is_table, put_table, put_policy, drop_table, drop_policy, IsLabelOf}
use Rattle.lb_cat.specs.Privileges.{without_grant}
use Rattle.lb_cat.specs.Holdings.{without_holding, is_same_name}
use Rattle.lb_alter.specs.AlterTable.{with_null, plain_column, secure, change_column}
use Rattle.lb_alter.specs.ChangeGrant.{grants, revokes, taken_from, user_or_new}
use Rattle.lb_alter.specs.ChangePolicy.{has_policy}
use Rattle.lb_alter.specs.ChangeTable.{new_table}
use Rattle.lb_alter.specs.Fits.{FitsColumn, FitsTable, RowsFit, FitsRecord}
use Rattle.lb_alter.specs.Labelled.{ColumnBelongs, LabelsBelong, IsOfPolicy}
use Rattle.lb_alter.specs.Named.{AreDifferent}
use Rattle.lb_alter.specs.Refusing.{Changed, ◌>>◌, when, found, owner, done, alters, alters_policy}
use Rattle.lb_cat.specs.OrRefused.{OrRefused, ◌>>=◌}
use Rattle.lb_alter.specs.Stored.{calls_policy}
use Rattle.lb_alter.proofs.Fitting.{EachFits, KeepsLabels, KeepsType, SameColumn, SameShape, Moves, record_moves, value_moves, all_move, keeps_all, keeps_each, itself_zipped, same_move}
use Rattle.lb_alter.proofs.SoundAlters.{found_by_name}
use Rattle.lb_alter.proofs.SoundColumns.{same_type, same_null, length_more, plain_is}
use Rattle.lb_alter.proofs.SoundKinds.{not_more}
use Rattle.lb_alter.proofs.SoundTables.{put_case, found_put, found_without, same_put}
use Rattle.lb_alter.proofs.SoundUsers.{all_found}
use Rattle.lb_alter.proofs.Untouched.{or_left, turned, put_other, without_other}

-- ---- blocks

-- after an accepted statement the rows fit
pub record LeavesFit (m : OrRefused Changed) : Type 0 where
  pub fits : (d : Changed) → m ≡ Ok d → EachFits d.cat d.tables

pub test_fits : (o : Option Refusal) (rest : OrRefused Changed) → (o ≡ None → LeavesFit rest) → LeavesFit (o >> rest)
test_fits None rest h = h refl
test_fits (Some r) rest h = record { fits = λ d e. absurd cc }

pub done_fits : (C : Cat) (T : Tables) (touched : List Key) → EachFits C T → LeavesFit (done C T touched)
done_fits C T touched s = record { fits = λ d e. subst Of e s }
  where
    Of : OrRefused Changed → Type 0
    Of (Ok d) = EachFits d.cat d.tables
    Of (Err r) = Unit {0}

pub found_fits : {A : Type 0} (n : List ℕ) (o : Option A) (f : A → OrRefused Changed) → ((x : A) → o ≡ Some x → LeavesFit (f x)) → LeavesFit (found n o >>= f)
found_fits n None f h = record { fits = λ d e. absurd cc }
found_fits n (Some x) f h = h x refl

pub made_fits : {A : Type 0} (o : OrRefused A) (f : A → OrRefused Changed) → ((x : A) → LeavesFit (f x)) → LeavesFit (o >>= f)
made_fits (Err r) f h = record { fits = λ d e. absurd cc }
made_fits (Ok x) f h = h x

owns_fits : (user n : List ℕ) (o : Option Table) (f : Table → OrRefused Changed) → ((t : Table) → o ≡ Some t → LeavesFit (f t))
    → LeavesFit ((found n o >>= (λ t. when (not (bytes_eq t.owner user)) (refusals.Privilege needed.Control n) >> Ok t)) >>= f)
owns_fits user n None f h = record { fits = λ d e. absurd cc }
owns_fits user n (Some t) f h =
    elim (bytes_eq t.owner user) as (λ b. LeavesFit ((when (not b) (refusals.Privilege needed.Control n) >> Ok t) >>= f)) [
      | true ↦ h t refl
      | false ↦ record { fits = λ d e. absurd cc }
    ]

pub owner_fits : (C : Cat) (user n : List ℕ) (f : Table → OrRefused Changed) → ((t : Table) → table_named C n ≡ Some t → LeavesFit (f t)) → LeavesFit (owner C user n >>= f)
owner_fits C user n f h = owns_fits user n (table_named C n) f h

-- ---- a row with a null more

value_more : (at : ℕ) (row : List Value) → value_at at (with_null row) ≡ value_at at row
value_more zero [] = refl
value_more (suc at) [] = refl
value_more zero (v ∷ vs) = refl
value_more (suc at) (v ∷ vs) = value_more at vs

values_more : (at : ℕ) (rows : List (List Value)) → map (value_at at) (map with_null rows) ≡ map (value_at at) rows
values_more at [] = refl
values_more at (row ∷ rows) = ap (λ (v : Value). v ∷ map (value_at at) (map with_null rows)) (value_more at row) ∙ ap (λ (vs : List Value). value_at at row ∷ vs) (values_more at rows)

keys_more : (key : Option ℕ) (rows : List (List Value)) → keys_differ key (map with_null rows) ≡ keys_differ key rows
keys_more None rows = refl
keys_more (Some at) rows = ap are_keys (values_more at rows)

count_same : (rows : List (List Value)) → length (map with_null rows) ≡ length rows
count_same [] = refl
count_same (row ∷ rows) = ap (λ (k : ℕ). suc k) (count_same rows)

one_plus : (k : ℕ) → k + 1 ≡ suc k
one_plus k = omega arith

no_keys : (key : Option ℕ) → keys_differ key [] ≡ true
no_keys None = refl
no_keys (Some at) = refl

nothing : (k : ℕ) → 0 * k ≤ 131072
nothing k = omega arith

module _ (C D : Cat) (n : List ℕ) (ty : PlainType) (keeps : (p : List ℕ) → KeepsLabels C D p) where
  null_fits : FitsColumn D (plain_column n ty) values.Null
  null_fits = (tt, ap (λ (b : Bool). (false || b) && true) (plain_is ty))

  row_more : (cs : List ColumnRec) (row : List Value) → AllZip (FitsColumn C) cs row → AllZip (FitsColumn D) (cs ++ plain_column n ty ∷ []) (row ++ values.Null ∷ [])
  row_more [] [] h = (null_fits, tt)
  row_more [] (v ∷ vs) h = absurd h
  row_more (c ∷ cs) [] h = absurd h
  row_more (c ∷ cs) (v ∷ vs) h = (value_moves C D c c v (record { type = refl; not_null = refl; labels = keeps_all C D keeps c.ty }) h.0, row_more cs vs h.1)

  rows_more : (t : Table) (rows : List (List Value)) → nat_lt 131072 (length rows * (length t.columns + 1)) ≡ false → RowsFit C t rows → RowsFit D (record t { columns = t.columns ++ plain_column n ty ∷ [] }) (map with_null rows)
  rows_more t rows room h = record {
    each = all_more rows h.each;
    keys = keys_more t.key rows ∙ h.keys;
    cells = subst (λ (k : ℕ). k * length (t.columns ++ plain_column n ty ∷ []) ≤ 131072) (sym (count_same rows))
        (subst (λ (k : ℕ). length rows * k ≤ 131072) (one_plus (length t.columns) ∙ sym (length_more n ty t.columns)) (not_more 131072 (length rows * (length t.columns + 1)) room));
  }
    where
      all_more : (xs : List (List Value)) → AllByRecursion (FitsTable C t) xs → AllByRecursion (FitsTable D (record t { columns = t.columns ++ plain_column n ty ∷ [] })) (map with_null xs)
      all_more [] i = tt
      all_more (row ∷ xs) i = (row_more t.columns row i.0, all_more xs i.1)

-- ---- what a change leaves

module _ (C : Cat) (T : Tables) (fits : EachFits C T) where
  -- the tables are the same, and the labels of each policy stay
  pub same_tables : (D : Cat) → ((n : List ℕ) → table_named D n ≡ table_named C n) → ((p : List ℕ) → KeepsLabels C D p) → EachFits D T
  same_tables D same keeps = all_move C D T (λ n. subst (Moves C D (table_named C n)) (sym (same n)) (same_move C D keeps (table_named C n))) fits

  user_put : (u : User) → EachFits (record C { users = put (λ x. bytes_eq x.name u.name) u C.users }) T
  user_put u = same_tables _ (λ n. refl) (λ p parts z. z)

  pub grants_fits : (n : List ℕ) (f : User → User) → LeavesFit (grants C T n f)
  grants_fits n f = done_fits _ T (keys.User n ∷ []) (user_put (f (user_or_new C n)))

  pub revokes_fits : (n : List ℕ) (f : User → User) → LeavesFit (revokes C T n f)
  revokes_fits n f =
      elim (find (λ x. bytes_eq x.name n) C.users) as (λ o. LeavesFit (done (taken_from C o f) T (keys.User n ∷ []))) [
        | None ↦ done_fits C T (keys.User n ∷ []) fits
        | Some u ↦ done_fits _ T (keys.User n ∷ []) (user_put (f u))
      ]

  -- a table's record is replaced by one with the same columns, to rows
  altered : (t u : Table) → table_named C t.name ≡ Some t → u.name ≡ t.name → SameShape C (put_table u C) t u → EachFits (put_table u C) T
  altered t u there same shape =
      all_move C (put_table u C) T
      (λ n. put_case (λ (x : Table). x.name) (Moves C (put_table u C) (table_named C n)) u C.tables n
      (λ e. subst (λ (o : Option Table). Moves C (put_table u C) o (Some u)) (sym (subst (λ (m : List ℕ). table_named C m ≡ Some t) (sym same ∙ e) there)) shape)
      (same_move C (put_table u C) (λ p parts z. z) (table_named C n))) fits

  pub alters_fits : (t u : Table) → table_named C t.name ≡ Some t → u.name ≡ t.name → SameShape C (put_table u C) t u → LeavesFit (alters C T u)
  alters_fits t u there same shape = done_fits (put_table u C) T (keys.Table u.name ∷ []) (altered t u there same shape)

  as_they_were : (u t : Table) → AllZip (SameColumn C (put_table u C)) t.columns t.columns
  as_they_were u t = itself_zipped C (put_table u C) t.columns (keeps_each C (put_table u C) (λ p parts z. z) t.columns)

  -- other controls, permissions, masks or privileges
  pub refits_fits : (t : Table) → table_named C t.name ≡ Some t → (u : Table) → u.name ≡ t.name → u.columns ≡ t.columns → u.key ≡ t.key → LeavesFit (alters C T u)
  refits_fits t there u same columns key =
      alters_fits t u there same (record { columns = subst (AllZip (SameColumn C (put_table u C)) t.columns) (sym columns) (as_they_were u t); key = key })

  pub named_too : AreDifferent (map (λ (x : Table). x.name) C.tables) → (test : Table → Bool) (t : Table) → find test C.tables ≡ Some t → table_named C t.name ≡ Some t
  named_too one test t e = found_by_name (λ (x : Table). x.name) test C.tables t one e

  -- a column otherwise secured
  pub secured_fits : (t : Table) → table_named C t.name ≡ Some t → (o : Option (List ℕ)) (n : List ℕ) → LeavesFit (alters C T (record t { columns = change_column (secure o) n t.columns }))
  secured_fits t there o n =
      let u : Table = record t { columns = change_column (secure o) n t.columns } in
      alters_fits t u there refl (record { columns = zipped t.columns; key = refl })
    where
      zipped : (cs : List ColumnRec) → AllZip (SameColumn C (put_table (record t { columns = change_column (secure o) n t.columns }) C)) cs (change_column (secure o) n cs)
      zipped [] = tt
      zipped (c ∷ cs) = (record { type = same_type o n c; not_null = same_null o n c; labels = keeps_all C (put_table (record t { columns = change_column (secure o) n t.columns }) C) (λ p parts z. z) c.ty }, zipped cs)

  -- other labels of a policy
  pub relabels_fits : (p : Policy) → policy_named C p.name ≡ Some p → (ls : List LabelRec) → LeavesFit (alters_policy C T (record p { labels = ls }))
  relabels_fits p there ls =
      done_fits (put_policy (record p { labels = ls }) C) T (keys.Policy p.name ∷ [])
      (same_tables (put_policy (record p { labels = ls }) C) (λ n. refl)
      (λ m parts z. put_case (λ (x : Policy). x.name) (λ o. IsLabelOf o parts) (record p { labels = ls }) C.policies m
      (λ e. subst (λ (o : Option Policy). IsLabelOf o parts) (subst (λ (k : List ℕ). policy_named C k ≡ Some p) e there) z) z))

  -- a policy of a new name
  label_there : (o : Option Policy) (parts : List ℕ) → IsLabelOf o parts → is_some o ≡ true
  label_there None parts h = absurd h
  label_there (Some p) parts h = refl

  pub policy_fits : (p : Policy) → is_some (policy_named C p.name) ≡ false → EachFits (put_policy p C) T
  policy_fits p new =
      same_tables (put_policy p C) (λ n. refl)
      (λ m parts z. subst (λ (o : Option Policy). IsLabelOf o parts) (sym (same_put (λ (x : Policy). x.name) p C.policies m new (label_there (policy_named C m) parts z))) z)

  -- a policy that no table has is dropped
  module _ (n : List ℕ) where
    abbrev pub WithoutPolicy : Cat
    WithoutPolicy = record (drop_policy n C) { users = map (without_holding n) C.users }

    keeps_other : (p : List ℕ) → bytes_eq p n ≡ false → KeepsLabels C WithoutPolicy p
    keeps_other p off parts z = subst (λ (o : Option Policy). IsLabelOf o parts) (sym (without_other (λ (x : Policy). x.name) n p C.policies (turned p n off))) z

    of_policy : (o : Option (List ℕ)) (ty : Ty) → is_same_name n o ≡ false → IsOfPolicy o ty → KeepsType C WithoutPolicy ty
    of_policy o types.Int off h = tt
    of_policy o (types.Text width) off h = tt
    of_policy o types.Date off h = tt
    of_policy o (types.Label p) off h = keeps_other p (subst (λ (x : Option (List ℕ)). is_same_name n x ≡ false) h off)

    all_of_policy : (t : Table) (cs : List ColumnRec) → is_same_name n t.policy ≡ false → AllByRecursion (ColumnBelongs C t) cs → AllByRecursion (λ (c : ColumnRec). KeepsType C WithoutPolicy c.ty) cs
    all_of_policy t [] off h = tt
    all_of_policy t (c ∷ cs) off h = (of_policy t.policy c.ty off h.0.label, all_of_policy t cs off h.1)

    pub without_policy_fits : AllByRecursion (LabelsBelong C) C.tables → AllByRecursion (λ (t : Table). (has_policy n t || calls_policy n t) ≡ false) C.tables → EachFits WithoutPolicy T
    without_policy_fits belong free = all_move C WithoutPolicy T (λ m.
        elim (table_named C m) as (λ o. table_named C m ≡ o → Moves C WithoutPolicy o o) [
          | None ↦ λ _. tt
          | Some t ↦ λ e.
              let own : (has_policy n t || calls_policy n t) ≡ false = all_found (λ (x : Table). (has_policy n x || calls_policy n x) ≡ false) (is_table m) C.tables t free e in
              let b : LabelsBelong C t = all_found (LabelsBelong C) (is_table m) C.tables t belong e in
              record { columns = itself_zipped C WithoutPolicy t.columns (all_of_policy t t.columns (or_left _ _ own) b); key = refl }
        ] refl) fits

  -- ---- tables made, dropped and widened

  -- the record and the rows of one table are put
  module _ (u : Table) (v : Version) (named : u.name ≡ v.name) where
    abbrev pub PutTable : Cat
    PutTable = put_table u C

    abbrev pub PutRows : Tables
    PutRows = put_version v T

    put_both : RowsFit PutTable u v.rows → EachFits PutTable PutRows
    put_both h m =
        elim (bytes_eq v.name m) as (λ b. bytes_eq v.name m ≡ b → FitsRecord PutTable (table_named PutTable m) (find (is_version m) PutRows)) [
          | true ↦ λ e.
              let there : table_named PutTable v.name ≡ Some u = subst (λ (k : List ℕ). table_named PutTable k ≡ Some u) named (found_put (λ (x : Table). x.name) u C.tables) in
              subst (λ (k : List ℕ). FitsRecord PutTable (table_named PutTable k) (find (is_version k) PutRows)) ((bytes_eq-Decides v.name m).0 e)
              (subst (λ (o : Option Table). FitsRecord PutTable o (find (is_version v.name) PutRows)) (sym there)
              (subst (FitsRecord PutTable (Some u)) (sym (found_put (λ (x : Version). x.name) v T)) h))
          | false ↦ λ e.
              let off : bytes_eq u.name m ≡ false = subst (λ (k : List ℕ). bytes_eq k m ≡ false) (sym named) e in
              subst (λ (o : Option Table). FitsRecord PutTable o (find (is_version m) PutRows)) (sym (put_other (λ (x : Table). x.name) u m C.tables off))
              (subst (FitsRecord PutTable (table_named C m)) (sym (put_other (λ (x : Version). x.name) v m T e))
              (record_moves C PutTable (table_named C m) (table_named C m) (find (is_version m) T) (same_move C PutTable (λ p parts z. z) (table_named C m)) (fits m)))
        ] refl

  pub created_fits : (user n : List ℕ) (es : List Element) (policy : Option (List ℕ)) → EachFits (put_table (new_table user n es policy) C) (put_version (record { name = n; rows = [] }) T)
  created_fits user n es policy =
      put_both (new_table user n es policy) (record { name = n; rows = [] }) refl
      (record { each = tt; keys = no_keys (new_table user n es policy).key; cells = nothing (length (new_table user n es policy).columns) })

  -- the rows of a table that is there
  rows_there : (n : List ℕ) (t : Table) → table_named C n ≡ Some t → RowsFit C t (rows_of n T)
  rows_there n t e = its_rows (find (is_version n) T) (subst (λ (o : Option Table). FitsRecord C o (find (is_version n) T)) e (fits n))
    where
      its_rows : (o : Option Version) → FitsRecord C (Some t) o → RowsFit C t (rows_in o)
      its_rows None h = absurd h
      its_rows (Some v) h = h

  pub widened_fits : (n column : List ℕ) (ty : PlainType) (t : Table) → table_named C n ≡ Some t → nat_lt 131072 (length (rows_of n T) * (length t.columns + 1)) ≡ false
      → EachFits (put_table (record t { columns = t.columns ++ plain_column column ty ∷ [] }) C) (put_version (record { name = t.name; rows = map with_null (rows_of n T) }) T)
  widened_fits n column ty t e room =
      let u : Table = record t { columns = t.columns ++ plain_column column ty ∷ [] } in
      put_both u (record { name = t.name; rows = map with_null (rows_of n T) }) refl
      (rows_more C (put_table u C) column ty (λ p parts z. z) t (rows_of n T) room (rows_there n t e))

  -- a table is dropped with its rows
  module _ (n : List ℕ) where
    abbrev pub WithoutTable : Cat
    WithoutTable = record (drop_table n C) { users = map (without_grant n) C.users }

    pub without_table_fits : EachFits WithoutTable (without (is_version n) T)
    without_table_fits m =
        elim (bytes_eq n m) as (λ b. bytes_eq n m ≡ b → FitsRecord WithoutTable (table_named WithoutTable m) (find (is_version m) (without (is_version n) T))) [
          | true ↦ λ e.
              subst (λ (k : List ℕ). FitsRecord WithoutTable (table_named WithoutTable k) (find (is_version k) (without (is_version n) T))) ((bytes_eq-Decides n m).0 e)
              (subst (λ (o : Option Table). FitsRecord WithoutTable o (find (is_version n) (without (is_version n) T))) (sym (found_without (λ (x : Table). x.name) n C.tables)) tt)
          | false ↦ λ e.
              subst (λ (o : Option Table). FitsRecord WithoutTable o (find (is_version m) (without (is_version n) T))) (sym (without_other (λ (x : Table). x.name) n m C.tables e))
              (subst (FitsRecord WithoutTable (table_named C m)) (sym (without_other (λ (x : Version). x.name) n m T e))
              (record_moves C WithoutTable (table_named C m) (table_named C m) (find (is_version m) T) (same_move C WithoutTable (λ p parts z. z) (table_named C m)) (fits m)))
        ] refl
