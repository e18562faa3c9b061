-- Credentials and rows that fit a catalogue, and what carries rows from one catalogue to another.
use Rattle.std.proofs.Common.{◌≡◌, refl, sym, ap, subst, ◌∙◌, ℕ, suc, ◌*◌, ◌≤◌, Bool, true, ◌&&◌, ◌||◌, List, [], ◌∷◌, map, length, Option, Some, None}
use Rattle.std.specs.Prelude.{find, option_map, unwrap_or}
use Rattle.std.specs.List.{AllByRecursion, AllZip}
use Rattle.std.specs.Str.{bytes_eq}
use Rattle.std.proofs.lemmas.Slice.Eq.{bytes_eq-Decides}
use Rattle.lb_base.specs.declared.key.Key.TheVariants as keys
use Rattle.lb_base.specs.declared.key.Ty.{Ty}
use Rattle.lb_base.specs.declared.key.Ty.TheVariants as types
use Rattle.lb_base.specs.declared.value.Value.{Value}
use Rattle.lb_base.specs.declared.value.Value.TheVariants as values
use Rattle.lb_label.specs.Label.{IsLabel}
use Rattle.lb_cat.specs.declared.catalog.ColumnRec.{ColumnRec}
use Rattle.lb_cat.specs.declared.catalog.Holding.{Holding}
use Rattle.lb_cat.specs.declared.catalog.LabelRec.{LabelRec}
use Rattle.lb_base.specs.Conditions.{is_null}
use Rattle.lb_rows.specs.KeyValues.{keys_differ}
use Rattle.lb_rows.specs.Tables.{Tables, Version, is_version}
use Rattle.lb_cat.specs.Catalog.{Cat, Table, Policy, table_named, policy_named, label_named, user_named, is_label, is_policy, first_cat, no_user, IsLabelOf}
use Rattle.lb_cat.specs.Credentials.{held_parts, parts_in, cred_label, cred}
use Rattle.lb_alter.specs.ChangeTable.{is_label_type}
use Rattle.lb_alter.specs.Fits.{IsLabelIfHeld, FitsPolicy, FitsIfThere, HasType, FitsColumn, FitsTable, RowsFit, FitsRecord, TablesFit}
use Rattle.lb_alter.specs.Laws.{CredentialsFit, FirstTablesFit, AllTablesFit}
use Rattle.lb_alter.specs.Sound.{IsSound}
use Rattle.lb_alter.specs.Stored.{StoredRules}
use Rattle.lb_alter.proofs.SoundParts.{PolicyIsSound, apart}
use Rattle.lb_alter.proofs.SoundUsers.{all_found, all_follow}
use Rattle.lb_alter.proofs.Untouched.{named_there}

-- ---- credentials

module _ (K : StoredRules) (C : Cat) (s : IsSound K C) (p : Policy) (n : List ℕ) (there : policy_named C n ≡ Some p) where
  its : PolicyIsSound C p
  its = all_found (PolicyIsSound C) (is_policy n) C.policies p (apart K C s).policies there

  held_label : (o : Option LabelRec) → ((l : LabelRec) → o ≡ Some l → IsLabel p.shape l.parts.items) → IsLabelIfHeld p.shape (option_map parts_in o)
  held_label None f = tt
  held_label (Some l) f = f l refl

  held_fits : (o : Option (List ℕ)) → IsLabelIfHeld p.shape (held_parts (Some p) o)
  held_fits None = tt
  held_fits (Some m) = held_label (label_named p m) (λ l e. let h : IsLabel p.shape l.parts.items = all_found (λ (x : LabelRec). IsLabel p.shape x.parts.items) (is_label m) p.labels l its.shape.labels e in h)

  found_too : (h : Holding) → bytes_eq h.policy p.name ≡ true → policy_named C h.policy ≡ Some p
  found_too h e =
      let same : h.policy ≡ n = (bytes_eq-Decides h.policy p.name).0 e ∙ named_there (λ (x : Policy). x.name) n C.policies p there in
      subst (λ (m : List ℕ). policy_named C m ≡ Some p) (sym same) there

  holding_fits : (h : Holding) → FitsPolicy p (cred_label C h)
  holding_fits h e = (
    subst (λ (o : Option Policy). IsLabelIfHeld p.shape (held_parts o h.read)) (sym (found_too h e)) (held_fits h.read),
    subst (λ (o : Option Policy). IsLabelIfHeld p.shape (held_parts o h.write)) (sym (found_too h e)) (held_fits h.write),
  )

  all_fit : (hs : List Holding) → AllByRecursion (FitsPolicy p) (map (cred_label C) hs)
  all_fit [] = tt
  all_fit (h ∷ hs) = (holding_fits h, all_fit hs)

if_there : (K : StoredRules) (C : Cat) → IsSound K C → (user : List ℕ) (groups : List (List ℕ)) (n : List ℕ) → FitsIfThere (cred C user groups) (policy_named C n)
if_there K C s user groups n =
    elim (policy_named C n) as (λ o. policy_named C n ≡ o → FitsIfThere (cred C user groups) o) [
      | None ↦ λ _. tt
      | Some p ↦ λ e. all_fit K C s p n e (unwrap_or (user_named C user) (no_user user)).held
    ] refl

pub credentials_fit : (K : StoredRules) → CredentialsFit K
credentials_fit K C s user groups [] = tt
credentials_fit K C s user groups (keys.Policy n ∷ ks) = (if_there K C s user groups n, credentials_fit K C s user groups ks)
credentials_fit K C s user groups (keys.Table n ∷ ks) = (tt, credentials_fit K C s user groups ks)
credentials_fit K C s user groups (keys.Rows n ∷ ks) = (tt, credentials_fit K C s user groups ks)
credentials_fit K C s user groups (keys.Component n ∷ ks) = (tt, credentials_fit K C s user groups ks)
credentials_fit K C s user groups (keys.User n ∷ ks) = (tt, credentials_fit K C s user groups ks)

-- ---- rows, name by name

-- the table of each name has rows that fit it
abbrev pub EachFits : Cat → Tables → Type 0
EachFits C T = (n : List ℕ) → FitsRecord C (table_named C n) (find (is_version n) T)

pub each_from : (C : Cat) (T : Tables) → AllTablesFit C T → EachFits C T
each_from C T h n = let r : TablesFit (keys.Table n ∷ []) C T = h (keys.Table n ∷ []) in r.0

pub each_to : (C : Cat) (T : Tables) → EachFits C T → AllTablesFit C T
each_to C T h [] = tt
each_to C T h (keys.Table n ∷ ks) = (h n, each_to C T h ks)
each_to C T h (keys.Rows n ∷ ks) = (h n, each_to C T h ks)
each_to C T h (keys.Policy n ∷ ks) = (tt, each_to C T h ks)
each_to C T h (keys.Component n ∷ ks) = (tt, each_to C T h ks)
each_to C T h (keys.User n ∷ ks) = (tt, each_to C T h ks)

pub first_fits : FirstTablesFit
first_fits = each_to first_cat [] (λ n. tt)

-- ---- from one catalogue to another

module _ (C D : Cat) where
  -- labels of the policy stay labels of it
  abbrev pub KeepsLabels : List ℕ → Type 0
  KeepsLabels p = (parts : List ℕ) → IsLabelOf (policy_named C p) parts → IsLabelOf (policy_named D p) parts

  abbrev pub KeepsType : Ty → Type 0
  KeepsType types.Int = Unit {0}
  KeepsType (types.Text width) = Unit {0}
  KeepsType types.Date = Unit {0}
  KeepsType (types.Label p) = KeepsLabels p

  type_moves : (ty : Ty) (v : Value) → KeepsType ty → HasType C ty v → HasType D ty v
  type_moves ty values.Null k h = tt
  type_moves types.Int (values.Int n) k h = h
  type_moves (types.Text width) (values.Int n) k h = absurd h
  type_moves types.Date (values.Int n) k h = absurd h
  type_moves (types.Label p) (values.Int n) k h = absurd h
  type_moves types.Int (values.Text x) k h = absurd h
  type_moves (types.Text width) (values.Text x) k h = h
  type_moves types.Date (values.Text x) k h = absurd h
  type_moves (types.Label p) (values.Text x) k h = absurd h
  type_moves types.Int (values.Date x) k h = absurd h
  type_moves (types.Text width) (values.Date x) k h = absurd h
  type_moves types.Date (values.Date x) k h = h
  type_moves (types.Label p) (values.Date x) k h = absurd h
  type_moves types.Int (values.Label x) k h = absurd h
  type_moves (types.Text width) (values.Label x) k h = absurd h
  type_moves types.Date (values.Label x) k h = absurd h
  type_moves (types.Label p) (values.Label x) k h = k x.items h

  -- a column that takes the same values, and a null where the other took one
  pub record SameColumn (c d : ColumnRec) : Type 0 where
    pub type : d.ty ≡ c.ty
    pub not_null : d.not_null ≡ c.not_null
    pub labels : KeepsType c.ty

  pub value_moves : (c d : ColumnRec) (v : Value) → SameColumn c d → FitsColumn C c v → FitsColumn D d v
  value_moves c d v s h = (
    subst (λ (ty : Ty). HasType D ty v) (sym s.type) (type_moves c.ty v s.labels h.0),
    ap (λ (ty : Ty). (d.not_null || is_label_type ty) && is_null v) s.type ∙ ap (λ (b : Bool). (b || is_label_type c.ty) && is_null v) s.not_null ∙ h.1,
  )

  pub row_moves : (cs ds : List ColumnRec) (row : List Value) → AllZip SameColumn cs ds → AllZip (FitsColumn C) cs row → AllZip (FitsColumn D) ds row
  row_moves [] [] row s h = go row h
    where
      go : (row : List Value) → AllZip (FitsColumn C) [] row → AllZip (FitsColumn D) [] row
      go [] h = tt
      go (v ∷ vs) h = absurd h
  row_moves [] (d ∷ ds) row s h = absurd s
  row_moves (c ∷ cs) [] row s h = absurd s
  row_moves (c ∷ cs) (d ∷ ds) [] s h = absurd h
  row_moves (c ∷ cs) (d ∷ ds) (v ∷ vs) s h = (value_moves c d v s.0 h.0, row_moves cs ds vs s.1 h.1)

  same_count : (cs ds : List ColumnRec) → AllZip SameColumn cs ds → length ds ≡ length cs
  same_count [] [] s = refl
  same_count [] (d ∷ ds) s = absurd s
  same_count (c ∷ cs) [] s = absurd s
  same_count (c ∷ cs) (d ∷ ds) s = ap (λ (k : ℕ). suc k) (same_count cs ds s.1)

  -- a table with the same columns, to rows
  pub record SameShape (t u : Table) : Type 0 where
    pub columns : AllZip SameColumn t.columns u.columns
    pub key : u.key ≡ t.key

  pub rows_move : (t u : Table) (rows : List (List Value)) → SameShape t u → RowsFit C t rows → RowsFit D u rows
  rows_move t u rows s h = record {
    each = all_follow (FitsTable C t) (FitsTable D u) (λ row i. row_moves t.columns u.columns row s.columns i) rows h.each;
    keys = ap (λ (k : Option ℕ). keys_differ k rows) s.key ∙ h.keys;
    cells = subst (λ (k : ℕ). length rows * k ≤ 131072) (sym (same_count t.columns u.columns s.columns)) h.cells;
  }

  abbrev pub Moves : Option Table → Option Table → Type 0
  Moves o None = Unit {0}
  Moves None (Some u) = ⊥
  Moves (Some t) (Some u) = SameShape t u

  pub record_moves : (o p : Option Table) (v : Option Version) → Moves o p → FitsRecord C o v → FitsRecord D p v
  record_moves o None v m h = tt
  record_moves None (Some u) v m h = absurd m
  record_moves (Some t) (Some u) None m h = absurd h
  record_moves (Some t) (Some u) (Some v) m h = rows_move t u v.rows m h

  pub all_move : (T : Tables) → ((n : List ℕ) → Moves (table_named C n) (table_named D n)) → EachFits C T → EachFits D T
  all_move T m h n = record_moves (table_named C n) (table_named D n) (find (is_version n) T) (m n) (h n)

  -- ---- columns as they were

  pub keeps_all : ((p : List ℕ) → KeepsLabels p) → (ty : Ty) → KeepsType ty
  keeps_all f types.Int = tt
  keeps_all f (types.Text width) = tt
  keeps_all f types.Date = tt
  keeps_all f (types.Label p) = f p

  pub itself_zipped : (cs : List ColumnRec) → AllByRecursion (λ (c : ColumnRec). KeepsType c.ty) cs → AllZip SameColumn cs cs
  itself_zipped [] h = tt
  itself_zipped (c ∷ cs) h = (record { type = refl; not_null = refl; labels = h.0 }, itself_zipped cs h.1)

  pub keeps_each : ((p : List ℕ) → KeepsLabels p) → (cs : List ColumnRec) → AllByRecursion (λ (c : ColumnRec). KeepsType c.ty) cs
  keeps_each f [] = tt
  keeps_each f (c ∷ cs) = (keeps_all f c.ty, keeps_each f cs)

  pub same_move : ((p : List ℕ) → KeepsLabels p) → (o : Option Table) → Moves o o
  same_move f None = tt
  same_move f (Some t) = record { columns = itself_zipped t.columns (keeps_each f t.columns); key = refl }
