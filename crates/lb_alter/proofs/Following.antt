-- What fits one catalogue on the dependencies of a statement fits each that has the same records under them.
use Rattle.std.proofs.Common.{◌≡◌, refl, subst, ℕ, List, [], ◌∷◌, ◌++◌, map, Option, Some, None}
use Rattle.std.specs.Prelude.{find, filter_map}
use Rattle.std.specs.List.{AllByRecursion, cons_option}
use Rattle.lb_base.specs.declared.key.Key.{Key}
use Rattle.lb_base.specs.declared.key.Key.TheVariants as keys
use Rattle.lb_base.specs.declared.key.Ty.{Ty}
use Rattle.lb_base.specs.declared.key.Ty.TheVariants as types
use Rattle.lb_cat.specs.declared.catalog.ColumnRec.{ColumnRec}
use Rattle.lb_cat.specs.declared.cred.Cred.{Cred}
use Rattle.lb_rows.specs.Tables.{Tables, is_version}
use Rattle.lb_cat.specs.Catalog.{Cat, Table, Policy, table_named, policy_named, is_table, IsLabelOf}
use Rattle.lb_names.specs.Mentions.{Mentions, in_stmt}
use Rattle.lb_alter.specs.Stored.{StoredRules}
use Rattle.lb_alter.specs.Deps.{deps, deps_of, tables_for, policies_for, components_for, policy_name_of}
use Rattle.lb_alter.specs.Fits.{FitsIfThere, CredFitsKey, CredFits, FitsRecord, TablesFitKey, TablesFit}
use Rattle.lb_alter.specs.Frame.{SameOn}
use Rattle.lb_alter.specs.Labelled.{ColumnBelongs, LabelsBelong, IsOfPolicy}
use Rattle.lb_alter.specs.Named.{IfGiven}
use Rattle.lb_alter.specs.Sound.{IsSound}
use Rattle.lb_alter.specs.Laws.{FitsFollow}
use Rattle.lb_alter.proofs.Fitting.{KeepsType, SameShape, itself_zipped, record_moves}
use Rattle.lb_alter.proofs.SoundUsers.{all_append, all_found, all_mapped_to, once_all}
use Rattle.lb_alter.proofs.Steady.{all_once, all_front, all_after, all_mapped, tables_same, policies_same, deps_stay}

-- what holds of each name that a list gives
module _ (P : List ℕ → Type 0) (f : List ℕ → Option (List ℕ)) where
  each_given : (xs : List (List ℕ)) → AllByRecursion P (filter_map f xs) → AllByRecursion (λ (x : List ℕ). IfGiven P (f x)) xs
  each_given [] h = tt
  each_given (x ∷ xs) h = (first (f x) h, each_given xs (rest (f x) h))
    where
      first : (o : Option (List ℕ)) → AllByRecursion P (cons_option o (filter_map f xs)) → IfGiven P o
      first None i = tt
      first (Some y) i = i.0

      rest : (o : Option (List ℕ)) → AllByRecursion P (cons_option o (filter_map f xs)) → AllByRecursion P (filter_map f xs)
      rest None i = i
      rest (Some y) i = i.1

module _ (K : StoredRules) (C D : Cat) (s : IsSound K C) (T : Tables) (ms : Mentions) (same : SameOn (deps_of C ms) C D) where
  abbrev SamePolicy : List ℕ → Type 0
  SamePolicy n = policy_named D n ≡ policy_named C n

  keeps_type : (o : Option (List ℕ)) (ty : Ty) → IfGiven SamePolicy o → IsOfPolicy o ty → KeepsType D C ty
  keeps_type o types.Int g b = tt
  keeps_type o (types.Text width) g b = tt
  keeps_type o types.Date g b = tt
  keeps_type o (types.Label p) g b =
      let e : SamePolicy p = subst (IfGiven SamePolicy) b g in
      λ parts z. subst (λ (x : Option Policy). IsLabelOf x parts) e z

  keeps_types : (t : Table) (cs : List ColumnRec) → IfGiven SamePolicy t.policy → AllByRecursion (ColumnBelongs C t) cs → AllByRecursion (λ (c : ColumnRec). KeepsType D C c.ty) cs
  keeps_types t [] g b = tt
  keeps_types t (c ∷ cs) g b = (keeps_type t.policy c.ty g b.0.label, keeps_types t cs g b.1)

  record_fits : (n : List ℕ) → table_named D n ≡ table_named C n → IfGiven SamePolicy (policy_name_of (table_named C n)) → FitsRecord D (table_named D n) (find (is_version n) T) → FitsRecord C (table_named C n) (find (is_version n) T)
  record_fits n e g h =
      elim (table_named C n) as (λ o. table_named C n ≡ o → IfGiven SamePolicy (policy_name_of o) → FitsRecord D o (find (is_version n) T) → FitsRecord C o (find (is_version n) T)) [
        | None ↦ λ _ _ _. tt
        | Some t ↦ λ i j k.
            let b : LabelsBelong C t = all_found (LabelsBelong C) (is_table n) C.tables t s.belonging i in
            let shape : SameShape D C t t = record { columns = itself_zipped D C t.columns (keeps_types t t.columns j b); key = refl } in
            record_moves D C (Some t) (Some t) (find (is_version n) T) shape k
      ] refl g (subst (λ (o : Option Table). FitsRecord D o (find (is_version n) T)) e h)

  abbrev table_keys : List Key
  table_keys = map (λ n. keys.Table n) (tables_for C ms)

  abbrev policy_keys : List Key
  policy_keys = map (λ n. keys.Policy n) (policies_for C ms)

  abbrev component_keys : List Key
  component_keys = map (λ n. keys.Component n) (components_for C ms)

  all_records : (ns : List (List ℕ)) → AllByRecursion (λ (n : List ℕ). table_named D n ≡ table_named C n) ns → AllByRecursion (λ (n : List ℕ). IfGiven SamePolicy (policy_name_of (table_named C n))) ns
      → AllByRecursion (λ (n : List ℕ). FitsRecord D (table_named D n) (find (is_version n) T)) ns → AllByRecursion (TablesFitKey C T) (map (λ n. keys.Table n) ns)
  all_records [] e g h = tt
  all_records (n ∷ ns) e g h = (record_fits n e.0 g.0 h.0, all_records ns e.1 g.1 h.1)

  pub tables_follow : TablesFit (deps_of C ms) D T → TablesFit (deps_of C ms) C T
  tables_follow h =
      let all : AllByRecursion (TablesFitKey D T) (table_keys ++ (policy_keys ++ component_keys)) = all_once (TablesFitKey D T) (table_keys ++ (policy_keys ++ component_keys)) h in
      once_all (TablesFitKey C T) (table_keys ++ (policy_keys ++ component_keys))
      (all_append (TablesFitKey C T) table_keys (policy_keys ++ component_keys)
      (all_records (tables_for C ms) (tables_same C D ms same)
      (each_given SamePolicy (λ n. policy_name_of (table_named C n)) (tables_for C ms) (all_front SamePolicy (filter_map (λ n. policy_name_of (table_named C n)) (tables_for C ms)) _ (policies_same C D ms same)))
      (all_mapped (TablesFitKey D T) (λ n. keys.Table n) (tables_for C ms) (all_front (TablesFitKey D T) table_keys _ all)))
      (all_append (TablesFitKey C T) policy_keys component_keys (all_mapped_to (TablesFitKey C T) (λ n. keys.Policy n) (λ n. tt) (policies_for C ms)) (all_mapped_to (TablesFitKey C T) (λ n. keys.Component n) (λ n. tt) (components_for C ms))))

module _ (C D : Cat) (c : Cred) (ms : Mentions) (same : SameOn (deps_of C ms) C D) where
  all_policies : (ns : List (List ℕ)) → AllByRecursion (λ (n : List ℕ). policy_named D n ≡ policy_named C n) ns → AllByRecursion (λ (n : List ℕ). FitsIfThere c (policy_named D n)) ns → AllByRecursion (CredFitsKey C c) (map (λ n. keys.Policy n) ns)
  all_policies [] e h = tt
  all_policies (n ∷ ns) e h = (subst (FitsIfThere c) e.0 h.0, all_policies ns e.1 h.1)

  pub credentials_follow : CredFits (deps_of C ms) D c → CredFits (deps_of C ms) C c
  credentials_follow h =
      let ts : List Key = map (λ n. keys.Table n) (tables_for C ms) in
      let ps : List Key = map (λ n. keys.Policy n) (policies_for C ms) in
      let cs : List Key = map (λ n. keys.Component n) (components_for C ms) in
      let all : AllByRecursion (CredFitsKey D c) (ts ++ (ps ++ cs)) = all_once (CredFitsKey D c) (ts ++ (ps ++ cs)) h in
      once_all (CredFitsKey C c) (ts ++ (ps ++ cs))
      (all_append (CredFitsKey C c) ts (ps ++ cs) (all_mapped_to (CredFitsKey C c) (λ n. keys.Table n) (λ n. tt) (tables_for C ms))
      (all_append (CredFitsKey C c) ps cs
      (all_policies (policies_for C ms) (policies_same C D ms same) (all_mapped (CredFitsKey D c) (λ n. keys.Policy n) (policies_for C ms) (all_front (CredFitsKey D c) ps cs (all_after (CredFitsKey D c) ts (ps ++ cs) all))))
      (all_mapped_to (CredFitsKey C c) (λ n. keys.Component n) (λ n. tt) (components_for C ms))))

pub fits_follow : (K : StoredRules) → FitsFollow K
fits_follow K C D s sound same =
    let e : deps D s ≡ deps C s = deps_stay C D s same in
    record {
      rows = λ T h. tables_follow K C D sound T (in_stmt s) same (subst (λ (ks : List Key). TablesFit ks D T) e h);
      credentials = λ c h. credentials_follow C D c (in_stmt s) same (subst (λ (ks : List Key). CredFits ks D c) e h);
    }
