-- What holds of all that a statement depends on in a sound catalogue holds of all that it mentions, and that its tables mention.
use Rattle.std.proofs.Common.{◌≡◌, refl, subst, ℕ, List, [], ◌∷◌, ◌++◌, map, Option, Some, None}
use Rattle.std.specs.Prelude.{filter, filter_map}
use Rattle.std.specs.List.{AllByRecursion, cons_option, flat_map}
use Rattle.lb_base.specs.declared.key.Ty.{Ty}
use Rattle.lb_base.specs.declared.key.Ty.TheVariants as types
use Rattle.lb_cat.specs.declared.catalog.ColumnRec.{ColumnRec}
use Rattle.lb_cat.specs.declared.catalog.MaskRec.{MaskRec}
use Rattle.lb_cat.specs.declared.catalog.PermissionRec.{PermissionRec}
use Rattle.lb_cat.specs.Catalog.{Cat, Table, is_table, table_named, policy_named}
use Rattle.lb_names.specs.Mentions.{Mention, Mentions, table, policy, label, tables_in, policies_in, in_cond, in_expr}
use Rattle.lb_mean.specs.Frame.{Agrees}
use Rattle.lb_mean.specs.Laws.{mention_of, mentioned_by, mentioned_by_columns, mentioned_by_permissions, mentioned_by_masks}
use Rattle.lb_mean.specs.Visible.{policy_of_type}
use Rattle.lb_mean.proofs.Agreeing.{first, second, both}
use Rattle.lb_alter.specs.Deps.{deps_of, in_table, in_tables, is_key_name, policy_name_of, tables_for}
use Rattle.lb_alter.specs.Frame.{SameOn}
use Rattle.lb_alter.specs.Labelled.{ColumnBelongs, IsOfPolicy, LabelsBelong}
use Rattle.lb_alter.specs.Named.{IfGiven}
use Rattle.lb_alter.specs.Sound.{IsSound}
use Rattle.lb_alter.specs.Stored.{Stored, mentioned_in, mentions_of, stored_mask, stored_permission}
use Rattle.lb_alter.proofs.SoundUsers.{all_found}
use Rattle.lb_alter.proofs.Steady.{all_after, all_front, policies_same}
use Rattle.lb_alter.specs.Naming.{stored_rules}
use Rattle.lb_journal.proofs.Agreeing.{policies_all}

-- what holds of each name that a list gives
module _ (P : List ℕ → Type 0) (f : List ℕ → Option (List ℕ)) where
  given_by_each : (xs : List (List ℕ)) → AllByRecursion P (filter_map f xs) → AllByRecursion (λ (x : List ℕ). IfGiven P (f x)) xs
  given_by_each [] h = tt
  given_by_each (x ∷ xs) h = (here (f x) h, given_by_each xs (after (f x) h))
    where
      here : (o : Option (List ℕ)) → AllByRecursion P (cons_option o (filter_map f xs)) → IfGiven P o
      here None i = tt
      here (Some y) i = i.0

      after : (o : Option (List ℕ)) → AllByRecursion P (cons_option o (filter_map f xs)) → AllByRecursion P (filter_map f xs)
      after None i = i
      after (Some y) i = i.1

-- what permissions and masks mention, apart
module _ (A : Mention → Type 0) where
  by_permissions : (ps : List PermissionRec) (rest : List Stored) → Agrees A (flat_map mentions_of (map stored_permission ps ++ rest)) → Agrees A (mentioned_by_permissions ps)
  by_permissions [] rest h = tt
  by_permissions (p ∷ ps) rest h =
      let others : Mentions = flat_map mentions_of (map stored_permission ps ++ rest) in
      both A (in_cond p.condition) (mentioned_by_permissions ps) (first A (in_cond p.condition) others h) (by_permissions ps rest (second A (in_cond p.condition) others h))

  after_permissions : (ps : List PermissionRec) (rest : List Stored) → Agrees A (flat_map mentions_of (map stored_permission ps ++ rest)) → Agrees A (flat_map mentions_of rest)
  after_permissions [] rest h = h
  after_permissions (p ∷ ps) rest h = after_permissions ps rest (second A (in_cond p.condition) (flat_map mentions_of (map stored_permission ps ++ rest)) h)

  by_masks : (ms : List MaskRec) → Agrees A (flat_map mentions_of (map stored_mask ms)) → Agrees A (mentioned_by_masks ms)
  by_masks [] h = tt
  by_masks (m ∷ ms) h =
      let others : Mentions = flat_map mentions_of (map stored_mask ms) in
      both A (in_expr m.value) (mentioned_by_masks ms) (first A (in_expr m.value) others h) (by_masks ms (second A (in_expr m.value) others h))

  by_guards : (t : Table) → Agrees A (mentioned_in t) → Agrees A (mentioned_by_permissions t.permissions ++ mentioned_by_masks t.masks)
  by_guards t h = both A (mentioned_by_permissions t.permissions) (mentioned_by_masks t.masks)
      (by_permissions t.permissions (map stored_mask t.masks) h)
      (by_masks t.masks (after_permissions t.permissions (map stored_mask t.masks) h))

-- A is what holds of what a table mentions, In of a table whose mentions it holds of, and M of what a statement mentions: wherever something holds of
-- the tables and the policies by their names
module _
    (C : Cat)
    (A M : Mention → Type 0)
    (In : Option Table → Type 0)
    (AtTable AtPolicy : List ℕ → Type 0)
    (table_is : (n : List ℕ) → AtTable n → A (table n))
    (policy_is : (p : List ℕ) → AtPolicy p → A (policy p))
    (label_is : (p l : List ℕ) → AtPolicy p → A (label p l))
    (in_none : In None)
    (in_some : (t : Table) → Agrees A (mentioned_by t) → In (Some t))
    (table_with : (n : List ℕ) → AtTable n → In (table_named C n) → M (table n))
    (policy_with : (p : List ℕ) → AtPolicy p → M (policy p))
    (label_with : (p l : List ℕ) → AtPolicy p → M (label p l))
    (sound : IsSound stored_rules C) where
  -- what is mentioned
  all_are : (ms : Mentions) → AllByRecursion AtTable (tables_in ms) → AllByRecursion AtPolicy (policies_in ms) → Agrees A ms
  all_are [] t p = tt
  all_are (table n ∷ ms) t p = (table_is n t.0, all_are ms t.1 p)
  all_are (policy q ∷ ms) t p = (policy_is q p.0, all_are ms t p.1)
  all_are (label q l ∷ ms) t p = (label_is q l p.0, all_are ms t p.1)

  -- the policy of a table, and of its label columns
  policy_agrees : (o : Option (List ℕ)) → IfGiven AtPolicy o → Agrees A (mention_of o)
  policy_agrees None g = tt
  policy_agrees (Some p) g = (policy_is p g, tt)

  type_agrees : (o : Option (List ℕ)) (ty : Ty) → IfGiven AtPolicy o → IsOfPolicy o ty → Agrees A (mention_of (policy_of_type ty))
  type_agrees o types.Int g b = tt
  type_agrees o (types.Text width) g b = tt
  type_agrees o types.Date g b = tt
  type_agrees o (types.Label p) g b = (policy_is p (subst (IfGiven AtPolicy) b g), tt)

  columns_agree : (t : Table) (cs : List ColumnRec) → IfGiven AtPolicy t.policy → AllByRecursion (ColumnBelongs C t) cs → Agrees A (mentioned_by_columns cs)
  columns_agree t [] g b = tt
  columns_agree t (c ∷ cs) g b = both A (mention_of (policy_of_type c.ty)) (mentioned_by_columns cs) (type_agrees t.policy c.ty g b.0.label) (columns_agree t cs g b.1)

  table_agrees : (t : Table) → LabelsBelong C t → IfGiven AtPolicy t.policy → Agrees A (mentioned_in t) → Agrees A (mentioned_by t)
  table_agrees t belong g h = both A (mention_of t.policy) (mentioned_by_columns t.columns ++ (mentioned_by_permissions t.permissions ++ mentioned_by_masks t.masks))
      (policy_agrees t.policy g)
      (both A (mentioned_by_columns t.columns) (mentioned_by_permissions t.permissions ++ mentioned_by_masks t.masks) (columns_agree t t.columns g belong) (by_guards A t h))

  stored_agrees : (n : List ℕ) → IfGiven AtPolicy (policy_name_of (table_named C n)) → Agrees A (in_table (table_named C n)) → In (table_named C n)
  stored_agrees n = go (table_named C n) refl
    where
      go : (o : Option Table) → table_named C n ≡ o → IfGiven AtPolicy (policy_name_of o) → Agrees A (in_table o) → In o
      go None e g h = in_none
      go (Some t) e g h = in_some t (table_agrees t (all_found (LabelsBelong C) (is_table n) C.tables t sound.belonging e) g h)

  -- all that is mentioned
  mentions_agree : (ms : Mentions) → AllByRecursion AtTable (tables_in ms) → AllByRecursion (λ (n : List ℕ). IfGiven AtPolicy (policy_name_of (table_named C n))) (tables_in ms)
      → Agrees A (in_tables C (tables_in ms)) → AllByRecursion AtPolicy (policies_in ms) → Agrees M ms
  mentions_agree [] t g h p = tt
  mentions_agree (table n ∷ ms) t g h p = (
    table_with n t.0 (stored_agrees n g.0 (first A (in_table (table_named C n)) (in_tables C (tables_in ms)) h)),
    mentions_agree ms t.1 g.1 (second A (in_table (table_named C n)) (in_tables C (tables_in ms)) h) p,
  )
  mentions_agree (policy q ∷ ms) t g h p = (policy_with q p.0, mentions_agree ms t g h p.1)
  mentions_agree (label q l ∷ ms) t g h p = (label_with q l p.0, mentions_agree ms t g h p.1)

  abbrev HasPolicy : List ℕ → Type 0
  HasPolicy n = IfGiven AtPolicy (policy_name_of (table_named C n))

  pub all_agree : (ms : Mentions) → AllByRecursion AtTable (tables_for C ms) → AllByRecursion AtPolicy (filter_map (λ n. policy_name_of (table_named C n)) (tables_for C ms))
      → AllByRecursion AtPolicy (policies_in ms ++ policies_in (in_tables C (tables_in ms))) → Agrees M ms
  all_agree ms tables owners calls = mentions_agree ms
      (all_front AtTable (tables_in ms) (tables_in guards) tables)
      (all_front HasPolicy (tables_in ms) (tables_in guards) (given_by_each AtPolicy (λ n. policy_name_of (table_named C n)) (tables_for C ms) owners))
      (all_are guards (all_after AtTable (tables_in ms) (tables_in guards) tables) (all_after AtPolicy (policies_in ms) (policies_in guards) calls))
      (all_front AtPolicy (policies_in ms) (policies_in guards) calls)
    where
      guards : Mentions
      guards = in_tables C (tables_in ms)

-- ---- the policies of a statement that stay

module _ (C D : Cat) (sound : IsSound stored_rules C) (sound_D : IsSound stored_rules D) (ms : Mentions) (same : SameOn (deps_of C ms) C D) where
  abbrev SamePolicy : List ℕ → Type 0
  SamePolicy p = policy_named D p ≡ policy_named C p

  abbrev owning : List (List ℕ)
  owning = filter_map (λ n. policy_name_of (table_named C n)) (tables_for C ms)

  abbrev calling : List (List ℕ)
  calling = policies_in ms ++ policies_in (in_tables C (tables_in ms))

  pub of_owners : AllByRecursion SamePolicy owning
  of_owners = all_front SamePolicy owning (filter is_key_name calling) (policies_same C D ms same)

  pub of_calls : AllByRecursion SamePolicy calling
  of_calls = policies_all C D sound.folded sound_D.folded calling (all_after SamePolicy owning (filter is_key_name calling) (policies_same C D ms same))
