-- Refusals by privileges, protected columns and masks depend on the records of what a query mentions.
use Rattle.std.proofs.Common.{ℕ, ◌≡◌, refl, ap, subst, ◌∙◌, List, [], ◌∷◌, ◌++◌, Bool, true, false, cond, ◌||◌, not, Option, Some, None, map}
use Rattle.std.specs.Prelude.{◌&&◌, ◌==◌, filter, filter_map, find, if◌then◌else◌, option_map}
use Rattle.std.specs.List.{AllByRecursion, flat_map, list_all, position_from}
use Rattle.std.specs.Option.{option_and_then}
use Rattle.std.specs.Str.{bytes_eq}
use Rattle.lb_tree.specs.declared.query.Expr.{Expr}
use Rattle.lb_tree.specs.declared.query.Query.{Query}
use Rattle.lb_tree.specs.declared.query.Select.{Select}
use Rattle.lb_tree.specs.declared.query.SortKey.{SortKey}
use Rattle.lb_tree.specs.declared.query.Cond.TheViews.{out-Query, out-Expr}
use Rattle.lb_cat.specs.declared.catalog.MaskRec.{MaskRec}
use Rattle.lb_cat.specs.declared.cred.Cred.{Cred}
use Rattle.lb_cat.specs.declared.refusal.NeededPrivilege.{NeededPrivilege}
use Rattle.lb_cat.specs.declared.refusal.NeededPrivilege.TheVariants as needed
use Rattle.lb_cat.specs.declared.refusal.Refusal.TheVariants as refusals
use Rattle.lb_cat.specs.Catalog.{Cat, Table, table_named, policy_named, is_column}
use Rattle.lb_names.specs.Mentions.{Mention, Mentions, table, policy, label, in_expr, in_query, in_key, in_select, tables_in}
use Rattle.lb_rows.specs.Tables.{Tables}
use Rattle.lb_mean.specs.Answer.{access_refused}
use Rattle.lb_mean.specs.Conditions.{is_listed}
use Rattle.lb_mean.specs.Frame.{Agrees}
use Rattle.lb_mean.specs.Named.{FromItem, Named, Use, Uses, ItemUses, QueryUses, belongs}
use Rattle.lb_mean.specs.Ordered.{sorts_by}
use Rattle.lb_mean.specs.Refused.{first_some, lacks, privilege_lacked, columns_in, columns_of, column_refused, policy_of_table, is_used, use_refused_in, use_refused, output_names, is_expression, order_uses, tables_used, columns_refused, Shown, all_shown, shown_by_name, shown_by, may_choose_by, is_allowed, MaskedUse, mask_of, masked_use, refuses, mask_refused, first_refused, masks_refused_in, masks_refused}
use Rattle.lb_mean.specs.Uses.{uses_in, uses_in_query}
use Rattle.lb_mean.specs.Visible.{mask_at}
use Rattle.lb_mean.specs.Laws.{mention_of, mentioned_by_columns, mentioned_by_permissions, mentioned_by_masks, SameNamed, SameStored, SameMention}
use Rattle.lb_mean.proofs.Agreeing.{first, second, weaker}
use Rattle.lb_mean.proofs.Lists.{all_two, all_flat, all_of_map, all_filtered, all_turned, all_true, mapped_same, kept_same, any_same, all_kept}
use Rattle.lb_mean.proofs.Used.{SameColumns, expr_uses_same, query_uses_same, AtItem, AtUse, InUses, InQuery, expr_uses_held, query_uses_held}

module _ (C D : Cat) (T U : Tables) where
  abbrev pub Kept : Mention → Type 0
  Kept = SameMention C D T U

  abbrev pub Stored : Mention → Type 0
  Stored = SameNamed C D T U

  -- ---- records

  pub table_same : (n : List ℕ) → Kept (table n) → table_named C n ≡ table_named D n
  table_same n h = h.0.0

  kept_columns : (m : Mention) → Kept m → SameColumns (columns_of C) (columns_of D) m
  kept_columns (table n) h = ap columns_in h.0.0
  kept_columns (policy p) h = tt
  kept_columns (label p l) h = tt

  stored_columns : (m : Mention) → Stored m → SameColumns (columns_of C) (columns_of D) m
  stored_columns (table n) h = ap columns_in h.0
  stored_columns (policy p) h = tt
  stored_columns (label p l) h = tt

  pub agreed_columns : (ms : Mentions) → Agrees Kept ms → Agrees (SameColumns (columns_of C) (columns_of D)) ms
  agreed_columns = weaker Kept (SameColumns (columns_of C) (columns_of D)) kept_columns

  pub expr_uses_agree : (e : Expr) → Agrees Kept (in_expr e) → uses_in (columns_of C) e ≡ uses_in (columns_of D) e
  expr_uses_agree e h = expr_uses_same (columns_of C) (columns_of D) e (agreed_columns (in_expr e) h)

  pub query_uses_agree : (q : Query) → Agrees Kept (in_query q) → uses_in_query (columns_of C) q ≡ uses_in_query (columns_of D) q
  query_uses_agree q h = query_uses_same (columns_of C) (columns_of D) q (agreed_columns (in_query q) h)

  -- ---- privileges

  pub lacked_same : (c : Cred) (which : NeededPrivilege) (n : List ℕ) → Kept (table n) → privilege_lacked C c which n ≡ privilege_lacked D c which n
  lacked_same c which n h = ap (λ (o : Option Table). option_and_then (lacks c which n) o) h.0.0

  pub all_lacked : (c : Cred) (which : NeededPrivilege) (ms : Mentions) → Agrees Kept ms → map (privilege_lacked C c which) (tables_in ms) ≡ map (privilege_lacked D c which) (tables_in ms)
  all_lacked c which [] h = refl
  all_lacked c which (table n ∷ ms) h = λ i. lacked_same c which n h.0 i ∷ all_lacked c which ms h.1 i
  all_lacked c which (policy p ∷ ms) h = all_lacked c which ms h.1
  all_lacked c which (label p l ∷ ms) h = all_lacked c which ms h.1

  -- ---- protected columns

  policy_given : (p : Option (List ℕ)) → Agrees Stored (mention_of p) → option_and_then (policy_named C) p ≡ option_and_then (policy_named D) p
  policy_given None h = refl
  policy_given (Some p) h = h.0

  abbrev guards : Table → Mentions
  guards t = mentioned_by_columns t.columns ++ (mentioned_by_permissions t.permissions ++ mentioned_by_masks t.masks)

  pub policy_of_same : (t : Table) → SameStored C D T U (Some t) → policy_of_table C t ≡ policy_of_table D t
  policy_of_same t h = policy_given t.policy (first Stored (mention_of t.policy) (guards t) h)

  used_in_same : (c : Cred) (u : Use) (o : Option Table) → SameStored C D T U o → option_and_then (use_refused_in C c u) o ≡ option_and_then (use_refused_in D c u) o
  used_in_same c u None h = refl
  used_in_same c u (Some t) h = λ i. first_some (map (column_refused c (policy_of_same t h i)) (filter (is_used u) t.columns))

  pub use_same : (c : Cred) (u : Use) → AtUse (columns_of C) Kept u → use_refused C c u ≡ use_refused D c u
  use_same c u h = used_in_same c u (table_named C u.item.tab.table) h.1 ∙ λ i. option_and_then (use_refused_in D c u) (h.0.0 i)

  pub all_used : (c : Cred) (us : List Use) → AllByRecursion (AtUse (columns_of C) Kept) us → map (use_refused C c) us ≡ map (use_refused D c) us
  all_used c us h = mapped_same (use_refused C c) (use_refused D c) us (all_turned (AtUse (columns_of C) Kept) (use_same c) us h)

  -- ---- ORDER BY

  abbrev keys_in : List SortKey → Mentions
  keys_in ks = flat_map in_key ks

  abbrev uses_of_keys : Cat → (SortKey → Bool) → List SortKey → List Uses
  uses_of_keys E test ks = map (λ k. uses_in (columns_of E) k.by) (filter test ks)

  keys_same : (test : SortKey → Bool) (ks : List SortKey) → Agrees Kept (keys_in ks) → uses_of_keys C test ks ≡ uses_of_keys D test ks
  keys_same test [] h = refl
  keys_same test (k ∷ ks) h = go (test k) (keys_same test ks (second Kept (in_key k) (keys_in ks) h))
    where
      go : (b : Bool) → uses_of_keys C test ks ≡ uses_of_keys D test ks
          → map (λ x. uses_in (columns_of C) x.by) (cond b (k ∷ filter test ks) (filter test ks)) ≡ map (λ x. uses_in (columns_of D) x.by) (cond b (k ∷ filter test ks) (filter test ks))
      go true rest = λ i. expr_uses_agree k.by (first Kept (in_key k) (keys_in ks) h) i ∷ rest i
      go false rest = rest

  keys_held : (test : SortKey → Bool) (ks : List SortKey) → Agrees Kept (keys_in ks) → AllByRecursion (InUses (columns_of C) Kept) (uses_of_keys C test ks)
  keys_held test [] h = tt
  keys_held test (k ∷ ks) h = go (test k) (keys_held test ks (second Kept (in_key k) (keys_in ks) h))
    where
      go : (b : Bool) → AllByRecursion (InUses (columns_of C) Kept) (uses_of_keys C test ks)
          → AllByRecursion (InUses (columns_of C) Kept) (map (λ x. uses_in (columns_of C) x.by) (cond b (k ∷ filter test ks) (filter test ks)))
      go true rest = (expr_uses_held (columns_of C) Kept k.by (first Kept (in_key k) (keys_in ks) h), rest)
      go false rest = rest

  module _ (s : Select) (h : Agrees Kept (in_select s)) where
    in_body : Agrees Kept (in_query s.query)
    in_body = first Kept (in_query s.query) (keys_in s.order) h

    in_order : Agrees Kept (keys_in s.order)
    in_order = second Kept (in_query s.query) (keys_in s.order) h

    abbrev has_own : SortKey → Bool
    has_own k = is_expression (output_names s.query) (sorts_by (out-Expr k.by))

    pub body_same : uses_in_query (columns_of C) s.query ≡ uses_in_query (columns_of D) s.query
    body_same = query_uses_agree s.query in_body

    pub body_held : InQuery (columns_of C) Kept (uses_in_query (columns_of C) s.query)
    body_held = query_uses_held (columns_of C) Kept s.query in_body

    abbrev named_first : QueryUses → List Uses → List Use
    named_first q us = (q.within (flat_map (λ u. u.columns) us)).tables ++ flat_map (λ u. u.tables) us

    used_same : tables_used C s ≡ tables_used D s
    used_same = λ i. named_first (body_same i) (keys_same has_own s.order in_order i)

    used_held : AllByRecursion (AtUse (columns_of C) Kept) (tables_used C s)
    used_held = all_two (AtUse (columns_of C) Kept) _ (flat_map (λ u. u.tables) (order_uses C s))
        (body_held.0 (flat_map (λ u. u.columns) (order_uses C s)))
        (all_flat (AtUse (columns_of C) Kept) (λ u. u.tables) (order_uses C s) (keys_held has_own s.order in_order))

    pub columns_refused_same : (c : Cred) → columns_refused C c s ≡ columns_refused D c s
    columns_refused_same c = ap first_some (all_used c (tables_used C s) used_held) ∙ λ i. first_some (map (use_refused D c) (used_same i))

  -- ---- masks

  abbrev pub AtShown : Shown → Type 0
  AtShown x = AtItem (columns_of C) Kept x.item

  pub shown_named : (items : List FromItem) (n : Named) → AllByRecursion (AtItem (columns_of C) Kept) items → AllByRecursion AtShown (shown_by_name items n)
  shown_named items n h = all_of_map AtShown (λ item. record { item = item; column = n.column.name; aggregated = n.aggregated }) (filter (λ item. belongs item n) items) (all_filtered (AtItem (columns_of C) Kept) (λ item. belongs item n) items h)

  shown_all : (items : List FromItem) (x : ItemUses) → AllByRecursion (AtItem (columns_of C) Kept) items → AllByRecursion AtShown (shown_by items x)
  shown_all items x h = all_two AtShown (flat_map all_shown (filter x.shows items)) (flat_map (shown_by_name items) x.within.columns)
      (all_flat AtShown all_shown (filter x.shows items) (all_turned (AtItem (columns_of C) Kept) every (filter x.shows items) (all_filtered (AtItem (columns_of C) Kept) x.shows items h)))
      (all_flat AtShown (shown_by_name items) x.within.columns (all_true (λ n. AllByRecursion AtShown (shown_by_name items n)) (λ n. shown_named items n h) x.within.columns))
    where
      every : (item : FromItem) → AtItem (columns_of C) Kept item → AllByRecursion AtShown (all_shown item)
      every item k = all_of_map AtShown (λ column. record { item = item; column = column.name; aggregated = false }) item.columns (all_true (λ _. AtItem (columns_of C) Kept item) (λ _. k) item.columns)

  abbrev MaskKept : Option MaskRec → Type 0
  MaskKept None = Unit {0}
  MaskKept (Some m) = Agrees Stored (in_expr m.value)

  either_kept : (b : Bool) (m n : Option MaskRec) → MaskKept m → MaskKept n → MaskKept (cond b m n)
  either_kept true m n g h = g
  either_kept false m n g h = h

  found_kept : (test : MaskRec → Bool) (ms : List MaskRec) → Agrees Stored (mentioned_by_masks ms) → MaskKept (find test ms)
  found_kept test [] h = tt
  found_kept test (m ∷ ms) h = either_kept (test m) (Some m) (find test ms) (first Stored (in_expr m.value) (mentioned_by_masks ms) h) (found_kept test ms (second Stored (in_expr m.value) (mentioned_by_masks ms) h))

  at_kept : (t : Table) (at : Option ℕ) → Agrees Stored (mentioned_by_masks t.masks) → MaskKept (option_and_then (mask_at t) at)
  at_kept t None h = tt
  at_kept t (Some at) h = either_kept t.column_control (find (λ m. m.enabled && m.column == at) t.masks) None (found_kept (λ m. m.enabled && m.column == at) t.masks h) tt

  masks_in : (t : Table) → SameStored C D T U (Some t) → Agrees Stored (mentioned_by_masks t.masks)
  masks_in t h = second Stored (mentioned_by_permissions t.permissions) (mentioned_by_masks t.masks)
      (second Stored (mentioned_by_columns t.columns) (mentioned_by_permissions t.permissions ++ mentioned_by_masks t.masks)
      (second Stored (mention_of t.policy) (guards t) h))

  mask_kept : (n : List ℕ) (o : Option Table) → SameStored C D T U o → MaskKept (option_and_then (λ t. mask_of t n) o)
  mask_kept n None h = tt
  mask_kept n (Some t) h = at_kept t (position_from (is_column n) 0 t.columns) (masks_in t h)

  pub masked_same : (x : Shown) → AtShown x → masked_use C x ≡ masked_use D x
  masked_same x h = ap (λ (o : Option Table). option_map (λ m. record { shown = x; mask = m }) (option_and_then (λ t. mask_of t x.column) o)) h.0.0

  -- the CASE of a mask names the same in both
  abbrev CaseSame : MaskedUse → Type 0
  CaseSame u = uses_in (columns_of C) u.mask.value ≡ uses_in (columns_of D) u.mask.value

  case_same : (x : Shown) → AtShown x → (u : MaskedUse) → masked_use C x ≡ Some u → CaseSame u
  case_same x h u e = go (option_and_then (λ t. mask_of t x.column) (table_named C x.item.tab.table)) (mask_kept x.column (table_named C x.item.tab.table) h.1) e
    where
      go : (o : Option MaskRec) → MaskKept o → option_map (λ m. record { shown = x; mask = m }) o ≡ Some u → CaseSame u
      go None k is = absurd cc
      go (Some m) k is =
          let same : uses_in (columns_of C) m.value ≡ uses_in (columns_of D) m.value = expr_uses_same (columns_of C) (columns_of D) m.value (weaker Stored (SameColumns (columns_of C) (columns_of D)) stored_columns (in_expr m.value) k) in
          let mask : m ≡ u.mask = cc in
          subst (λ (r : MaskRec). uses_in (columns_of C) r.value ≡ uses_in (columns_of D) r.value) mask same

  refuses_same : (allowed : List Shown) (u : MaskedUse) → CaseSame u → refuses C allowed u ≡ refuses D allowed u
  refuses_same allowed u h = λ i. not (u.shown.aggregated || list_all (is_allowed allowed u.shown.item) (h i).columns)

  mask_refused_same : (allowed : List Shown) (uses : List MaskedUse) → AllByRecursion CaseSame uses → (u : MaskedUse) → mask_refused C allowed uses u ≡ mask_refused D allowed uses u
  mask_refused_same allowed uses h u = λ i. if any_same (λ v. bytes_eq v.mask.name u.mask.name && refuses C allowed v) (λ v. bytes_eq v.mask.name u.mask.name && refuses D allowed v) uses
      (all_turned CaseSame (λ v k j. bytes_eq v.mask.name u.mask.name && refuses_same allowed v k j) uses h) i then Some (refusals.MaskGroup u.mask.name) else None

  first_same : (allowed : List Shown) (uses : List MaskedUse) → AllByRecursion CaseSame uses → first_refused C allowed uses ≡ first_refused D allowed uses
  first_same allowed uses h = λ i. first_some (map (λ u. mask_refused_same allowed uses h u i) uses)

  pub all_masked : (xs : List Shown) → AllByRecursion AtShown xs → filter_map (masked_use C) xs ≡ filter_map (masked_use D) xs
  all_masked xs h = kept_same (masked_use C) (masked_use D) xs (all_turned AtShown masked_same xs h)

  pub query_shown : (q : QueryUses) → InQuery (columns_of C) Kept q → AllByRecursion AtShown (flat_map (shown_by q.from) q.items)
  query_shown q h = all_flat AtShown (shown_by q.from) q.items (all_true (λ x. AllByRecursion AtShown (shown_by q.from x)) (λ x. shown_all q.from x h.1) q.items)

  masks_in_same : (distinct : Bool) (q : QueryUses) → InQuery (columns_of C) Kept q → masks_refused_in C distinct q ≡ masks_refused_in D distinct q
  masks_in_same distinct q h = λ i. if is_listed q.group || distinct then asked i else None
    where
      asked : first_refused C (may_choose_by q) (filter_map (masked_use C) (flat_map (shown_by q.from) q.items)) ≡ first_refused D (may_choose_by q) (filter_map (masked_use D) (flat_map (shown_by q.from) q.items))
      asked = first_same (may_choose_by q) (filter_map (masked_use C) (flat_map (shown_by q.from) q.items)) (all_kept CaseSame (masked_use C) (flat_map (shown_by q.from) q.items) (all_turned AtShown case_same (flat_map (shown_by q.from) q.items) (query_shown q h)))
          ∙ λ i. first_refused D (may_choose_by q) (all_masked (flat_map (shown_by q.from) q.items) (query_shown q h) i)

  pub masks_refused_same : (s : Select) → Agrees Kept (in_select s) → masks_refused C s ≡ masks_refused D s
  masks_refused_same s h = masks_in_same (out-Query s.query).distinct (uses_in_query (columns_of C) s.query) (body_held s h) ∙ λ i. masks_refused_in D (out-Query s.query).distinct (body_same s h i)

  -- ---- all

  pub access_same : (c : Cred) (s : Select) → Agrees Kept (in_select s) → access_refused C c s ≡ access_refused D c s
  access_same c s h = λ i. first_some (all_lacked c needed.Select (in_select s) h i ++ (columns_refused_same s h c i ∷ masks_refused_same s h i ∷ []))
