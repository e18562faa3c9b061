-- What is seen of the tables depends on what they mention, and answers depend on what is seen.
use Rattle.std.proofs.Common.{ℕ, suc, ℤ, ◌≡◌, refl, ◌∙◌, List, [], ◌∷◌, ◌++◌, Bool, true, false, Option, Some, None, map}
use Rattle.std.specs.Prelude.{find, if◌then◌else◌, ◌==◌, ◌&&◌, filter, cond, Ok}
use Rattle.std.specs.List.{flat_map}
use Rattle.std.specs.Option.{option_and_then}
use Rattle.lb_base.specs.declared.value.Value.{Value}
use Rattle.lb_base.specs.Evaluated.{Evaluated, ◌>>=◌, passing, any_passing}
use Rattle.lb_base.specs.Truths.{is_true}
use Rattle.lb_tree.specs.declared.query.Cond.{Cond}
use Rattle.lb_tree.specs.declared.query.Expr.{Expr}
use Rattle.lb_tree.specs.declared.query.Select.{Select}
use Rattle.lb_tree.specs.declared.query.SortKey.{SortKey}
use Rattle.lb_tree.specs.declared.query.Cond.TheViews.{out-Expr}
use Rattle.lb_cat.specs.declared.catalog.ColumnRec.{ColumnRec}
use Rattle.lb_cat.specs.declared.catalog.PermissionRec.{PermissionRec}
use Rattle.lb_cat.specs.declared.catalog.MaskRec.{MaskRec}
use Rattle.lb_cat.specs.declared.cred.Cred.{Cred}
use Rattle.lb_cat.specs.Catalog.{Cat, Table, table_named}
use Rattle.lb_names.specs.Mentions.{Mention, Mentions, table, policy, label, in_expr, in_cond, in_query, in_key, in_select}
use Rattle.lb_rows.specs.Tables.{Tables, rows_of}
use Rattle.lb_mean.specs.Setting.{Setting}
use Rattle.lb_mean.specs.Meaning.{means, says, answers}
use Rattle.lb_mean.specs.Visible.{unguarded, guarded, whole_source, visible_source, mask_at, alone, passes_label, seen_column, policy_of_type, is_granted_by, is_permitted, is_visible, shown_value, shown_from}
use Rattle.lb_mean.specs.Ordered.{sorter, sorts_by, chosen, chosen_by}
use Rattle.lb_mean.specs.Output.{rows_told, rows_of_query}
use Rattle.lb_mean.specs.Answer.{unless_refused, query_refused}
use Rattle.lb_mean.specs.Frame.{Agrees, SameIn}
use Rattle.lb_mean.specs.Laws.{mention_of, mentioned_by_columns, mentioned_by_permissions, mentioned_by_masks, SameNamed, SameStored, SameMention, SameGuards, SeesSame, RowsFrame, AnswerFrame, TwoWorlds}
use Rattle.lb_mean.proofs.Agreeing.{first, second, both, weaker}
use Rattle.lb_mean.proofs.Meant.{expr_of_session, cond_of_session, query_of_session}

module _ (C D : Cat) (c : Cred) (T U : Tables) (day : ℤ) where
  abbrev pub W : Setting
  W = unguarded C c T day

  abbrev pub V : Setting
  V = unguarded D c U day

  abbrev pub Same : Mentions → Type 0
  Same = Agrees (SameNamed C D T U)

  -- read whole
  whole_same : (m : Mention) → SameNamed C D T U m → SameIn W V m
  whole_same (table n) h = λ i. whole_source (h.0 i) (h.1 i)
  whole_same (policy p) h = h
  whole_same (label p l) h = h

  abbrev read_whole : (ms : Mentions) → Same ms → Agrees (SameIn W V) ms
  read_whole = weaker (SameNamed C D T U) (SameIn W V) whole_same

  pub stored_expr : (e : Expr) → Same (in_expr e) → means W e ≡ means V e
  stored_expr e h = expr_of_session c day W.policies V.policies W.sources V.sources e (read_whole (in_expr e) h)

  pub stored_cond : (e : Cond) → Same (in_cond e) → says W e ≡ says V e
  stored_cond e h = cond_of_session c day W.policies V.policies W.sources V.sources e (read_whole (in_cond e) h)

  -- ---- rows

  policy_same : (p : Option (List ℕ)) → Same (mention_of p) → option_and_then W.policies p ≡ option_and_then V.policies p
  policy_same None h = refl
  policy_same (Some p) h = h.0

  pub columns_same : (cs : List ColumnRec) → Same (mentioned_by_columns cs) → map (seen_column W) cs ≡ map (seen_column V) cs
  columns_same [] h = refl
  columns_same (k ∷ cs) h =
      λ i. record { name = k.name; policy = policy_same (policy_of_type k.ty) (first (SameNamed C D T U) (mention_of (policy_of_type k.ty)) (mentioned_by_columns cs) h) i }
      ∷ columns_same cs (second (SameNamed C D T U) (mention_of (policy_of_type k.ty)) (mentioned_by_columns cs) h) i

  abbrev enabled_of : List PermissionRec → List PermissionRec
  enabled_of ps = filter (λ p. p.enabled) ps

  module _ (t : Table) (row : List Value) where
    granted_same : (p : PermissionRec) → Same (in_cond p.condition) → is_granted_by W t row p ≡ is_granted_by V t row p
    granted_same p h = λ i. (stored_cond p.condition h i).test (alone p.correlation t row) >>= λ x. Ok (is_true x)

    abbrev AnyOf : List PermissionRec → Type 0
    AnyOf ps = any_passing (is_granted_by W t row) ps ≡ any_passing (is_granted_by V t row) ps

    one_more : (b : Bool) (p : PermissionRec) (ps : List PermissionRec) → Same (in_cond p.condition) → AnyOf ps → AnyOf (cond b (p ∷ ps) ps)
    one_more true p ps h g = λ i. granted_same p h i >>= λ passes. if passes then Ok true else g i
    one_more false p ps h g = g

    permitted_same : (ps : List PermissionRec) → Same (mentioned_by_permissions ps) → AnyOf (enabled_of ps)
    permitted_same [] h = refl
    permitted_same (p ∷ ps) h = one_more p.enabled p (enabled_of ps) (first (SameNamed C D T U) (in_cond p.condition) (mentioned_by_permissions ps) h) (permitted_same ps (second (SameNamed C D T U) (in_cond p.condition) (mentioned_by_permissions ps) h))

    pub allowed_same : Same (mentioned_by_permissions t.permissions) → is_permitted W t row ≡ is_permitted V t row
    allowed_same = permitted_same t.permissions

    pub visible_same : Same (mentioned_by_columns t.columns) → Same (mentioned_by_permissions t.permissions) → is_visible W t row ≡ is_visible V t row
    visible_same g h = λ i. if passes_label W (columns_same t.columns g i) row then (if t.row_control then permitted_same t.permissions h i else Ok true) else Ok false

    -- ---- masks

    abbrev ShownSame : Value → Option MaskRec → Type 0
    ShownSame x m = shown_value W t row m x ≡ shown_value V t row m x

    pub mask_same : (x : Value) (m : MaskRec) → Same (in_expr m.value) → ShownSame x (Some m)
    mask_same x m h = λ i. (stored_expr m.value h i).value (alone m.correlation t row)

    either_same : (x : Value) (b : Bool) (m n : Option MaskRec) → ShownSame x m → ShownSame x n → ShownSame x (cond b m n)
    either_same x true m n g h = g
    either_same x false m n g h = h

    found_same : (x : Value) (test : MaskRec → Bool) (ms : List MaskRec) → Same (mentioned_by_masks ms) → ShownSame x (find test ms)
    found_same x test [] h = refl
    found_same x test (m ∷ ms) h = either_same x (test m) (Some m) (find test ms) (mask_same x m (first (SameNamed C D T U) (in_expr m.value) (mentioned_by_masks ms) h)) (found_same x test ms (second (SameNamed C D T U) (in_expr m.value) (mentioned_by_masks ms) h))

    pub at_same : Same (mentioned_by_masks t.masks) → (at : ℕ) (x : Value) → ShownSame x (mask_at t at)
    at_same h at x = either_same x t.column_control (find (λ m. m.enabled && m.column == at) t.masks) None (found_same x (λ m. m.enabled && m.column == at) t.masks h) refl

    from_same : Same (mentioned_by_masks t.masks) → (at : ℕ) (xs : List Value) → shown_from W t row at xs ≡ shown_from V t row at xs
    from_same h at [] = refl
    from_same h at (x ∷ xs) = λ i. at_same h at x i ∷ from_same h (suc at) xs i

  -- ---- what is seen of a table

  -- the policies of a table's labels and what its masks mention
  abbrev Guarded : Option Table → Type 0
  Guarded None = Unit {0}
  Guarded (Some t) = Same (mentioned_by_columns t.columns) × Same (mentioned_by_masks t.masks)

  source_same : (o : Option Table) (rs ss : List (List Value)) → (visible_source W o rs).rows ≡ (visible_source V o ss).rows
      → Guarded o → visible_source W o rs ≡ visible_source V o ss
  source_same None rs ss h g = refl
  source_same (Some t) rs ss h g = λ i. record { columns = columns_same t.columns g.0 i; rows = h i; shown = λ row. from_same t row g.1 0 row i }

  passing_same : (f g : List Value → Evaluated Bool) → ((row : List Value) → f row ≡ g row) → (rows : List (List Value)) → passing f rows ≡ passing g rows
  passing_same f g h rows = λ i. passing (λ row. h row i) rows

  rows_same : (o : Option Table) (rows : List (List Value)) → SameStored C D T U o → (visible_source W o rows).rows ≡ (visible_source V o rows).rows
  rows_same None rows h = refl
  rows_same (Some t) rows h = passing_same (is_visible W t) (is_visible V t) (λ row. visible_same t row columns permissions) rows
    where
      after : Same (mentioned_by_columns t.columns ++ (mentioned_by_permissions t.permissions ++ mentioned_by_masks t.masks))
      after = second (SameNamed C D T U) (mention_of t.policy) (mentioned_by_columns t.columns ++ (mentioned_by_permissions t.permissions ++ mentioned_by_masks t.masks)) h

      columns : Same (mentioned_by_columns t.columns)
      columns = first (SameNamed C D T U) (mentioned_by_columns t.columns) (mentioned_by_permissions t.permissions ++ mentioned_by_masks t.masks) after

      stored : Same (mentioned_by_permissions t.permissions ++ mentioned_by_masks t.masks)
      stored = second (SameNamed C D T U) (mentioned_by_columns t.columns) (mentioned_by_permissions t.permissions ++ mentioned_by_masks t.masks) after

      permissions : Same (mentioned_by_permissions t.permissions)
      permissions = first (SameNamed C D T U) (mentioned_by_permissions t.permissions) (mentioned_by_masks t.masks) stored

  guarded_same : (o : Option Table) → SameStored C D T U o → Guarded o
  guarded_same None h = tt
  guarded_same (Some s) h = (
    first (SameNamed C D T U) (mentioned_by_columns s.columns) (mentioned_by_permissions s.permissions ++ mentioned_by_masks s.masks) after,
    second (SameNamed C D T U) (mentioned_by_permissions s.permissions) (mentioned_by_masks s.masks)
        (second (SameNamed C D T U) (mentioned_by_columns s.columns) (mentioned_by_permissions s.permissions ++ mentioned_by_masks s.masks) after),
  )
    where
      after : Same (mentioned_by_columns s.columns ++ (mentioned_by_permissions s.permissions ++ mentioned_by_masks s.masks))
      after = second (SameNamed C D T U) (mention_of s.policy) (mentioned_by_columns s.columns ++ (mentioned_by_permissions s.permissions ++ mentioned_by_masks s.masks)) h

  -- ---- settings of statements

  abbrev pub G : Setting
  G = guarded C c T day

  abbrev pub H : Setting
  H = guarded D c U day

  pub mention_same : (m : Mention) → SameMention C D T U m → SameIn G H m
  mention_same (table n) h =
      source_same (table_named C n) (rows_of n T) (rows_of n T) (rows_same (table_named C n) (rows_of n T) h.1) (guarded_same (table_named C n) h.1)
      ∙ λ i. visible_source V (h.0.0 i) (h.0.1 i)
  mention_same (policy p) h = h
  mention_same (label p l) h = h

  -- ---- answers

  pub query_same : (s : Select) → Agrees (SameIn G H) (in_query s.query) → answers G s.query ≡ answers H s.query
  query_same s = query_of_session c day G.policies H.policies G.sources H.sources s.query

  abbrev pub keys_in : List SortKey → Mentions
  keys_in ks = flat_map in_key ks

  pub order_same : (ks : List SortKey) → Agrees (SameIn G H) (keys_in ks) → map (sorter G) ks ≡ map (sorter H) ks
  order_same [] h = refl
  order_same (k ∷ ks) h = λ i. record { by = sorts_by (out-Expr k.by); means = expr_of_session c day G.policies H.policies G.sources H.sources k.by (first (SameIn G H) (in_expr k.by) (keys_in ks) h) i; direction = k.direction } ∷ order_same ks (second (SameIn G H) (in_expr k.by) (keys_in ks) h) i

  abbrev pub from_keys : Select → Mentions
  from_keys s = keys_in s.order

  -- the rows or groups that a query chooses, and what it gives, depend on what is seen
  pub chosen_same : (s : Select) → Agrees (SameIn G H) (in_select s) → chosen_by G s ≡ chosen_by H s
  chosen_same s h = λ i. chosen (query_same s (first (SameIn G H) (in_query s.query) (from_keys s) h) i) (order_same s.order (second (SameIn G H) (in_query s.query) (from_keys s) h) i) s.fetch

  pub told_same : (s : Select) → Agrees (SameIn G H) (in_select s) → rows_told G s ≡ rows_told H s
  told_same s h = λ i. rows_of_query (query_same s (first (SameIn G H) (in_query s.query) (from_keys s) h) i) (order_same s.order (second (SameIn G H) (in_query s.query) (from_keys s) h) i) s.fetch

pub rows_frame : RowsFrame
rows_frame C D c T U day s h = told_same C D c T U day s (weaker (SameMention C D T U) (SameIn (G C D c T U day) (H C D c T U day)) (mention_same C D c T U day) (in_select s) h)

pub answer_frame : AnswerFrame
answer_frame checks C c T U day s h = λ i. unless_refused (query_refused checks C c s) (rows_frame C C c T U day s h i)

-- ---- one catalogue

module _ (C : Cat) (c : Cred) (T U : Tables) (day : ℤ) where
  no_policies : (cs : List ColumnRec) → Agrees (SameNamed C C T U) (mentioned_by_columns cs)
  no_policies [] = tt
  no_policies (k ∷ cs) = both (SameNamed C C T U) (mention_of (policy_of_type k.ty)) (mentioned_by_columns cs) (one (policy_of_type k.ty)) (no_policies cs)
    where
      one : (p : Option (List ℕ)) → Agrees (SameNamed C C T U) (mention_of p)
      one None = tt
      one (Some p) = (refl, tt)

  seen_guards : (o : Option Table) → SameGuards C T U o → Guarded C C c T U day o
  seen_guards None h = tt
  seen_guards (Some t) h = (no_policies t.columns, h.1)

  seen_same : (m : Mention) → SeesSame C c day T U m → SameIn (G C C c T U day) (H C C c T U day) m
  seen_same (table n) h = source_same C C c T U day (table_named C n) (rows_of n T) (rows_of n U) h.0 (seen_guards (table_named C n) h.1)
  seen_same (policy p) h = refl
  seen_same (label p l) h = refl

pub two_worlds : TwoWorlds
two_worlds checks C c T U day s h = λ i. unless_refused (query_refused checks C c s)
    (told_same C C c T U day s (weaker (SeesSame C c day T U) (SameIn (G C C c T U day) (H C C c T U day)) (seen_same C c T U day) (in_select s) h) i)
