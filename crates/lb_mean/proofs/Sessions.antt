-- Two sessions that hold the same of the policies that a query mentions have one answer to it.
use Rattle.std.proofs.Common.{ℕ, suc, ℤ, ◌≡◌, refl, ◌∙◌, List, [], ◌∷◌, ◌++◌, Bool, true, false, Option, Some, None, map}
use Rattle.std.specs.Prelude.{find, if◌then◌else◌, ◌==◌, ◌&&◌, filter, cond, Ok}
use Rattle.std.specs.List.{flat_map}
use Rattle.std.specs.Option.{option_and_then}
use Rattle.lb_base.specs.declared.value.Value.{Value}
use Rattle.lb_base.specs.Evaluated.{◌>>=◌, passing, any_passing}
use Rattle.lb_base.specs.Truths.{is_true}
use Rattle.lb_tree.specs.declared.query.Cond.{Cond}
use Rattle.lb_tree.specs.declared.query.Expr.{Expr}
use Rattle.lb_tree.specs.declared.query.Query.{Query}
use Rattle.lb_tree.specs.declared.query.Select.{Select}
use Rattle.lb_tree.specs.declared.query.SortKey.{SortKey}
use Rattle.lb_tree.specs.declared.query.Cond.TheViews.{out-Expr}
use Rattle.lb_cat.specs.declared.catalog.ColumnRec.{ColumnRec}
use Rattle.lb_cat.specs.declared.catalog.PermissionRec.{PermissionRec}
use Rattle.lb_cat.specs.declared.catalog.MaskRec.{MaskRec}
use Rattle.lb_cat.specs.declared.cred.Cred.{Cred}
use Rattle.lb_cat.specs.declared.cred.CredLabel.{CredLabel}
use Rattle.lb_cat.specs.Catalog.{Cat, Table, table_named, policy_named}
use Rattle.lb_names.specs.Mentions.{Mention, Mentions, table, policy, label, in_expr, in_cond, in_query, in_key, in_select}
use Rattle.lb_rows.specs.Tables.{Tables, rows_of}
use Rattle.lb_mean.specs.Setting.{Setting}
use Rattle.lb_mean.specs.Meaning.{means, says, answers}
use Rattle.lb_mean.specs.Visible.{unguarded, guarded, visible_source, mask_at, alone, passes_label, seen_column, policy_of_type, is_granted_by, is_permitted, is_visible, shown_value, shown_from}
use Rattle.lb_mean.specs.Ordered.{sorter, sorts_by, chosen, chosen_by}
use Rattle.lb_mean.specs.Output.{rows_told, rows_of_query}
use Rattle.lb_mean.specs.Answer.{unless_refused, query_answer}
use Rattle.lb_mean.specs.Refused.{first_some}
use Rattle.lb_mean.specs.Frame.{Agrees}
use Rattle.lb_mean.specs.Laws.{mention_of, mentioned_by_columns, mentioned_by_permissions, mentioned_by_masks, SameHeldIn, SessionsFrame}
use Rattle.lb_mean.proofs.Agreeing.{first, second, weaker}
use Rattle.lb_mean.proofs.Holding.{other, Held, Holds, readable_same, given_alike, access_same}
use Rattle.lb_mean.proofs.Apart.{SeenAlike, expr_alike, cond_alike, query_alike}

module _ (C : Cat) (c : Cred) (labels : List CredLabel) (T : Tables) (day : ℤ) where
  abbrev pub d : Cred
  d = other c labels

  abbrev pub W : Setting
  W = unguarded C c T day

  abbrev pub V : Setting
  V = unguarded C d T day

  abbrev pub Same : Mentions → Type 0
  Same = Agrees (Held c labels C)

  -- ---- permissions and masks, which read tables whole

  abbrev Whole : Mention → Type 0
  Whole = SeenAlike c labels day (policy_named C) W.sources V.sources

  whole_same : (m : Mention) → Held c labels C m → Whole m
  whole_same (table n) h = refl
  whole_same (policy p) h = h
  whole_same (label p l) h = h

  stored_expr : (e : Expr) → Same (in_expr e) → means W e ≡ means V e
  stored_expr e h = expr_alike c labels day (policy_named C) W.sources V.sources e (weaker (Held c labels C) Whole whole_same (in_expr e) h)

  stored_cond : (e : Cond) → Same (in_cond e) → says W e ≡ says V e
  stored_cond e h = cond_alike c labels day (policy_named C) W.sources V.sources e (weaker (Held c labels C) Whole whole_same (in_cond e) h)

  -- ---- rows

  passes_same : (cs : List ColumnRec) (row : List Value) → Same (mentioned_by_columns cs) → passes_label W (map (seen_column W) cs) row ≡ passes_label V (map (seen_column V) cs) row
  passes_same [] row h = refl
  passes_same (k ∷ cs) [] h = refl
  passes_same (k ∷ cs) (x ∷ row) h = λ i.
      readable_same c labels (option_and_then (policy_named C) (policy_of_type k.ty)) x (given_alike c labels C (policy_of_type k.ty) (first (Held c labels C) (mention_of (policy_of_type k.ty)) (mentioned_by_columns cs) h)) i
      && passes_same cs row (second (Held c labels C) (mention_of (policy_of_type k.ty)) (mentioned_by_columns cs) h) i

  abbrev enabled_of : List PermissionRec → List PermissionRec
  enabled_of ps = filter (λ p. p.enabled) ps

  module _ (t : Table) (row : List Value) where
    granted_same : (p : PermissionRec) → Same (in_cond p.condition) → is_granted_by W t row p ≡ is_granted_by V t row p
    granted_same p h = λ i. (stored_cond p.condition h i).test (alone p.correlation t row) >>= λ x. Ok (is_true x)

    abbrev AnyOf : List PermissionRec → Type 0
    AnyOf ps = any_passing (is_granted_by W t row) ps ≡ any_passing (is_granted_by V t row) ps

    one_more : (b : Bool) (p : PermissionRec) (ps : List PermissionRec) → Same (in_cond p.condition) → AnyOf ps → AnyOf (cond b (p ∷ ps) ps)
    one_more true p ps h g = λ i. granted_same p h i >>= λ passes. if passes then Ok true else g i
    one_more false p ps h g = g

    permitted_same : (ps : List PermissionRec) → Same (mentioned_by_permissions ps) → AnyOf (enabled_of ps)
    permitted_same [] h = refl
    permitted_same (p ∷ ps) h = one_more p.enabled p (enabled_of ps) (first (Held c labels C) (in_cond p.condition) (mentioned_by_permissions ps) h) (permitted_same ps (second (Held c labels C) (in_cond p.condition) (mentioned_by_permissions ps) h))

    pub allowed_same : Same (mentioned_by_permissions t.permissions) → is_permitted W t row ≡ is_permitted V t row
    allowed_same = permitted_same t.permissions

    pub visible_same : Same (mentioned_by_columns t.columns) → Same (mentioned_by_permissions t.permissions) → is_visible W t row ≡ is_visible V t row
    visible_same g h = λ i. if passes_same t.columns row g i then (if t.row_control then permitted_same t.permissions h i else Ok true) else Ok false

    -- ---- masks

    abbrev ShownSame : Value → Option MaskRec → Type 0
    ShownSame x m = shown_value W t row m x ≡ shown_value V t row m x

    mask_same : (x : Value) (m : MaskRec) → Same (in_expr m.value) → ShownSame x (Some m)
    mask_same x m h = λ i. (stored_expr m.value h i).value (alone m.correlation t row)

    either_same : (x : Value) (b : Bool) (m n : Option MaskRec) → ShownSame x m → ShownSame x n → ShownSame x (cond b m n)
    either_same x true m n g h = g
    either_same x false m n g h = h

    found_same : (x : Value) (test : MaskRec → Bool) (ms : List MaskRec) → Same (mentioned_by_masks ms) → ShownSame x (find test ms)
    found_same x test [] h = refl
    found_same x test (m ∷ ms) h = either_same x (test m) (Some m) (find test ms) (mask_same x m (first (Held c labels C) (in_expr m.value) (mentioned_by_masks ms) h)) (found_same x test ms (second (Held c labels C) (in_expr m.value) (mentioned_by_masks ms) h))

    at_same : Same (mentioned_by_masks t.masks) → (at : ℕ) (x : Value) → ShownSame x (mask_at t at)
    at_same h at x = either_same x t.column_control (find (λ m. m.enabled && m.column == at) t.masks) None (found_same x (λ m. m.enabled && m.column == at) t.masks h) refl

    from_same : Same (mentioned_by_masks t.masks) → (at : ℕ) (xs : List Value) → shown_from W t row at xs ≡ shown_from V t row at xs
    from_same h at [] = refl
    from_same h at (x ∷ xs) = λ i. at_same h at x i ∷ from_same h (suc at) xs i

  -- ---- what is seen of a table

  module _ (t : Table) (h : SameHeldIn C c d (Some t)) where
    abbrev guards : Mentions
    guards = mentioned_by_permissions t.permissions ++ mentioned_by_masks t.masks

    after : Same (mentioned_by_columns t.columns ++ guards)
    after = second (Held c labels C) (mention_of t.policy) (mentioned_by_columns t.columns ++ guards) h

    pub columns : Same (mentioned_by_columns t.columns)
    columns = first (Held c labels C) (mentioned_by_columns t.columns) guards after

    stored : Same guards
    stored = second (Held c labels C) (mentioned_by_columns t.columns) guards after

    pub permissions : Same (mentioned_by_permissions t.permissions)
    permissions = first (Held c labels C) (mentioned_by_permissions t.permissions) (mentioned_by_masks t.masks) stored

    masks : Same (mentioned_by_masks t.masks)
    masks = second (Held c labels C) (mentioned_by_permissions t.permissions) (mentioned_by_masks t.masks) stored

  source_same : (o : Option Table) (rows : List (List Value)) → SameHeldIn C c d o → visible_source W o rows ≡ visible_source V o rows
  source_same None rows h = refl
  source_same (Some t) rows h = λ i. record {
    columns = map (seen_column W) t.columns;
    rows = passing (λ row. visible_same t row (columns t h) (permissions t h) i) rows;
    shown = λ row. from_same t row (masks t h) 0 row i;
  }

  -- ---- settings of statements

  abbrev pub G : Setting
  G = guarded C c T day

  abbrev pub H : Setting
  H = guarded C d T day

  abbrev pub Seen : Mention → Type 0
  Seen = SeenAlike c labels day (policy_named C) G.sources H.sources

  pub mention_same : (m : Mention) → Holds c labels C m → Seen m
  mention_same (table n) h = source_same (table_named C n) (rows_of n T) h
  mention_same (policy p) h = h
  mention_same (label p l) h = h

  pub seen_all : (ms : Mentions) → Agrees (Holds c labels C) ms → Agrees Seen ms
  seen_all = weaker (Holds c labels C) Seen mention_same

  pub expr_means : (e : Expr) → Agrees Seen (in_expr e) → means G e ≡ means H e
  expr_means = expr_alike c labels day (policy_named C) G.sources H.sources

  pub cond_says : (e : Cond) → Agrees Seen (in_cond e) → says G e ≡ says H e
  cond_says = cond_alike c labels day (policy_named C) G.sources H.sources

  pub query_answers : (q : Query) → Agrees Seen (in_query q) → answers G q ≡ answers H q
  query_answers = query_alike c labels day (policy_named C) G.sources H.sources

  -- ---- answers

  abbrev pub keys_in : List SortKey → Mentions
  keys_in ks = flat_map in_key ks

  order_same : (ks : List SortKey) → Agrees Seen (keys_in ks) → map (sorter G) ks ≡ map (sorter H) ks
  order_same [] h = refl
  order_same (k ∷ ks) h = λ i. record { by = sorts_by (out-Expr k.by); means = expr_means k.by (first Seen (in_expr k.by) (keys_in ks) h) i; direction = k.direction } ∷ order_same ks (second Seen (in_expr k.by) (keys_in ks) h) i

  pub body_same : (s : Select) → Agrees Seen (in_select s) → answers G s.query ≡ answers H s.query
  body_same s h = query_answers s.query (first Seen (in_query s.query) (keys_in s.order) h)

  pub chosen_same : (s : Select) → Agrees Seen (in_select s) → chosen_by G s ≡ chosen_by H s
  chosen_same s h = λ i. chosen (body_same s h i) (order_same s.order (second Seen (in_query s.query) (keys_in s.order) h) i) s.fetch

  told_same : (s : Select) → Agrees Seen (in_select s) → rows_told G s ≡ rows_told H s
  told_same s h = λ i. rows_of_query (body_same s h i) (order_same s.order (second Seen (in_query s.query) (keys_in s.order) h) i) s.fetch

  pub query_same : (checks : _) (s : Select) → Agrees (Holds c labels C) (in_select s) → query_answer checks C c T day s ≡ query_answer checks C d T day s
  query_same checks s h = λ i. unless_refused (first_some (checks C.tables C.policies (Rattle.lb_stmt.specs.declared.write.Stmt.TheVariants.Select s) ∷ access_same c labels C s h i ∷ [])) (told_same s (seen_all (in_select s) h) i)

pub sessions_frame : SessionsFrame
sessions_frame checks C c d T day s same h =
    query_same C c d.labels T day checks s h
    ∙ λ i. query_answer checks C (record { user = same.user i; groups = same.groups i; roles = same.roles i; secadm = same.secadm i; privileges = same.privileges i; labels = d.labels }) T day s
