-- What a session may read and write by labels depends on what it holds of the policy alone.
use Rattle.std.proofs.Common.{◌≡◌, refl, ap, ℕ, List, [], ◌∷◌, ◌++◌, Bool, true, false, cond, Option, Some, None, map}
use Rattle.std.specs.Prelude.{filter, option_map, is_none}
use Rattle.std.specs.List.{AllByRecursion, flat_map}
use Rattle.std.specs.Option.{option_and_then}
use Rattle.lb_base.specs.declared.value.Value.{Value}
use Rattle.lb_base.specs.declared.value.Value.TheVariants as values
use Rattle.lb_label.specs.declared.kind.Access.TheVariants.{Read, Write}
use Rattle.lb_label.specs.Exemption.{is_exempt}
use Rattle.lb_label.specs.Label.{label_of}
use Rattle.lb_label.specs.LabelText.{label_text}
use Rattle.lb_label.specs.Rules.{failure}
use Rattle.lb_tree.specs.declared.query.Select.{Select}
use Rattle.lb_tree.specs.declared.query.SortKey.{SortKey}
use Rattle.lb_tree.specs.declared.query.Cond.TheViews.{out-Expr}
use Rattle.lb_cat.specs.declared.catalog.ColumnRec.{ColumnRec}
use Rattle.lb_cat.specs.declared.cred.Cred.{Cred}
use Rattle.lb_cat.specs.declared.cred.CredLabel.{CredLabel}
use Rattle.lb_cat.specs.declared.refusal.NeededPrivilege.TheVariants as needed
use Rattle.lb_cat.specs.declared.refusal.Refusal.TheVariants as refusals
use Rattle.lb_cat.specs.Catalog.{Cat, Table, Policy, table_named, policy_named}
use Rattle.lb_cat.specs.Credentials.{label_or_empty}
use Rattle.lb_names.specs.Mentions.{Mention, Mentions, in_query, in_key, in_select, tables_in}
use Rattle.lb_mean.specs.Labels.{read_failure, write_failure, is_readable, label_to_char, readable_label}
use Rattle.lb_mean.specs.Answer.{access_refused}
use Rattle.lb_mean.specs.Frame.{Agrees}
use Rattle.lb_mean.specs.Laws.{mention_of, mentioned_by_columns, mentioned_by_permissions, mentioned_by_masks, HoldsSame, SameHeld, SameHeldIn, SameHolding}
use Rattle.lb_mean.specs.Named.{Use, Uses}
use Rattle.lb_mean.specs.Ordered.{sorts_by}
use Rattle.lb_mean.specs.Refused.{first_some, privilege_lacked, columns_of, component_at, column_refused, label_securing, policy_of_table, is_used, use_refused_in, use_refused, output_names, is_expression, order_uses, tables_used, columns_refused, masks_refused}
use Rattle.lb_mean.specs.Uses.{uses_in}
use Rattle.lb_mean.proofs.Agreeing.{first, second}
use Rattle.lb_mean.proofs.Lists.{all_two, all_flat, all_turned, mapped_same}
use Rattle.lb_mean.proofs.Used.{AtUse, InUses, expr_uses_held, query_uses_held}

-- a session, and one that may hold other labels and exemptions
module _ (c : Cred) (labels : List CredLabel) where
  abbrev pub other : Cred
  other = record { user = c.user; groups = c.groups; roles = c.roles; secadm = c.secadm; privileges = c.privileges; labels = labels }

  abbrev pub Alike : Option Policy → Type 0
  Alike = HoldsSame c other

  -- ---- labels

  pub read_same : (p : Policy) → Alike (Some p) → (parts : List ℕ) → read_failure c p parts ≡ read_failure other p parts
  read_same p h parts = λ i. failure Read p.shape (label_of p.shape (label_or_empty p.shape (h i).read)) (λ rule. is_exempt (h i).exempt rule) (label_of p.shape parts)

  pub write_same : (p : Policy) → Alike (Some p) → (parts : List ℕ) → write_failure c p parts ≡ write_failure other p parts
  write_same p h parts = λ i. failure Write p.shape (label_of p.shape (label_or_empty p.shape (h i).write)) (λ rule. is_exempt (h i).exempt rule) (label_of p.shape parts)

  pub readable_same : (o : Option Policy) (x : Value) → Alike o → is_readable c o x ≡ is_readable other o x
  readable_same None x h = refl
  readable_same (Some p) values.Null h = refl
  readable_same (Some p) (values.Int n) h = refl
  readable_same (Some p) (values.Text t) h = refl
  readable_same (Some p) (values.Date d) h = refl
  readable_same (Some p) (values.Label parts) h = λ i. is_none (read_same p h parts.items i)

  pub text_same : (o : Option Policy) (x : Value) → Alike o → label_to_char c o x ≡ label_to_char other o x
  text_same None x h = refl
  text_same (Some p) values.Null h = refl
  text_same (Some p) (values.Int n) h = refl
  text_same (Some p) (values.Text t) h = refl
  text_same (Some p) (values.Date d) h = refl
  text_same (Some p) (values.Label parts) h = λ i. values.Text (label_text p.shape (readable_label (λ rule. is_exempt (h i).exempt rule) p.shape (label_of p.shape (label_or_empty p.shape (h i).read)) (label_of p.shape parts.items)))

  -- ---- protected columns

  module _ (C : Cat) where
    abbrev pub Held : Mention → Type 0
    Held = SameHeld C c other

    abbrev pub Holds : Mention → Type 0
    Holds = SameHolding C c other

    pub given_alike : (p : Option (List ℕ)) → Agrees Held (mention_of p) → Alike (option_and_then (policy_named C) p)
    given_alike None h = tt
    given_alike (Some p) h = h.0

    pub policy_alike : (t : Table) → SameHeldIn C c other (Some t) → Alike (policy_of_table C t)
    policy_alike t h = given_alike t.policy (first Held (mention_of t.policy) (mentioned_by_columns t.columns ++ (mentioned_by_permissions t.permissions ++ mentioned_by_masks t.masks)) h)

    column_same : (o : Option Policy) → Alike o → (column : ColumnRec) → column_refused c o column ≡ column_refused other o column
    column_same None h column = refl
    column_same (Some p) h column = λ i. option_and_then (λ l. option_map (λ f. refusals.ColumnRead column.name (component_at p f.component) f.rule) (read_same p h l.parts.items i)) (label_securing p column)

    used_in_same : (u : Use) (o : Option Table) → SameHeldIn C c other o → option_and_then (use_refused_in C c u) o ≡ option_and_then (use_refused_in C other u) o
    used_in_same u None h = refl
    used_in_same u (Some t) h = λ i. first_some (map (λ column. column_same (policy_of_table C t) (policy_alike t h) column i) (filter (is_used u) t.columns))

    use_same : (u : Use) → AtUse (columns_of C) Holds u → use_refused C c u ≡ use_refused C other u
    use_same u h = used_in_same u (table_named C u.item.tab.table) h

    pub all_used : (us : List Use) → AllByRecursion (AtUse (columns_of C) Holds) us → map (use_refused C c) us ≡ map (use_refused C other) us
    all_used us h = mapped_same (use_refused C c) (use_refused C other) us (all_turned (AtUse (columns_of C) Holds) use_same us h)

    -- ---- queries

    abbrev keys_in : List SortKey → Mentions
    keys_in ks = flat_map in_key ks

    abbrev uses_of_keys : (SortKey → Bool) → List SortKey → List Uses
    uses_of_keys test ks = map (λ k. uses_in (columns_of C) k.by) (filter test ks)

    keys_held : (test : SortKey → Bool) (ks : List SortKey) → Agrees Holds (keys_in ks) → AllByRecursion (InUses (columns_of C) Holds) (uses_of_keys test ks)
    keys_held test [] h = tt
    keys_held test (k ∷ ks) h = go (test k) (keys_held test ks (second Holds (in_key k) (keys_in ks) h))
      where
        go : (b : Bool) → AllByRecursion (InUses (columns_of C) Holds) (uses_of_keys test ks)
            → AllByRecursion (InUses (columns_of C) Holds) (map (λ x. uses_in (columns_of C) x.by) (cond b (k ∷ filter test ks) (filter test ks)))
        go true rest = (expr_uses_held (columns_of C) Holds k.by (first Holds (in_key k) (keys_in ks) h), rest)
        go false rest = rest

    pub columns_same : (s : Select) → Agrees Holds (in_select s) → columns_refused C c s ≡ columns_refused C other s
    columns_same s h = ap first_some (all_used (tables_used C s)
        (all_two (AtUse (columns_of C) Holds) _ (flat_map (λ u. u.tables) (order_uses C s))
        ((query_uses_held (columns_of C) Holds s.query (first Holds (in_query s.query) (keys_in s.order) h)).0 (flat_map (λ u. u.columns) (order_uses C s)))
        (all_flat (AtUse (columns_of C) Holds) (λ u. u.tables) (order_uses C s)
        (keys_held (λ k. is_expression (output_names s.query) (sorts_by (out-Expr k.by))) s.order (second Holds (in_query s.query) (keys_in s.order) h)))))

    pub access_same : (s : Select) → Agrees Holds (in_select s) → access_refused C c s ≡ access_refused C other s
    access_same s h = λ i. first_some (map (privilege_lacked C c needed.Select) (tables_in (in_select s)) ++ (columns_same s h i ∷ masks_refused C s ∷ []))
