-- That the rules for stored conditions are steady, fact by fact.
use Rattle.std.specs.Prelude.{ℕ, ◌≡◌, true, List, [], position, slice_get, Some}
use Rattle.std.specs.List.{AllByRecursion}
use Rattle.lb_tree.specs.declared.query.Cond.{Cond}
use Rattle.lb_tree.specs.declared.query.Expr.{Expr}
use Rattle.lb_tree.specs.declared.query.Tab.{Tab}
use Rattle.lb_cat.specs.declared.catalog.ColumnRec.{ColumnRec}
use Rattle.lb_cat.specs.Catalog.{is_column, Cat, Table, Policy, table_named, policy_named, put_table, put_policy}
use Rattle.lb_names.specs.Mentions.{Mentions, in_cond, in_expr, tables_in, policies_in}
use Rattle.lb_names.specs.Sights.{correlation}
use Rattle.lb_alter.specs.Frame.{SameOn}
use Rattle.lb_alter.specs.Named.{HasTable, HasPolicy, HasFoldedNames}
use Rattle.lb_alter.specs.Steady.{stored_deps, IsWider, IsRelabelled, StaysNamed}
use Rattle.lb_alter.specs.Stored.{StoredRules}
use Rattle.lb_alter.specs.Valid.{KeepsRules, KeepsMaskRules, IsValid, IsValidMask}

-- the tables and policies that are mentioned are there
abbrev pub HasMentioned : Cat → Mentions → Type 0
HasMentioned C ms = AllByRecursion (HasTable C) (tables_in ms) × AllByRecursion (HasPolicy C) (policies_in ms)

module _ (K : StoredRules) where
  -- a condition keeps the rules in both catalogues, where they have the same records under what it depends on
  abbrev pub ReadsNoMore : Type 0
  ReadsNoMore = (C D : Cat) (on : Tab) (c : Cond) → HasFoldedNames C → HasFoldedNames D → SameOn (stored_deps C on (in_cond c)) C D → KeepsRules K C on c → KeepsRules K D on c

  -- so does a CASE
  abbrev pub ReadsNoMoreInMask : Type 0
  ReadsNoMoreInMask = (C D : Cat) (on : Tab) (column : List ℕ) (e : Expr) → HasFoldedNames C → HasFoldedNames D → SameOn (stored_deps C on (in_expr e)) C D → KeepsMaskRules K C on column e → KeepsMaskRules K D on column e

  -- the qualified form of a condition mentions what the condition mentions
  abbrev pub KeepsMentions : Type 0
  KeepsMentions = (C : Cat) (on : Tab) (c : Cond) → in_cond (K.qualified_condition C on c) ≡ in_cond c

  -- so does that of a CASE
  abbrev pub KeepsMaskMentions : Type 0
  KeepsMaskMentions = (C : Cat) (on : Tab) (e : Expr) → in_expr (K.qualified_mask C on e) ≡ in_expr e

  -- the tables and policies that a condition mentions are there, where it keeps the rules
  abbrev pub MentionsStand : Type 0
  MentionsStand = (C : Cat) (on : Tab) (c : Cond) → KeepsRules K C on c → HasMentioned C (in_cond c)

  -- so are those that a CASE mentions
  abbrev pub MaskMentionsStand : Type 0
  MaskMentionsStand = (C : Cat) (on : Tab) (column : List ℕ) (e : Expr) → KeepsMaskRules K C on column e → HasMentioned C (in_expr e)

  -- a condition keeps the rules when a policy gets other labels, where the labels that it names stay
  abbrev pub OutlastsLabels : Type 0
  OutlastsLabels = (C : Cat) (p q : Policy) (on : Tab) (c : Cond) → policy_named C p.name ≡ Some p → IsRelabelled p q → AllByRecursion (StaysNamed p q) (in_cond c) → KeepsRules K C on c → KeepsRules K (put_policy q C) on c

  -- so does a CASE
  abbrev pub OutlastsLabelsInMask : Type 0
  OutlastsLabelsInMask = (C : Cat) (p q : Policy) (on : Tab) (column : List ℕ) (e : Expr) → policy_named C p.name ≡ Some p → IsRelabelled p q → AllByRecursion (StaysNamed p q) (in_expr e) → KeepsMaskRules K C on column e → KeepsMaskRules K (put_policy q C) on column e

  -- a qualified condition keeps the rules when a table gets wider
  abbrev pub OutlastsColumns : Type 0
  OutlastsColumns = (C : Cat) (t u : Table) (on : Tab) (c : Cond) → table_named C t.name ≡ Some t → IsWider t u → K.are_qualified c ≡ true → KeepsRules K C on c → KeepsRules K (put_table u C) on c

  -- so does a qualified CASE
  abbrev pub OutlastsColumnsInMask : Type 0
  OutlastsColumnsInMask = (C : Cat) (t u : Table) (on : Tab) (column : List ℕ) (e : Expr) → table_named C t.name ≡ Some t → IsWider t u → K.are_qualified_in e ≡ true → KeepsMaskRules K C on column e → KeepsMaskRules K (put_table u C) on column e

  -- the qualified form of a condition that keeps the rules keeps them, over the table by the name that the condition calls it by
  abbrev pub QualifiedKeeps : Type 0
  QualifiedKeeps = (C : Cat) (t : Table) (on : Tab) (c : Cond) → table_named C on.table ≡ Some t → KeepsRules K C on c → IsValid K C t (record { name = []; correlation = correlation on; condition = K.qualified_condition C on c; enabled = true })

  -- so does that of a CASE, for the column at its place among the table's
  abbrev pub QualifiedMaskKeeps : Type 0
  QualifiedMaskKeeps = (C : Cat) (t : Table) (on : Tab) (at : ℕ) (c : ColumnRec) (e : Expr) → table_named C on.table ≡ Some t → position (is_column c.name) t.columns ≡ Some at → slice_get t.columns at ≡ Some c → KeepsMaskRules K C on c.name e → IsValidMask K C t (record { name = []; column = at; correlation = correlation on; value = K.qualified_mask C on e; enabled = true })
