-- What soundness asks of the rules of names and types: how a condition that keeps them fares when the catalogue changes.
use Rattle.std.specs.Prelude.{ℕ, ◌≡◌, ◌≤◌, true, false, List, [], ◌∷◌, take, drop, length, position, slice_get, Option, None, Some, is_some}
use Rattle.std.specs.List.{AllByRecursion, AllZip, list_any}
use Rattle.lb_base.specs.declared.key.Key.{Key}
use Rattle.lb_tree.specs.declared.query.Cond.{Cond}
use Rattle.lb_tree.specs.declared.query.Expr.{Expr}
use Rattle.lb_tree.specs.declared.query.Tab.{Tab}
use Rattle.lb_cat.specs.declared.catalog.ColumnRec.{ColumnRec}
use Rattle.lb_cat.specs.declared.refusal.Refusal.{Refusal}
use Rattle.lb_cat.specs.declared.refusal.Refusal.TheVariants as refusals
use Rattle.lb_cat.specs.Catalog.{is_column, Cat, Table, Policy, label_named, table_named, policy_named, put_table, put_policy}
use Rattle.lb_names.specs.Mentions.{Mention, Mentions, table, policy, label, in_cond, in_expr, tables_in, policies_in}
use Rattle.lb_names.specs.Sights.{correlation}
use Rattle.lb_alter.specs.ChangeTable.{is_label_column}
use Rattle.lb_alter.specs.Deps.{deps_of}
use Rattle.lb_alter.specs.Frame.{SameOn}
use Rattle.lb_alter.specs.Named.{HasTable, HasPolicy, HasFoldedNames}
use Rattle.lb_alter.specs.Stored.{StoredRules}
use Rattle.lb_alter.specs.Valid.{KeepsRules, KeepsMaskRules, IsValid, IsValidMask}

-- what a stored condition depends on beside its own table
abbrev pub stored_deps : Cat → Tab → Mentions → List Key
stored_deps C on ms = deps_of C (table on.table ∷ ms)

-- a column as another one that may be secured otherwise
abbrev pub IsSameColumn : ColumnRec → ColumnRec → Type 0
IsSameColumn c d = (d.name ≡ c.name) × (d.ty ≡ c.ty)

-- the table, which has a column, has the same columns, secured or not, and may have some more that hold no label
pub record IsWider (t u : Table) : Type 0 where
  pub name : u.name ≡ t.name
  pub some : 1 ≤ length t.columns
  pub more : List ColumnRec
  pub same : AllZip IsSameColumn t.columns (take (length t.columns) u.columns)
  pub rest : drop (length t.columns) u.columns ≡ more
  pub plain : list_any is_label_column more ≡ false

-- a policy with the same components, whose labels may be others
pub record IsRelabelled (p q : Policy) : Type 0 where
  pub name : q.name ≡ p.name
  pub components : q.components ≡ p.components
  pub shape : q.shape ≡ p.shape

-- a label of the policy that is named stays
abbrev pub StaysNamed : Policy → Policy → Mention → Type 0
StaysNamed p q (table n) = Unit {0}
StaysNamed p q (policy n) = Unit {0}
StaysNamed p q (label n l) = n ≡ p.name → is_some (label_named p l) ≡ true → is_some (label_named q l) ≡ true

-- What `StaysSound` asks of the rules of names and types.
pub record IsSteady (K : StoredRules) : Type 0 where
  -- they read no more than what the condition depends on, where policies have folded names
  pub reads : (C D : Cat) (on : Tab) (c : Cond) → HasFoldedNames C → HasFoldedNames D → SameOn (stored_deps C on (in_cond c)) C D → KeepsRules K C on c → KeepsRules K D on c
  pub reads_mask : (C D : Cat) (on : Tab) (column : List ℕ) (e : Expr) → HasFoldedNames C → HasFoldedNames D → SameOn (stored_deps C on (in_expr e)) C D → KeepsMaskRules K C on column e → KeepsMaskRules K D on column e
  -- a condition that is qualified names what it named before
  pub mentions : (C : Cat) (on : Tab) (c : Cond) → in_cond (K.qualified_condition C on c) ≡ in_cond c
  pub mask_mentions : (C : Cat) (on : Tab) (e : Expr) → in_expr (K.qualified_mask C on e) ≡ in_expr e
  -- what keeps the rules keeps them when it is qualified, over the table by the name that the condition calls it by
  pub qualifies : (C : Cat) (t : Table) (on : Tab) (c : Cond) → table_named C on.table ≡ Some t → KeepsRules K C on c
      → IsValid K C t (record { name = []; correlation = correlation on; condition = K.qualified_condition C on c; enabled = true })
  pub qualifies_mask : (C : Cat) (t : Table) (on : Tab) (at : ℕ) (c : ColumnRec) (e : Expr) → table_named C on.table ≡ Some t → position (is_column c.name) t.columns ≡ Some at → slice_get t.columns at ≡ Some c → KeepsMaskRules K C on c.name e
      → IsValidMask K C t (record { name = []; column = at; correlation = correlation on; value = K.qualified_mask C on e; enabled = true })
  -- a table that gets wider breaks no condition that is qualified
  pub widens : (C : Cat) (t u : Table) (on : Tab) (c : Cond) → table_named C t.name ≡ Some t → IsWider t u → K.are_qualified c ≡ true → KeepsRules K C on c → KeepsRules K (put_table u C) on c
  pub widens_mask : (C : Cat) (t u : Table) (on : Tab) (column : List ℕ) (e : Expr) → table_named C t.name ≡ Some t → IsWider t u → K.are_qualified_in e ≡ true → KeepsMaskRules K C on column e
      → KeepsMaskRules K (put_table u C) on column e
  -- what a condition names that keeps the rules is there
  pub stands : (C : Cat) (on : Tab) (c : Cond) → KeepsRules K C on c → AllByRecursion (HasTable C) (tables_in (in_cond c)) × AllByRecursion (HasPolicy C) (policies_in (in_cond c))
  pub stands_mask : (C : Cat) (on : Tab) (column : List ℕ) (e : Expr) → KeepsMaskRules K C on column e → AllByRecursion (HasTable C) (tables_in (in_expr e)) × AllByRecursion (HasPolicy C) (policies_in (in_expr e))
  -- a policy that gets other labels breaks no condition whose labels stay
  pub relabels : (C : Cat) (p q : Policy) (on : Tab) (c : Cond) → policy_named C p.name ≡ Some p → IsRelabelled p q → AllByRecursion (StaysNamed p q) (in_cond c) → KeepsRules K C on c → KeepsRules K (put_policy q C) on c
  pub relabels_mask : (C : Cat) (p q : Policy) (on : Tab) (column : List ℕ) (e : Expr) → policy_named C p.name ≡ Some p → IsRelabelled p q → AllByRecursion (StaysNamed p q) (in_expr e) → KeepsMaskRules K C on column e
      → KeepsMaskRules K (put_policy q C) on column e

-- refused where anything is named
abbrev pub plain_refusal : Mentions → Option Refusal
plain_refusal [] = None
plain_refusal (m ∷ ms) = Some (refusals.Unknown [])

-- rules that refuse all masks, and each condition that names anything, by which it is seen that what is asked can be met
abbrev pub plain_rules : StoredRules
plain_rules = record {
  condition_names = λ C on c. plain_refusal (in_cond c);
  mask_names = λ C on e. plain_refusal (in_expr e);
  condition_types = λ C on c. None;
  mask_types = λ C on column e. Some (refusals.Types 0);
  qualified_condition = λ C on c. c;
  qualified_mask = λ C on e. e;
  are_qualified = λ c. true;
  are_qualified_in = λ e. true;
}
