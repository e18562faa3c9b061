-- Security label components and policies.
use Rattle.std.specs.Prelude.{ℕ, ◌+◌, nat_lt, Bool, true, false, ◌||◌, List, [], ◌∷◌, map, filter, filter_map, find, length, Option, None, Some, is_some, is_none, option_map, Ok}
use Rattle.lb_base.specs.declared.key.Key.TheVariants as keys
use Rattle.lb_label.specs.declared.kind.ComponentKind.{ComponentKind}
use Rattle.lb_label.specs.declared.kind.ComponentKind.TheVariants.{Set, Array, Tree}
use Rattle.lb_label.specs.declared.component.ElementFault.{ElementFault}
use Rattle.lb_label.specs.declared.component.ElementFault.TheVariants as faults
use Rattle.lb_label.specs.Component.{Definition, empty_component, refusal, with_element}
use Rattle.lb_stmt.specs.declared.change.ComponentDef.{ComponentDef}
use Rattle.lb_stmt.specs.declared.change.ComponentDef.TheVariants as definitions
use Rattle.lb_stmt.specs.declared.change.PolicyDef.{PolicyDef}
use Rattle.lb_stmt.specs.declared.change.WriteOption.{WriteOption}
use Rattle.lb_stmt.specs.declared.change.WriteOption.TheVariants as options
use Rattle.lb_cat.specs.declared.catalog.LabelRec.{LabelRec}
use Rattle.lb_cat.specs.declared.refusal.Refusal.{Refusal}
use Rattle.lb_cat.specs.declared.refusal.Refusal.TheVariants as refusals
use Rattle.lb_cat.specs.declared.refusal.LimitOf.TheVariants as limits
use Rattle.lb_rows.specs.Tables.{Tables}
use Rattle.lb_cat.specs.Catalog.{Cat, Table, Policy, Component, policy_named, component_named, is_among, put_policy, put_component, drop_policy, drop_component}
use Rattle.lb_cat.specs.Holdings.{is_same_name, has_holding_of, without_holding}
use Rattle.lb_alter.specs.ChangeTable.{user_key}
use Rattle.lb_alter.specs.Refusing.{◌>>◌, Changed, when, earliest, found, the_policy, secadm, done, in_use}
use Rattle.lb_cat.specs.OrRefused.{OrRefused, ◌>>=◌}
use Rattle.lb_alter.specs.Stored.{calls_policy}

-- ---- components

-- SET, ARRAY or TREE
abbrev pub kind_of_definition : ComponentDef → ComponentKind
kind_of_definition (definitions.Set es) = Set
kind_of_definition (definitions.Array es) = Array
kind_of_definition (definitions.Tree root es) = Tree

-- the elements with their parents, where they have one
abbrev pub elements_of : ComponentDef → List (List ℕ × Option (List ℕ))
elements_of (definitions.Set es) = map (λ e. (e, None)) es
elements_of (definitions.Array es) = map (λ e. (e, None)) es
elements_of (definitions.Tree root es) = (root, None) ∷ map (λ e. (e.name, Some e.parent)) es

-- the parent that is named, if there is one
abbrev pub parent_or : Option (List ℕ) → List ℕ
parent_or None = []
parent_or (Some parent) = parent

-- why the element with this number isn't added
abbrev pub element_refusal : ℕ → List ℕ → Option (List ℕ) → Option ElementFault → Option Refusal
element_refusal at element parent None = None
element_refusal at element parent (Some (faults.TooMany most)) = Some (refusals.Limit limits.Elements most)
element_refusal at element parent (Some faults.BadElement) = Some (refusals.BadLabel at)
element_refusal at element parent (Some faults.Repeated) = Some (refusals.Exists element)
element_refusal at element parent (Some faults.NoParent) = Some (refusals.Unknown (parent_or parent))
element_refusal at element parent (Some faults.NoMemory) = None

-- the component with these elements more, the first of which has this number
abbrev pub with_elements : ℕ → Definition → List (List ℕ × Option (List ℕ)) → OrRefused Definition
with_elements at c [] = Ok c
with_elements at c (e ∷ es) = do
  element_refusal at e.0 e.1 (refusal c e.0 e.1)
  with_elements (at + 1) (with_element c e.0 e.1) es

-- CREATE SECURITY LABEL COMPONENT: the elements are added in their order
abbrev pub create_component : Cat → Tables → List ℕ → List ℕ → ComponentDef → OrRefused Changed
create_component C T user n d = do
  secadm C user
  when (is_some (component_named C n)) (refusals.Exists n)
  c ← with_elements 0 (empty_component (kind_of_definition d)) (elements_of d)
  done (put_component (record { name = n; definition = c }) C) T (keys.Component n ∷ [])

-- the name of a policy
abbrev pub policy_name : Policy → List ℕ
policy_name p = p.name

-- the policy has a component of that name
abbrev pub has_component : List ℕ → Policy → Bool
has_component n p = is_among p.components n

-- DROP SECURITY LABEL COMPONENT
abbrev pub drop_component_of : Cat → Tables → List ℕ → List ℕ → OrRefused Changed
drop_component_of C T user n = do
  secadm C user
  c ← found n (component_named C n)
  in_use n (option_map policy_name (find (has_component n) C.policies))
  done (drop_component n C) T (keys.Component n ∷ [])

-- ---- policies

-- per component: it is there, and wasn't named before
abbrev pub components_refusal : Cat → List (List ℕ) → List (List ℕ) → Option Refusal
components_refusal C before [] = None
components_refusal C before (n ∷ ns) = earliest
    (when (is_none (component_named C n)) (refusals.Unknown n)
    ∷ when (is_among before n) (refusals.Exists n)
    ∷ components_refusal C (n ∷ before) ns
    ∷ [])

-- what a component is defined as
abbrev pub definition_of : Component → Definition
definition_of c = c.definition

-- what the component of that name is defined as, if it is there
abbrev pub definition_named : Cat → List ℕ → Option Definition
definition_named C n = option_map definition_of (component_named C n)

-- RESTRICT NOT AUTHORIZED WRITE SECURITY LABEL
abbrev pub restricts : WriteOption → Bool
restricts options.Override = false
restricts options.Restrict = true

-- the policy, without labels
abbrev pub new_policy : Cat → PolicyDef → Policy
new_policy C d = record {
  name = d.name;
  components = d.components;
  shape = filter_map (definition_named C) d.components;
  restrict = restricts d.option;
  labels = [];
}

-- CREATE SECURITY POLICY
abbrev pub create_policy : Cat → Tables → List ℕ → PolicyDef → OrRefused Changed
create_policy C T user d = do
  secadm C user
  when (is_some (policy_named C d.name)) (refusals.Exists d.name)
  when (nat_lt 16 (length d.components)) (refusals.Limit limits.Components 16)
  components_refusal C [] d.components
  done (put_policy (new_policy C d) C) T (keys.Policy d.name ∷ [])

-- the table has the policy
abbrev pub has_policy : List ℕ → Table → Bool
has_policy n t = is_same_name n t.policy

-- the name of a table
abbrev pub table_name : Table → List ℕ
table_name t = t.name

-- the name of a label
abbrev pub label_name : LabelRec → List ℕ
label_name l = l.name

-- a label, of some
abbrev pub first_label : List LabelRec → Option (List ℕ)
first_label [] = None
first_label (l ∷ ls) = Some l.name

-- the exemptions for the policy end; the entry of a user is nothing else, since no label is left
abbrev pub drop_policy_of : Cat → Tables → List ℕ → List ℕ → OrRefused Changed
drop_policy_of C T user n = do
  secadm C user
  p ← the_policy C n
  in_use n (option_map table_name (find (λ t. has_policy n t || calls_policy n t) C.tables))
  in_use n (first_label p.labels)
  done
      (record (drop_policy n C) { users = map (without_holding n) C.users })
      T
      (keys.Policy n ∷ map user_key (filter (has_holding_of n) C.users))
