-- Security labels: made and dropped.
use Rattle.std.specs.Prelude.{ℕ, ◌+◌, ◌^◌, Bool, false, not, ◌&&◌, ◌||◌, List, [], ◌∷◌, ◌++◌, map, filter, find, zip, length, sum_by, slice_index_or, Option, None, Some, is_some, is_none, option_map}
use Rattle.std.specs.List.{list_any, position_or_len}
use Rattle.std.specs.Str.{bytes_eq}
use Rattle.lb_label.specs.declared.kind.ComponentKind.{ComponentKind}
use Rattle.lb_label.specs.declared.kind.ComponentKind.TheVariants.{Set, Array, Tree}
use Rattle.lb_label.specs.Component.{Definition, empty_component, numbers, number_of}
use Rattle.lb_label.specs.Label.{part_of}
use Rattle.lb_label.specs.LabelText.{is_named}
use Rattle.lb_stmt.specs.declared.change.LabelName.{LabelName}
use Rattle.lb_stmt.specs.declared.change.LabelPart.{LabelPart}
use Rattle.lb_cat.specs.declared.catalog.ColumnRec.{ColumnRec}
use Rattle.lb_cat.specs.declared.refusal.Refusal.{Refusal}
use Rattle.lb_cat.specs.declared.refusal.Refusal.TheVariants as refusals
use Rattle.lb_rows.specs.Tables.{Tables}
use Rattle.lb_rows.specs.Lists.{without}
use Rattle.lb_cat.specs.Catalog.{Cat, Table, Policy, User, label_named, is_label, is_among}
use Rattle.lb_cat.specs.Holdings.{holding_of, holds_label, is_same_name}
use Rattle.lb_alter.specs.ChangePolicy.{has_policy, table_name}
use Rattle.lb_alter.specs.Refusing.{◌>>◌, Changed, when, earliest, each_passes, the_policy, the_label, secadm, alters_policy, in_use}
use Rattle.lb_cat.specs.OrRefused.{OrRefused, ◌>>=◌}
use Rattle.lb_alter.specs.Stored.{calls_label}

-- the place of a component in the policy, and its definition
abbrev pub place_in : Policy → List ℕ → ℕ
place_in p n = position_or_len (λ m. bytes_eq m n) p.components

-- the definition of the component in the policy
abbrev pub definition_in : Policy → List ℕ → Definition
definition_in p n = slice_index_or p.shape (place_in p n) (empty_component Set)

-- refused where the component has no such element
abbrev pub unknown_element : Definition → List ℕ → Option Refusal
unknown_element c e = when (is_none (number_of c e)) (refusals.Unknown e)

-- two different elements of an ARRAY
abbrev pub are_two : ComponentKind → List (List ℕ) → Bool
are_two Array (e ∷ es) = list_any (λ f. not (bytes_eq e f)) es
are_two _ _ = false

-- one part: its component is of the policy and new, its elements are of the component, and an ARRAY has one of them
abbrev pub part_refusal : Policy → List (List ℕ) → LabelPart → Option Refusal
part_refusal p before x = earliest
    (when (not (is_among p.components x.component)) (refusals.Unknown x.component)
    ∷ when (is_among before x.component) (refusals.Exists x.component)
    ∷ each_passes (unknown_element (definition_in p x.component)) x.elements
    ∷ when (are_two (definition_in p x.component).kind x.elements) (refusals.BadLabel (place_in p x.component))
    ∷ [])

-- the first refusal of a part, in the order of the parts
abbrev pub parts_refusal : Policy → List (List ℕ) → List LabelPart → Option Refusal
parts_refusal p before [] = None
parts_refusal p before (x ∷ xs) = earliest (part_refusal p before x ∷ parts_refusal p (x.component ∷ before) xs ∷ [])

-- the elements that are named, each once, by their numbers
abbrev pub elements_named : Definition → List (List ℕ) → List ℕ
elements_named c names = filter (is_named c names) (numbers (length c.elements))

-- the part that stands for elements of a component, by their texts
abbrev pub part_named : Definition → List (List ℕ) → ℕ
part_named c names = part_of c.kind (elements_named c names)

-- the elements of the part, if there is one
abbrev pub elements_or_none : Option LabelPart → List (List ℕ)
elements_or_none None = []
elements_or_none (Some x) = x.elements

-- the elements that the statement lists for the component
abbrev pub listed_for : List LabelPart → List ℕ → List (List ℕ)
listed_for xs n = elements_or_none (find (λ x. bytes_eq x.component n) xs)

-- the parts of the label, for each component of the policy in its order
abbrev pub label_parts : Policy → List LabelPart → List ℕ
label_parts p xs = map (λ c. part_named c.1 (listed_for xs c.0)) (zip p.components p.shape)

-- CREATE SECURITY LABEL
abbrev pub create_label : Cat → Tables → List ℕ → LabelName → List LabelPart → OrRefused Changed
create_label C T user l xs = do
  secadm C user
  p ← the_policy C l.policy
  when (is_some (label_named p l.label)) (refusals.Exists l.label)
  parts_refusal p [] xs
  alters_policy C T (record p { labels = p.labels ++ record { name = l.label; parts = record { items = label_parts p xs } } ∷ [] })

-- the name of a user
abbrev pub user_name : User → List ℕ
user_name u = u.name

-- the user holds the label
abbrev pub holds : LabelName → User → Bool
holds l u = holds_label l.label (holding_of l.policy u)

-- the label is on a column of the table, which has the policy
abbrev pub is_secured_with : List ℕ → ColumnRec → Bool
is_secured_with label c = is_same_name label c.secured

-- the table has the policy, and a column that is secured with the label
abbrev pub secures_with : LabelName → Table → Bool
secures_with l t = has_policy l.policy t && list_any (is_secured_with l.label) t.columns

-- DROP SECURITY LABEL
abbrev pub drop_label : Cat → Tables → List ℕ → LabelName → OrRefused Changed
drop_label C T user l = do
  secadm C user
  p ← the_policy C l.policy
  x ← the_label p l.label
  in_use l.label (option_map user_name (find (holds l) C.users))
  in_use l.label (option_map table_name (find (λ t. secures_with l t || calls_label l.policy l.label t) C.tables))
  alters_policy C T (record p { labels = without (is_label l.label) p.labels })
