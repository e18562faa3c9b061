-- The rules of names and types over the tables and policies of a catalogue.
use Rattle.std.specs.Prelude.{ℕ, min, List, map, find, Option, None, Some, option_map, is_some, Result, Ok, Err}
use Rattle.std.specs.Option.{option_and_then, option_or}
use Rattle.lb_label.specs.LabelText.{read_label}
use Rattle.lb_stmt.specs.declared.write.Stmt.{Stmt}
use Rattle.lb_cat.specs.declared.catalog.ColumnRec.{ColumnRec}
use Rattle.lb_cat.specs.declared.refusal.Refusal.{Refusal}
use Rattle.lb_cat.specs.declared.refusal.Refusal.TheVariants as refusals
use Rattle.lb_cat.specs.Catalog.{Cat, Table, Policy, is_table, is_policy, label_named}
use Rattle.lb_names.specs.declared.refused.Refused.{Refused}
use Rattle.lb_names.specs.declared.refused.Refused.TheVariants as refused
use Rattle.lb_names.specs.Kinds.{kind_of}
use Rattle.lb_names.specs.Scopes.{Field, Catalogue}
use Rattle.lb_names.specs.Statements.{names_refused, types_refused, permission_names_refused, permission_types_refused, permission_qualified, mask_names_refused, mask_types_refused, mask_qualified}
use Rattle.lb_names.specs.Qualified.{are_qualified, are_qualified_in}
use Rattle.lb_alter.specs.Stored.{StoredRules}

-- a column as names and types see it
abbrev pub field_of : ColumnRec → Field
field_of c = record { name = c.name; kind = kind_of c.ty }

-- the columns of a table
abbrev pub fields_of : Table → List Field
fields_of t = map field_of t.columns

-- the byte at which a text stops being a label text of the policy; one beyond 4,294,967,295 is told as that number
abbrev pub fault_in : Policy → List ℕ → Option ℕ
fault_in p t = fault_of (read_label p.shape t) where
  fault_of : Result (List (List ℕ)) ℕ → Option ℕ
  fault_of (Ok read) = None
  fault_of (Err at) = Some (min at 4294967295)

-- the tables and policies as names and types see them
abbrev pub named_by : List Table → List Policy → Catalogue
named_by tables policies = record {
  columns = λ n. option_map fields_of (find (is_table n) tables);
  has_policy = λ n. is_some (find (is_policy n) policies);
  has_label = λ n l. is_some (option_and_then (λ p. label_named p l) (find (is_policy n) policies));
  label_fault = λ n t. option_and_then (λ p. fault_in p t) (find (is_policy n) policies);
}

-- those of a catalogue
abbrev pub named_in : Cat → Catalogue
named_in C = named_by C.tables C.policies

-- the refusal by a name or a type, as a reply tells it
abbrev pub refusal_for : Refused → Refusal
refusal_for (refused.Unknown n) = refusals.Unknown n
refusal_for (refused.Exists n) = refusals.Exists n
refusal_for (refused.BadLabel at) = refusals.BadLabel at
refusal_for (refused.Types at) = refusals.Types at

-- the first refusal of a query or a write by names, and then by types
abbrev pub statement_refused : List Table → List Policy → Stmt → Option Refusal
statement_refused tables policies s = option_map refusal_for (option_or (names_refused (named_by tables policies) s) (types_refused (named_by tables policies) s))

-- the rules for stored conditions
abbrev pub stored_rules : StoredRules
stored_rules = record {
  condition_names = λ C on c. option_map refusal_for (permission_names_refused (named_in C) on c);
  mask_names = λ C on e. option_map refusal_for (mask_names_refused (named_in C) on e);
  condition_types = λ C on c. option_map refusal_for (permission_types_refused (named_in C) on c);
  mask_types = λ C on column e. option_map refusal_for (mask_types_refused (named_in C) on column e);
  qualified_condition = λ C on c. permission_qualified (named_in C) on c;
  qualified_mask = λ C on e. mask_qualified (named_in C) on e;
  are_qualified = are_qualified;
  are_qualified_in = are_qualified_in;
}
