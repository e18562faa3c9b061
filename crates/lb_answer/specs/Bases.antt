-- What each write rests on, over the meaning of expressions and conditions, visible rows, permissions, masks and labels.
use Rattle.std.specs.Prelude.{Bool, false, if◌then◌else◌, List, [], ◌∷◌, map, filter, filter_map, find, Option, Some, None, option_map, Ok}
use Rattle.std.specs.List.{flat_map}
use Rattle.std.specs.Option.{option_to_list}
use Rattle.std.specs.Str.{bytes_eq}
use Rattle.lb_base.specs.declared.value.Value.{Value}
use Rattle.lb_base.specs.declared.value.Value.TheVariants as values
use Rattle.lb_base.specs.Evaluated.{Evaluated}
use Rattle.lb_label.specs.declared.access.Fail.{Fail}
use Rattle.lb_tree.specs.declared.query.Cond.{Cond}
use Rattle.lb_tree.specs.declared.query.Expr.{Expr}
use Rattle.lb_tree.specs.declared.query.Tab.{Tab}
use Rattle.lb_tree.specs.declared.query.Select.{Select}
use Rattle.lb_stmt.specs.declared.write.Update.{Update}
use Rattle.lb_stmt.specs.declared.write.Delete.{Delete}
use Rattle.lb_cat.specs.declared.cred.Cred.{Cred}
use Rattle.lb_cat.specs.Catalog.{Cat, Table, Policy}
use Rattle.lb_cat.specs.Credentials.{held_of}
use Rattle.lb_mean.specs.Setting.{Setting, Piece, JoinedRow, Frame, row_frame}
use Rattle.lb_mean.specs.Labels.{write_failure}
use Rattle.lb_mean.specs.Environment.{cell_named}
use Rattle.lb_mean.specs.Conditions.{outputs}
use Rattle.lb_mean.specs.Joined.{piece}
use Rattle.lb_names.specs.Sights.{correlation}
use Rattle.lb_mean.specs.Queries.{where_true}
use Rattle.lb_mean.specs.Expressions.{all_values}
use Rattle.lb_mean.specs.Meaning.{says, means, answers}
use Rattle.lb_mean.specs.Visible.{is_visible, is_permitted}
use Rattle.lb_mean.specs.Named.{QueryUses, name_of_item}
use Rattle.lb_mean.specs.Uses.{uses_in, uses_in_query, from_item}
use Rattle.lb_mean.specs.Refused.{Shown, MaskedUse, columns_of, masked_use, shown_by, shown_by_name}
use Rattle.lb_answer.specs.Basis.{Basis, MaskedValue}

-- ---- labels

-- the first component and rule by which the session can't write data with the label, by the table's policy
abbrev pub label_failure : Cred → Option Policy → Value → Option Fail
label_failure c (Some p) (values.Label parts) = write_failure c p parts.items
label_failure c _ _ = None

-- the label for writing that the session holds of the table's policy; holding none isn't holding the empty one
abbrev pub label_held : Cred → Option Policy → Option Value
label_held c None = None
label_held c (Some p) = option_map values.Label (held_of c p.name).write

-- ---- masked columns in values

-- the masked column in one row: its own value, and what is shown of it
abbrev pub masked_in : MaskedUse → Piece → MaskedValue
masked_in u p = record { mask = u.mask.name; own = cell_named u.shown.column p.columns p.cells; shown = cell_named u.shown.column p.columns p.shown }

-- the row of the use's table in a joined row
abbrev pub is_row_of : MaskedUse → Piece → Bool
is_row_of u p = bytes_eq p.correlation (name_of_item u.shown.item)

-- the rows that a use goes over: in an aggregate those of the group
abbrev pub rows_used : MaskedUse → Frame → List JoinedRow
rows_used u f = if u.shown.aggregated then f.group else f.row ∷ []

-- the masked column in each row that the use goes over
abbrev pub masked_values : Frame → MaskedUse → List MaskedValue
masked_values f u = flat_map (λ row. option_to_list (option_map (masked_in u) (find (is_row_of u) row))) (rows_used u f)

-- the masked columns among these uses, in the same order
abbrev pub masked_among : Cat → Frame → List Shown → List MaskedValue
masked_among C f uses = flat_map (masked_values f) (filter_map (masked_use C) uses)

-- ---- the bases

-- in the setting of permissions and masks and in that of the statement, for a target and its policy
module _ (C : Cat) (c : Cred) (W S : Setting) (t : Table) (p : Option Policy) where
  -- the row that an UPDATE or DELETE tests, under the target's correlation name
  abbrev pub target_row : Tab → List Value → Frame
  target_row tab row = row_frame (piece (S.sources tab.table) (correlation tab) row ∷ [])

  -- WHERE is true for the row
  abbrev pub is_kept : Tab → Option Cond → List Value → Evaluated Bool
  is_kept tab filter row = where_true (option_map (says S) filter) (target_row tab row ∷ [])

  -- the masked columns that a value of SET uses, by the order of the text
  abbrev pub masked_in_value : Tab → List Value → Expr → List MaskedValue
  masked_in_value tab row e = masked_among C (target_row tab row) (flat_map (shown_by_name (from_item (columns_of C) tab ∷ [])) (uses_in (columns_of C) e).columns)

  -- UPDATE makes its new rows from the old ones
  abbrev pub update_basis : Update → Basis (List Value)
  update_basis u = record {
    sees = is_visible W t;
    keeps = is_kept u.target u.filter;
    values = λ row. all_values (map (λ a. means S a.value) u.assignments) (target_row u.target row ∷ []);
    masked = λ row. flat_map (λ a. masked_in_value u.target row a.value) u.assignments;
    permits = is_permitted W t;
    fails = label_failure c p;
    own_label = label_held c p;
  }

  -- DELETE makes no rows
  abbrev pub delete_basis : Delete → Basis (List Value)
  delete_basis d = record {
    sees = is_visible W t;
    keeps = is_kept d.target d.filter;
    values = λ row. Ok [];
    masked = λ row. [];
    permits = is_permitted W t;
    fails = label_failure c p;
    own_label = label_held c p;
  }

  -- INSERT asks nothing of what the session sees of the target, and has no WHERE of its own
  abbrev pub insert_basis : {X : Type 0} → (X → Evaluated (List Value)) → (X → List MaskedValue) → Basis X
  insert_basis made used = record {
    sees = λ row. Ok false;
    keeps = λ row. Ok false;
    values = made;
    masked = used;
    permits = is_permitted W t;
    fails = label_failure c p;
    own_label = label_held c p;
  }

  -- INSERT with VALUES makes a row from each row of expressions, which name no columns
  abbrev pub values_basis : Basis (List Expr)
  values_basis = insert_basis (λ es. all_values (map (means S) es) []) (λ es. [])

  -- the masked columns in the select list of INSERT's query, for one of its rows or groups
  abbrev pub masked_in_query : QueryUses → Frame → List MaskedValue
  masked_in_query q f = masked_among C f (flat_map (shown_by q.from) q.items)

  -- INSERT with a query makes a row from the outputs of each row or group, unmasked; its labels stay labels
  abbrev pub query_basis : Select → Basis Frame
  query_basis s = insert_basis (λ f. outputs (answers S s.query).items (f ∷ [])) (masked_in_query (uses_in_query (columns_of C) s.query))
