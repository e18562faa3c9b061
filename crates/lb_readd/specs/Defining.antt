-- Statements that change the catalogue, read from left to right by the next token. Each reader follows its production of the
-- grammar; where a keyword may be a name, the reader takes the name, and the next token decides.
use Rattle.std.specs.Prelude.{ℕ, zero, suc, List, [], ◌∷◌, ◌++◌, Bool, true, false, ◌||◌, Option, Some, None, ◌⊎◌}
use Rattle.std.proofs.Common.{inl, inr}
use Rattle.lb_tree.specs.declared.query.Tab.{Tab}
use Rattle.lb_tree.specs.declared.query.Cond.{Cond}
use Rattle.lb_tree.specs.declared.query.Expr.{Expr}
use Rattle.lb_stmt.specs.declared.change.PlainType.{PlainType}
use Rattle.lb_stmt.specs.declared.change.PlainType.TheVariants as plains
use Rattle.lb_stmt.specs.declared.change.ColumnType.{ColumnType}
use Rattle.lb_stmt.specs.declared.change.ColumnType.TheVariants as types
use Rattle.lb_stmt.specs.declared.change.Element.{Element}
use Rattle.lb_stmt.specs.declared.change.Element.TheVariants as elements
use Rattle.lb_stmt.specs.declared.change.Switch.{Switch}
use Rattle.lb_stmt.specs.declared.change.Switch.TheVariants as switches
use Rattle.lb_stmt.specs.declared.change.ControlOf.{ControlOf}
use Rattle.lb_stmt.specs.declared.change.ControlOf.TheVariants as controls
use Rattle.lb_stmt.specs.declared.change.Activation.{Activation}
use Rattle.lb_stmt.specs.declared.change.TreeElement.{TreeElement}
use Rattle.lb_stmt.specs.declared.change.ComponentDef.{ComponentDef}
use Rattle.lb_stmt.specs.declared.change.ComponentDef.TheVariants as components
use Rattle.lb_stmt.specs.declared.change.WriteOption.{WriteOption}
use Rattle.lb_stmt.specs.declared.change.WriteOption.TheVariants as options
use Rattle.lb_stmt.specs.declared.change.LabelPart.{LabelPart}
use Rattle.lb_stmt.specs.declared.change.Change.{Change}
use Rattle.lb_stmt.specs.declared.change.Change.TheVariants as changes
use Rattle.lb_stmt.specs.declared.write.Stmt.{Stmt}
use Rattle.lb_stmt.specs.declared.write.Stmt.TheVariants as stmts
use Rattle.lb_tok.specs.declared.kind.Kind.{Kind}
use Rattle.lb_tok.specs.declared.kind.Kind.TheVariants as kinds
use Rattle.lb_tok.specs.Kinds.{Kinds, only, from_to, names, has}
use Rattle.lb_tok.specs.Words.{name_in}
use Rattle.lb_tok.specs.Changes.{any_is}
use Rattle.lb_readt.specs.Readers.{stop, deep, Reader, seq, give, one, pick, many, after, made, means, may, optional, commas, listed, choose}
use Rattle.lb_readt.specs.Tokens.{name_at, text_at, int_at}
use Rattle.lb_reade.specs.Expressions.{Readers, parens, cond_at, case_at}
use Rattle.lb_readq.specs.Queries.{tab_at, readers, ended}
use Rattle.lb_readg.specs.Granting.{marked, name_or, named_at, label_on, grant_at, revoke_at}

-- ---- columns of a new table

-- what begins a type that is no label's
abbrev pub plain_types : Kinds
plain_types = from_to kinds.Date kinds.Varchar

unfoldable pub width_at : Readers → Reader PlainType
width_at w = made plains.Text (parens w int_at)

unfoldable pub plain_type_at : Readers → Reader PlainType
plain_type_at w =
    pick (only kinds.BigInt) (means kinds.BigInt plains.Int)
    (pick (only kinds.Integer) (means kinds.Integer plains.Int)
    (pick (only kinds.Int) (means kinds.Int plains.Int)
    (pick (only kinds.Varchar) (after kinds.Varchar (width_at w))
    (means kinds.Date plains.Date))))

unfoldable pub type_at : Readers → Reader ColumnType
type_at w = pick (only kinds.Db2SecurityLabel) (means kinds.Db2SecurityLabel types.Label) (made types.Plain (plain_type_at w))

-- NOT NULL | PRIMARY KEY, and whether it is the second
unfoldable pub option_at : Reader Bool
option_at = pick (only kinds.Not) (after kinds.Not (means kinds.Null false)) (after kinds.Primary (means kinds.Key true))

-- what begins an option
abbrev pub in_option : Kinds
in_option = only kinds.Not ++ only kinds.Primary

-- whether NOT NULL is among the options, and whether PRIMARY KEY is
abbrev pub written : List Bool → Bool × Bool
written os = (any_is false os, any_is true os)

unfoldable pub options_at : Reader (Bool × Bool)
options_at = made written (many in_option option_at)

-- [COLUMN] SECURED WITH name
unfoldable pub secured_at : Reader (List ℕ)
secured_at = seq (may kinds.Column) (λ _. after kinds.Secured (after kinds.With name_at))

-- a column with what its options say: whether NOT NULL is written, and whether PRIMARY KEY is
abbrev pub column_of : List ℕ → ColumnType → Option (List ℕ) → Bool × Bool → Element
column_of n t label w = elements.Column (record { name = n; ty = t; not_null = w.0; key = w.1; secured = label })

-- what is written before SECURED WITH, or after it
abbrev pub in_either : Bool × Bool → Bool × Bool → Bool × Bool
in_either before behind = (before.0 || behind.0, before.1 || behind.1)

-- a column after its name
unfoldable pub column_on : Readers → List ℕ → Reader Element
column_on w n = seq (type_at w) (λ t. seq options_at (λ before.
    pick (only kinds.Column ++ only kinds.Secured) (seq secured_at (λ l. made (λ behind. column_of n t (Some l) (in_either before behind)) options_at)) (give (column_of n t None before))))

unfoldable pub key_at : Readers → Reader Element
key_at w = after kinds.Key (made elements.Key (parens w name_at))

-- after a name: where it is PRIMARY, KEY may follow
unfoldable pub element_on : Readers → Bool × List ℕ → Reader Element
element_on w p = choose p.0 (pick (only kinds.Key) (key_at w) (column_on w p.1)) (column_on w p.1)

unfoldable pub element_at : Readers → Reader Element
element_at w = seq (name_or kinds.Primary) (element_on w)

-- what the bracket of CREATE TABLE holds, where d brackets may open before it
unfoldable pub in_table_at : ℕ → Reader (List Element)
in_table_at zero = stop deep
in_table_at (suc d) = listed (element_at (readers d))

unfoldable pub table_policy_at : Reader (Option (List ℕ))
table_policy_at = optional (only kinds.Security) (after kinds.Security (after kinds.Policy name_at))

unfoldable pub create_table_at : ℕ → Reader Change
create_table_at d = after kinds.Table (seq name_at (λ t. seq (parens (readers d) (in_table_at d)) (λ es. made (changes.CreateTable t es) table_policy_at)))

-- ---- changes of a table

-- ACTIVATE | DEACTIVATE, and whether it is the first
unfoldable pub activates_at : Reader Bool
activates_at = pick (only kinds.Activate) (means kinds.Activate true) (means kinds.Deactivate false)

unfoldable pub control_of_at : Reader ControlOf
control_of_at = pick (only kinds.Row) (means kinds.Row controls.Row) (means kinds.Column controls.Column)

unfoldable pub activation_at : Reader Activation
activation_at = seq activates_at (λ a. seq control_of_at (λ c. after kinds.Access (means kinds.Control (record { activate = a; of = c }))))

-- what begins an activation
abbrev pub in_activation : Kinds
in_activation = only kinds.Activate ++ only kinds.Deactivate

unfoldable pub acts_at : List ℕ → Reader Change
acts_at t = seq activation_at (λ a. made (changes.Activate t a) (optional in_activation activation_at))

unfoldable pub new_column_on : Readers → List ℕ → List ℕ → Reader Change
new_column_on w t c = made (changes.AddColumn t c) (plain_type_at w)

-- the type that a word is alone
unfoldable pub type_of : Kind → Option PlainType
type_of kinds.BigInt = Some plains.Int
type_of kinds.Integer = Some plains.Int
type_of kinds.Int = Some plains.Int
type_of kinds.Date = Some plains.Date
type_of k = None

-- a word of a type: the type that it is alone, and its name
unfoldable pub type_word_at : Reader (Option PlainType × Option (List ℕ))
type_word_at = one plain_types (λ t. Some (type_of t.kind, name_in t.content))

-- a column of the type whose word is taken
unfoldable pub typed_on : Readers → List ℕ → List ℕ → Option PlainType → Reader Change
typed_on w t c (Some y) = give (changes.AddColumn t c y)
typed_on w t c None = made (changes.AddColumn t c) (width_at w)

-- after COLUMN and a word of a type: the word names the column where a type follows, else it is the type of a column named COLUMN
unfoldable pub type_word_on : Readers → List ℕ → List ℕ → Option PlainType × Option (List ℕ) → Reader Change
type_word_on w t c (y, Some n) = pick plain_types (new_column_on w t n) (typed_on w t c y)
type_word_on w t c (y, None) = typed_on w t c y

-- a name that is no word of a type
unfoldable pub other_name_at : Reader (List ℕ)
other_name_at = one (from_to kinds.Count kinds.SecLabelToChar ++ from_to kinds.First kinds.Word) (λ t. name_in t.content)

unfoldable pub behind_column_at : Readers → List ℕ → List ℕ → Reader Change
behind_column_at w t c = pick plain_types (seq type_word_at (type_word_on w t c)) (seq other_name_at (new_column_on w t))

unfoldable pub add_policy_at : List ℕ → Reader Change
add_policy_at t = after kinds.Policy (made (changes.AddPolicy t) name_at)

-- a name after ADD, and whether it is SECURITY or COLUMN
abbrev pub added_word_at : Reader ((Bool × Bool) × List ℕ)
added_word_at = marked (λ k. (has (only kinds.Security) k, has (only kinds.Column) k))

unfoldable pub added_on : Readers → List ℕ → (Bool × Bool) × List ℕ → Reader Change
added_on w t p =
    choose (p.0).0 (pick (only kinds.Policy) (add_policy_at t) (new_column_on w t p.1))
    (choose (p.0).1 (behind_column_at w t p.1) (new_column_on w t p.1))

unfoldable pub added_at : Readers → List ℕ → Reader Change
added_at w t = seq added_word_at (added_on w t)

unfoldable pub secure_at : List ℕ → List ℕ → Reader Change
secure_at t c = after kinds.With (made (changes.SecureColumn t c) name_at)

unfoldable pub unsecure_at : List ℕ → List ℕ → Reader Change
unsecure_at t c = after kinds.Column (means kinds.Security (changes.UnsecureColumn t c))

unfoldable pub altered_on : List ℕ → List ℕ → Reader Change
altered_on t c = pick (only kinds.Secured) (seq (named_at kinds.Secured) (λ _. secure_at t c)) (seq (named_at kinds.Drop) (λ _. unsecure_at t c))

-- a name after ALTER COLUMN, and whether it is SECURED or DROP
abbrev pub altered_word_at : Reader ((Bool × Bool) × List ℕ)
altered_word_at = marked (λ k. (has (only kinds.Secured) k, has (only kinds.Drop) k))

-- after COLUMN, which is c, and a name: where the name is SECURED or DROP, the column may be c
unfoldable pub altered_word_on : List ℕ → List ℕ → (Bool × Bool) × List ℕ → Reader Change
altered_word_on t c p =
    choose (p.0).0 (pick (only kinds.With) (secure_at t c) (altered_on t p.1))
    (choose (p.0).1 (pick (only kinds.Column) (unsecure_at t c) (altered_on t p.1)) (altered_on t p.1))

unfoldable pub altered_column_on : List ℕ → Bool × List ℕ → Reader Change
altered_column_on t p = choose p.0 (seq altered_word_at (altered_word_on t p.1)) (altered_on t p.1)

unfoldable pub altered_column_at : List ℕ → Reader Change
altered_column_at t = seq (name_or kinds.Column) (altered_column_on t)

unfoldable pub table_change_on : Readers → List ℕ → Reader Change
table_change_on w t = pick (only kinds.Add) (after kinds.Add (added_at w t)) (pick (only kinds.Alter) (after kinds.Alter (altered_column_at t)) (acts_at t))

unfoldable pub alter_table_at : Readers → Reader Change
alter_table_at w = after kinds.Table (seq name_at (table_change_on w))

-- ---- permissions and masks

unfoldable pub switch_at : Reader Switch
switch_at = pick (only kinds.Enable) (means kinds.Enable switches.Enable) (means kinds.Disable switches.Disable)

unfoldable pub first_switch_at : Reader Switch
first_switch_at = pick (only kinds.Enable ++ only kinds.Disable) switch_at (give switches.Disable)

unfoldable pub replace_at : Reader Bool
replace_at = pick (only kinds.Or) (after kinds.Or (means kinds.Replace true)) (give false)

-- name ON tab FOR
unfoldable pub controlled_at : Reader (List ℕ × Tab)
controlled_at = seq name_at (λ n. after kinds.On (seq tab_at (λ t. means kinds.For (n, t))))

-- ROWS WHERE cond ENFORCED FOR ALL ACCESS
unfoldable pub rows_at : Readers → Reader Cond
rows_at w = after kinds.Rows (after kinds.Where (seq (cond_at w) (λ c. after kinds.Enforced (after kinds.For (after kinds.All (means kinds.Access c))))))

-- COLUMN name RETURN case
unfoldable pub masked_at : Readers → Reader (List ℕ × Expr)
masked_at w = after kinds.Column (seq name_at (λ c. after kinds.Return (made (λ v. (c, v)) (case_at w))))

unfoldable pub permission_at : Readers → Bool → Reader Change
permission_at w r = after kinds.Permission (seq controlled_at (λ p. seq (rows_at w) (λ c.
    made (λ s. changes.CreatePermission (record { replace = r; name = p.0; on = p.1; condition = c; switch = s })) first_switch_at)))

unfoldable pub mask_at : Readers → Bool → Reader Change
mask_at w r = after kinds.Mask (seq controlled_at (λ p. seq (masked_at w) (λ m.
    made (λ s. changes.CreateMask (record { replace = r; name = p.0; on = p.1; column = m.0; value = m.1; switch = s })) first_switch_at)))

unfoldable pub control_at : Readers → Bool → Reader Change
control_at w r = pick (only kinds.Permission) (permission_at w r) (mask_at w r)

-- ---- components, policies and labels

unfoldable pub texts_at : Reader (List (List ℕ))
texts_at = listed text_at

-- the symbol o, then f, then the symbol c
abbrev pub between : {A : Type 0} → Kind → Kind → Reader A → Reader A
between o c f = after o (seq f (λ x. means c x))

unfoldable pub tree_element_at : Reader TreeElement
tree_element_at = seq text_at (λ n. after kinds.Under (made (λ p. record { name = n; parent = p }) text_at))

unfoldable pub tree_at : Reader ComponentDef
tree_at = seq text_at (λ r. after kinds.Root (made (components.Tree r) (commas tree_element_at)))

unfoldable pub component_at : Readers → Reader ComponentDef
component_at w =
    pick (only kinds.Set) (after kinds.Set (made components.Set (between kinds.LeftBrace kinds.RightBrace texts_at)))
    (pick (only kinds.Array) (after kinds.Array (made components.Array (between kinds.LeftBracket kinds.RightBracket texts_at)))
    (after kinds.Tree (parens w tree_at)))

-- a further element of a part, or a further part with its first element
abbrev pub Next : Type 0
Next = List ℕ ⊎ (List ℕ × List ℕ)

-- COMPONENT name text
unfoldable pub part_at : Reader (List ℕ × List ℕ)
part_at = after kinds.Component (seq name_at (λ c. made (λ e. (c, e)) text_at))

unfoldable pub piece_at : Reader Next
piece_at = pick (only kinds.Text) (made (λ e. inl e) text_at) (made (λ p. inr p) part_at)

-- the parts that the pieces go on to, after a component and its elements so far
unfoldable pub parts_from : List ℕ → List (List ℕ) → List Next → List LabelPart
parts_from c es [] = record { component = c; elements = es } ∷ []
parts_from c es (inl e ∷ ps) = parts_from c (es ++ e ∷ []) ps
parts_from c es (inr p ∷ ps) = record { component = c; elements = es } ∷ parts_from p.0 (p.1 ∷ []) ps

unfoldable pub parts_on : List ℕ × List ℕ → Reader (List LabelPart)
parts_on p = made (parts_from p.0 (p.1 ∷ [])) (commas piece_at)

unfoldable pub parts_at : Reader (List LabelPart)
parts_at = seq part_at parts_on

unfoldable pub create_component_at : Readers → Reader Change
create_component_at w = seq name_at (λ n. made (changes.CreateComponent n) (component_at w))

unfoldable pub new_label_on : List ℕ → Reader Change
new_label_on p = seq (label_on p) (λ l. made (changes.CreateLabel l) parts_at)

-- after a name: where it is COMPONENT, the component's name may follow
unfoldable pub create_label_on : Readers → Bool × List ℕ → Reader Change
create_label_on w p = choose p.0 (pick names (create_component_at w) (new_label_on p.1)) (new_label_on p.1)

unfoldable pub create_label_at : Readers → Reader Change
create_label_at w = seq (name_or kinds.Component) (create_label_on w)

unfoldable pub which_option_at : Reader WriteOption
which_option_at = pick (only kinds.Override) (means kinds.Override options.Override) (means kinds.Restrict options.Restrict)

unfoldable pub write_option_at : Reader WriteOption
write_option_at = pick (only kinds.Override ++ only kinds.Restrict)
    (seq which_option_at (λ o. after kinds.Not (after kinds.Authorized (after kinds.Write (after kinds.Security (means kinds.Label o))))))
    (give options.Override)

unfoldable pub create_policy_at : Reader Change
create_policy_at = after kinds.Policy (seq name_at (λ n. after kinds.Components (seq (listed name_at) (λ cs. after kinds.With (after kinds.Db2LbacRules
    (made (λ o. changes.CreatePolicy (record { name = n; components = cs; option = o })) write_option_at))))))

unfoldable pub dropped_label_on : List ℕ → Reader Change
dropped_label_on p = made changes.DropLabel (label_on p)

unfoldable pub drop_label_on : Bool × List ℕ → Reader Change
drop_label_on p = choose p.0 (pick names (made changes.DropComponent name_at) (dropped_label_on p.1)) (dropped_label_on p.1)

unfoldable pub drop_label_at : Reader Change
drop_label_at = seq (name_or kinds.Component) drop_label_on

-- ---- all changes

unfoldable pub create_secured_at : Readers → Reader Change
create_secured_at w = after kinds.Security (pick (only kinds.Label) (after kinds.Label (create_label_at w)) create_policy_at)

unfoldable pub create_at : ℕ → Reader Change
create_at d =
    pick (only kinds.Table) (create_table_at d)
    (pick (only kinds.Security) (create_secured_at (readers d))
    (pick (only kinds.Role) (after kinds.Role (made changes.CreateRole name_at))
    (seq replace_at (control_at (readers d)))))

unfoldable pub switched_permission_at : Reader Change
switched_permission_at = after kinds.Permission (seq name_at (λ n. made (changes.SwitchPermission n) switch_at))

unfoldable pub switched_mask_at : Reader Change
switched_mask_at = after kinds.Mask (seq name_at (λ n. made (changes.SwitchMask n) switch_at))

unfoldable pub alter_at : Readers → Reader Change
alter_at w = pick (only kinds.Table) (alter_table_at w) (pick (only kinds.Permission) switched_permission_at switched_mask_at)

unfoldable pub dropped_secured_at : Reader Change
dropped_secured_at = after kinds.Security (pick (only kinds.Label) (after kinds.Label drop_label_at) (after kinds.Policy (made changes.DropPolicy name_at)))

unfoldable pub drop_at : Reader Change
drop_at =
    pick (only kinds.Table) (after kinds.Table (made changes.DropTable name_at))
    (pick (only kinds.Permission) (after kinds.Permission (made changes.DropPermission name_at))
    (pick (only kinds.Mask) (after kinds.Mask (made changes.DropMask name_at))
    (pick (only kinds.Role) (after kinds.Role (made changes.DropRole name_at))
    dropped_secured_at)))

unfoldable pub change_at : ℕ → Reader Change
change_at d =
    pick (only kinds.Create) (after kinds.Create (create_at d))
    (pick (only kinds.Alter) (after kinds.Alter (alter_at (readers d)))
    (pick (only kinds.Drop) (after kinds.Drop drop_at)
    (pick (only kinds.Grant) (after kinds.Grant grant_at)
    (after kinds.Revoke revoke_at))))

-- where d brackets may open
unfoldable pub definition_at : ℕ → Reader Stmt
definition_at d = made stmts.Change (change_at d)

-- a definition, and nothing after it
unfoldable pub whole_at : ℕ → Reader Stmt
whole_at d = seq (definition_at d) ended
