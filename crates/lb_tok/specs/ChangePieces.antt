-- The pieces of statements that change the catalogue, in canonical order.
use Rattle.std.specs.Prelude.{ℕ, Bool, true, false, List, [], ◌∷◌, ◌++◌, map, Option, Some, None}
use Rattle.std.specs.List.{flat_map}
use Rattle.lb_stmt.specs.declared.change.PlainType.{PlainType}
use Rattle.lb_stmt.specs.declared.change.PlainType.TheVariants as plains
use Rattle.lb_stmt.specs.declared.change.ColumnType.{ColumnType}
use Rattle.lb_stmt.specs.declared.change.ColumnType.TheVariants as types
use Rattle.lb_stmt.specs.declared.change.Element.{Element}
use Rattle.lb_stmt.specs.declared.change.Element.TheVariants as elements
use Rattle.lb_stmt.specs.declared.change.Switch.{Switch}
use Rattle.lb_stmt.specs.declared.change.Switch.TheVariants as switches
use Rattle.lb_stmt.specs.declared.change.ControlOf.{ControlOf}
use Rattle.lb_stmt.specs.declared.change.ControlOf.TheVariants as controls
use Rattle.lb_stmt.specs.declared.change.Activation.{Activation}
use Rattle.lb_stmt.specs.declared.change.TreeElement.{TreeElement}
use Rattle.lb_stmt.specs.declared.change.ComponentDef.{ComponentDef}
use Rattle.lb_stmt.specs.declared.change.ComponentDef.TheVariants as components
use Rattle.lb_stmt.specs.declared.change.WriteOption.{WriteOption}
use Rattle.lb_stmt.specs.declared.change.WriteOption.TheVariants as options
use Rattle.lb_stmt.specs.declared.change.LabelName.{LabelName}
use Rattle.lb_stmt.specs.declared.change.LabelPart.{LabelPart}
use Rattle.lb_stmt.specs.declared.change.Access.{Access}
use Rattle.lb_stmt.specs.declared.change.Access.TheVariants as accesses
use Rattle.lb_stmt.specs.declared.change.Exempted.{Exempted}
use Rattle.lb_base.specs.declared.rule.Rule.TheVariants as rules
use Rattle.lb_stmt.specs.declared.change.Exempted.TheVariants as exempted
use Rattle.lb_stmt.specs.declared.change.Privilege.{Privilege}
use Rattle.lb_stmt.specs.declared.change.Privilege.TheVariants as privileges
use Rattle.lb_stmt.specs.declared.change.Grantee.{Grantee}
use Rattle.lb_stmt.specs.declared.change.Grantee.TheVariants as grantees
use Rattle.lb_stmt.specs.declared.change.PermissionDef.{PermissionDef}
use Rattle.lb_stmt.specs.declared.change.MaskDef.{MaskDef}
use Rattle.lb_stmt.specs.declared.change.PolicyDef.{PolicyDef}
use Rattle.lb_stmt.specs.declared.change.Change.{Change}
use Rattle.lb_stmt.specs.declared.change.Change.TheVariants as changes
use Rattle.lb_tok.specs.declared.kind.Kind.{Kind}
use Rattle.lb_tok.specs.declared.kind.Kind.TheVariants as kinds
use Rattle.lb_tok.specs.Spacing.{Piece, mark, name, dotted, opening, literal}
use Rattle.lb_tok.specs.QueryPieces.{listed, parens, int_piece, text_pieces, name_pieces, tab_pieces, expr_pieces, cond_pieces}

-- ---- names

-- policy . label
abbrev pub label_piece : LabelName → Piece
label_piece l = dotted l.policy l.label

-- USER is always written
abbrev pub user_pieces : List ℕ → List Piece
user_pieces u = mark kinds.User ∷ name u ∷ []

abbrev pub grantee_pieces : Grantee → List Piece
grantee_pieces grantees.Public = mark kinds.Public ∷ []
grantee_pieces (grantees.User u) = user_pieces u

-- ---- tables

-- INT and INTEGER are written BIGINT
abbrev pub plain_pieces : PlainType → List Piece
plain_pieces plains.Int = mark kinds.BigInt ∷ []
plain_pieces (plains.Text width) = opening kinds.Varchar ∷ int_piece width ∷ mark kinds.Close ∷ []
plain_pieces plains.Date = mark kinds.Date ∷ []

abbrev pub type_pieces : ColumnType → List Piece
type_pieces types.Label = mark kinds.Db2SecurityLabel ∷ []
type_pieces (types.Plain t) = plain_pieces t

abbrev pub not_null_pieces : Bool → List Piece
not_null_pieces true = mark kinds.Not ∷ mark kinds.Null ∷ []
not_null_pieces false = []

abbrev pub key_option_pieces : Bool → List Piece
key_option_pieces true = mark kinds.Primary ∷ mark kinds.Key ∷ []
key_option_pieces false = []

-- COLUMN is not written here
abbrev pub secured_pieces : Option (List ℕ) → List Piece
secured_pieces None = []
secured_pieces (Some label) = mark kinds.Secured ∷ mark kinds.With ∷ name label ∷ []

-- NOT NULL, PRIMARY KEY, SECURED WITH in this order, each where it was written
abbrev pub element_pieces : Element → List Piece
element_pieces (elements.Column c) = name c.name ∷ (type_pieces c.ty ++ (not_null_pieces c.not_null ++ (key_option_pieces c.key ++ secured_pieces c.secured)))
element_pieces (elements.Key n) = mark kinds.Primary ∷ mark kinds.Key ∷ parens (name_pieces n)

abbrev pub policy_pieces : Option (List ℕ) → List Piece
policy_pieces None = []
policy_pieces (Some p) = mark kinds.Security ∷ mark kinds.Policy ∷ name p ∷ []

abbrev pub activate_kind : Bool → Kind
activate_kind true = kinds.Activate
activate_kind false = kinds.Deactivate

abbrev pub control_kind : ControlOf → Kind
control_kind controls.Row = kinds.Row
control_kind controls.Column = kinds.Column

abbrev pub activation_pieces : Activation → List Piece
activation_pieces a = mark (activate_kind a.activate) ∷ mark (control_kind a.of) ∷ mark kinds.Access ∷ mark kinds.Control ∷ []

abbrev pub second_pieces : Option Activation → List Piece
second_pieces None = []
second_pieces (Some a) = activation_pieces a

-- CREATE TABLE, ALTER TABLE and DROP TABLE
abbrev pub alter_table : List ℕ → List Piece → List Piece
alter_table t ps = mark kinds.Alter ∷ mark kinds.Table ∷ name t ∷ ps

-- ---- permissions and masks

abbrev pub switch_kind : Switch → Kind
switch_kind switches.Enable = kinds.Enable
switch_kind switches.Disable = kinds.Disable

abbrev pub replace_pieces : Bool → List Piece
replace_pieces true = mark kinds.Or ∷ mark kinds.Replace ∷ []
replace_pieces false = []

-- ENABLE or DISABLE is always written
abbrev pub permission_pieces : PermissionDef → List Piece
permission_pieces p =
    mark kinds.Create ∷ (replace_pieces p.replace ++ mark kinds.Permission ∷ name p.name ∷ mark kinds.On ∷ (tab_pieces p.on
    ++ mark kinds.For ∷ mark kinds.Rows ∷ mark kinds.Where ∷ (cond_pieces p.condition
    ++ mark kinds.Enforced ∷ mark kinds.For ∷ mark kinds.All ∷ mark kinds.Access ∷ mark (switch_kind p.switch) ∷ [])))

abbrev pub mask_pieces : MaskDef → List Piece
mask_pieces m =
    mark kinds.Create ∷ (replace_pieces m.replace ++ mark kinds.Mask ∷ name m.name ∷ mark kinds.On ∷ (tab_pieces m.on
    ++ mark kinds.For ∷ mark kinds.Column ∷ name m.column ∷ mark kinds.Return ∷ (expr_pieces m.value
    ++ mark (switch_kind m.switch) ∷ [])))

-- ---- components, policies and labels

abbrev pub texts_pieces : List (List ℕ) → List Piece
texts_pieces texts = listed (map text_pieces texts)

abbrev pub braces : Kind → Kind → List Piece → List Piece
braces o c ps = mark o ∷ (ps ++ mark c ∷ [])

-- , text UNDER text
abbrev pub under_pieces : TreeElement → List Piece
under_pieces e = mark kinds.Comma ∷ literal e.name ∷ mark kinds.Under ∷ literal e.parent ∷ []

abbrev pub component_pieces : ComponentDef → List Piece
component_pieces (components.Set es) = mark kinds.Set ∷ braces kinds.LeftBrace kinds.RightBrace (texts_pieces es)
component_pieces (components.Array es) = mark kinds.Array ∷ braces kinds.LeftBracket kinds.RightBracket (texts_pieces es)
component_pieces (components.Tree r es) = mark kinds.Tree ∷ parens (literal r ∷ mark kinds.Root ∷ flat_map under_pieces es)

abbrev pub part_pieces : LabelPart → List Piece
part_pieces p = mark kinds.Component ∷ name p.component ∷ texts_pieces p.elements

abbrev pub write_option_kind : WriteOption → Kind
write_option_kind options.Override = kinds.Override
write_option_kind options.Restrict = kinds.Restrict

-- the write option is always written
abbrev pub create_policy_pieces : PolicyDef → List Piece
create_policy_pieces p =
    mark kinds.Create ∷ mark kinds.Security ∷ mark kinds.Policy ∷ name p.name ∷ mark kinds.Components ∷ (listed (map name_pieces p.components)
    ++ mark kinds.With ∷ mark kinds.Db2LbacRules
    ∷ mark (write_option_kind p.option) ∷ mark kinds.Not ∷ mark kinds.Authorized ∷ mark kinds.Write ∷ mark kinds.Security ∷ mark kinds.Label ∷ [])

-- ---- grants

abbrev pub access_kind : Access → Kind
access_kind accesses.All = kinds.All
access_kind accesses.Read = kinds.Read
access_kind accesses.Write = kinds.Write

-- the access is always written
abbrev pub access_pieces : Access → List Piece
access_pieces a = mark kinds.For ∷ mark (access_kind a) ∷ mark kinds.Access ∷ []

abbrev pub rule_pieces : Exempted → List Piece
rule_pieces (exempted.Rule rules.ReadArray) = mark kinds.Db2LbacReadArray ∷ []
rule_pieces (exempted.Rule rules.ReadSet) = mark kinds.Db2LbacReadSet ∷ []
rule_pieces (exempted.Rule rules.ReadTree) = mark kinds.Db2LbacReadTree ∷ []
rule_pieces (exempted.Rule rules.WriteDown) = mark kinds.Db2LbacWriteArray ∷ mark kinds.WriteDown ∷ []
rule_pieces (exempted.Rule rules.WriteUp) = mark kinds.Db2LbacWriteArray ∷ mark kinds.WriteUp ∷ []
rule_pieces (exempted.Rule rules.WriteSet) = mark kinds.Db2LbacWriteSet ∷ []
rule_pieces (exempted.Rule rules.WriteTree) = mark kinds.Db2LbacWriteTree ∷ []
rule_pieces exempted.All = mark kinds.All ∷ []

-- EXEMPTION ON RULE rule FOR policy
abbrev pub exemption_pieces : Exempted → List ℕ → List Piece
exemption_pieces r p = mark kinds.Exemption ∷ mark kinds.On ∷ mark kinds.Rule ∷ (rule_pieces r ++ mark kinds.For ∷ name p ∷ [])

abbrev pub privilege_kind : Privilege → Kind
privilege_kind privileges.Select = kinds.Select
privilege_kind privileges.Insert = kinds.Insert
privilege_kind privileges.Update = kinds.Update
privilege_kind privileges.Delete = kinds.Delete

abbrev pub privilege_pieces : Privilege → List Piece
privilege_pieces r = mark (privilege_kind r) ∷ []

-- TABLE is not written
abbrev pub privileges_pieces : List Privilege → List ℕ → List Piece
privileges_pieces rs t = listed (map privilege_pieces rs) ++ mark kinds.On ∷ name t ∷ []

-- ---- all changes

abbrev pub change_pieces : Change → List Piece
change_pieces (changes.CreateTable t es p) = mark kinds.Create ∷ mark kinds.Table ∷ name t ∷ (parens (listed (map element_pieces es)) ++ policy_pieces p)
change_pieces (changes.DropTable t) = mark kinds.Drop ∷ mark kinds.Table ∷ name t ∷ []
change_pieces (changes.AddColumn t c ty) = alter_table t (mark kinds.Add ∷ mark kinds.Column ∷ name c ∷ plain_pieces ty)
change_pieces (changes.AddPolicy t p) = alter_table t (mark kinds.Add ∷ mark kinds.Security ∷ mark kinds.Policy ∷ name p ∷ [])
change_pieces (changes.SecureColumn t c l) = alter_table t (mark kinds.Alter ∷ mark kinds.Column ∷ name c ∷ mark kinds.Secured ∷ mark kinds.With ∷ name l ∷ [])
change_pieces (changes.UnsecureColumn t c) = alter_table t (mark kinds.Alter ∷ mark kinds.Column ∷ name c ∷ mark kinds.Drop ∷ mark kinds.Column ∷ mark kinds.Security ∷ [])
change_pieces (changes.Activate t a b) = alter_table t (activation_pieces a ++ second_pieces b)
change_pieces (changes.CreatePermission p) = permission_pieces p
change_pieces (changes.CreateMask m) = mask_pieces m
change_pieces (changes.SwitchPermission n s) = mark kinds.Alter ∷ mark kinds.Permission ∷ name n ∷ mark (switch_kind s) ∷ []
change_pieces (changes.SwitchMask n s) = mark kinds.Alter ∷ mark kinds.Mask ∷ name n ∷ mark (switch_kind s) ∷ []
change_pieces (changes.DropPermission n) = mark kinds.Drop ∷ mark kinds.Permission ∷ name n ∷ []
change_pieces (changes.DropMask n) = mark kinds.Drop ∷ mark kinds.Mask ∷ name n ∷ []
change_pieces (changes.CreateComponent n c) = mark kinds.Create ∷ mark kinds.Security ∷ mark kinds.Label ∷ mark kinds.Component ∷ name n ∷ component_pieces c
change_pieces (changes.DropComponent n) = mark kinds.Drop ∷ mark kinds.Security ∷ mark kinds.Label ∷ mark kinds.Component ∷ name n ∷ []
change_pieces (changes.CreatePolicy p) = create_policy_pieces p
change_pieces (changes.DropPolicy p) = mark kinds.Drop ∷ mark kinds.Security ∷ mark kinds.Policy ∷ name p ∷ []
change_pieces (changes.CreateLabel l ps) = mark kinds.Create ∷ mark kinds.Security ∷ mark kinds.Label ∷ label_piece l ∷ listed (map part_pieces ps)
change_pieces (changes.DropLabel l) = mark kinds.Drop ∷ mark kinds.Security ∷ mark kinds.Label ∷ label_piece l ∷ []
change_pieces (changes.GrantLabel l u a) = mark kinds.Grant ∷ mark kinds.Security ∷ mark kinds.Label ∷ label_piece l ∷ mark kinds.To ∷ (user_pieces u ++ access_pieces a)
change_pieces (changes.RevokeLabel l u) = mark kinds.Revoke ∷ mark kinds.Security ∷ mark kinds.Label ∷ label_piece l ∷ mark kinds.From ∷ user_pieces u
change_pieces (changes.GrantExemption r p u) = mark kinds.Grant ∷ (exemption_pieces r p ++ mark kinds.To ∷ user_pieces u)
change_pieces (changes.RevokeExemption r p u) = mark kinds.Revoke ∷ (exemption_pieces r p ++ mark kinds.From ∷ user_pieces u)
change_pieces (changes.CreateRole r) = mark kinds.Create ∷ mark kinds.Role ∷ name r ∷ []
change_pieces (changes.DropRole r) = mark kinds.Drop ∷ mark kinds.Role ∷ name r ∷ []
change_pieces (changes.GrantRole r u) = mark kinds.Grant ∷ mark kinds.Role ∷ name r ∷ mark kinds.To ∷ user_pieces u
change_pieces (changes.RevokeRole r u) = mark kinds.Revoke ∷ mark kinds.Role ∷ name r ∷ mark kinds.From ∷ user_pieces u
change_pieces (changes.GrantSecadm u) = mark kinds.Grant ∷ mark kinds.Secadm ∷ mark kinds.On ∷ mark kinds.Database ∷ mark kinds.To ∷ user_pieces u
change_pieces (changes.RevokeSecadm u) = mark kinds.Revoke ∷ mark kinds.Secadm ∷ mark kinds.On ∷ mark kinds.Database ∷ mark kinds.From ∷ user_pieces u
change_pieces (changes.GrantPrivileges rs t g) = mark kinds.Grant ∷ (privileges_pieces rs t ++ mark kinds.To ∷ grantee_pieces g)
change_pieces (changes.RevokePrivileges rs t g) = mark kinds.Revoke ∷ (privileges_pieces rs t ++ mark kinds.From ∷ grantee_pieces g)
