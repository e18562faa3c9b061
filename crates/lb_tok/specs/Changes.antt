-- The grammar of statements that change the catalogue, and of all statements.
use Rattle.std.specs.Prelude.{ℕ, List, [], ◌∷◌, ◌++◌, Bool, true, false, ◌||◌, Option, Some, None}
use Rattle.lb_stmt.specs.declared.change.PlainType.{PlainType}
use Rattle.lb_stmt.specs.declared.change.PlainType.TheVariants as plains
use Rattle.lb_stmt.specs.declared.change.ColumnType.{ColumnType}
use Rattle.lb_stmt.specs.declared.change.ColumnType.TheVariants as types
use Rattle.lb_stmt.specs.declared.change.Element.{Element}
use Rattle.lb_stmt.specs.declared.change.Element.TheVariants as elements
use Rattle.lb_stmt.specs.declared.change.Switch.{Switch}
use Rattle.lb_stmt.specs.declared.change.Switch.TheVariants as switches
use Rattle.lb_stmt.specs.declared.change.ControlOf.TheVariants as controls
use Rattle.lb_stmt.specs.declared.change.Activation.{Activation}
use Rattle.lb_stmt.specs.declared.change.TreeElement.{TreeElement}
use Rattle.lb_stmt.specs.declared.change.ComponentDef.{ComponentDef}
use Rattle.lb_stmt.specs.declared.change.ComponentDef.TheVariants as components
use Rattle.lb_stmt.specs.declared.change.WriteOption.{WriteOption}
use Rattle.lb_stmt.specs.declared.change.WriteOption.TheVariants as options
use Rattle.lb_stmt.specs.declared.change.LabelName.{LabelName}
use Rattle.lb_stmt.specs.declared.change.LabelPart.{LabelPart}
use Rattle.lb_stmt.specs.declared.change.Access.{Access}
use Rattle.lb_stmt.specs.declared.change.Access.TheVariants as accesses
use Rattle.lb_stmt.specs.declared.change.Exempted.{Exempted}
use Rattle.lb_base.specs.declared.rule.Rule.TheVariants as rules
use Rattle.lb_stmt.specs.declared.change.Exempted.TheVariants as exempted
use Rattle.lb_stmt.specs.declared.change.Privilege.{Privilege}
use Rattle.lb_stmt.specs.declared.change.Privilege.TheVariants as privileges
use Rattle.lb_stmt.specs.declared.change.Grantee.{Grantee}
use Rattle.lb_stmt.specs.declared.change.Grantee.TheVariants as grantees
use Rattle.lb_stmt.specs.declared.change.Change.{Change}
use Rattle.lb_stmt.specs.declared.change.Change.TheVariants as changes
use Rattle.lb_stmt.specs.declared.write.Stmt.{Stmt}
use Rattle.lb_stmt.specs.declared.write.Stmt.TheVariants as stmts
use Rattle.lb_tok.specs.declared.kind.Kind.{Kind}
use Rattle.lb_tok.specs.declared.kind.Kind.TheVariants as kinds
use Rattle.lb_tok.specs.declared.token.Token.{Token}
use Rattle.std.specs.Option.{option_and_then}
use Rattle.lb_tok.specs.Kinds.{only}
use Rattle.lb_tok.specs.Words.{name_in}
use Rattle.lb_tok.specs.Form.{Lang, Nothing, One, Word, Seq, Either, Many, Word, After, Made, Means, May, Optional, Listed, Bracket, Parens}
use Rattle.lb_tok.specs.Grammar.{IsName, IsText, IsInt, IsCase, IsCond, IsTab, IsQueryOrWrite, level}

-- ---- keywords that may be names where they stand, so that the words after them decide

abbrev pub Named : Kind → Lang (Unit {0})
Named k = One (only k) (λ t. option_and_then (λ n. Some tt) (name_in t.content))

abbrev pub AfterNamed : {A : Type 0} → Kind → Lang A → Lang A
AfterNamed k P = Seq (Named k) (λ _. P)

abbrev pub MayNamed : Kind → Lang (Unit {0})
MayNamed k = Either (Named k) (Nothing tt)

-- ---- names of several parts

-- [USER] name
abbrev pub IsUser : Lang (List ℕ)
IsUser = Seq (May kinds.User) (λ _. IsName)

-- [USER] name | PUBLIC
abbrev pub IsGrantee : Lang Grantee
IsGrantee = Either (Means kinds.Public grantees.Public) (Made grantees.User IsUser)

-- name . name
abbrev pub IsLabelName : Lang LabelName
IsLabelName = Seq IsName (λ p. After kinds.Dot (Made (λ l. record { policy = p; label = l }) IsName))

-- ---- tables

-- plain = BIGINT | INTEGER | INT | VARCHAR "(" int ")" | DATE
abbrev pub IsPlainType : Lang PlainType
IsPlainType =
    Either (Means kinds.BigInt plains.Int)
    (Either (Means kinds.Integer plains.Int)
    (Either (Means kinds.Int plains.Int)
    (Either (After kinds.Varchar (Made plains.Text (Parens IsInt)))
    (Means kinds.Date plains.Date))))

-- type = plain | DB2SECURITYLABEL
abbrev pub IsType : Lang ColumnType
IsType = Either (Means kinds.Db2SecurityLabel types.Label) (Made types.Plain IsPlainType)

-- NOT NULL | PRIMARY KEY, and whether it is the second
abbrev pub IsOption : Lang Bool
IsOption = Either (After kinds.Not (Means kinds.Null false)) (After kinds.Primary (Means kinds.Key true))

-- [COLUMN] SECURED WITH name
abbrev pub IsSecured : Lang (List ℕ)
IsSecured = Seq (May kinds.Column) (λ _. After kinds.Secured (After kinds.With IsName))

abbrev pub any_is : Bool → List Bool → Bool
any_is b [] = false
any_is true (x ∷ xs) = x || any_is true xs
any_is false (true ∷ xs) = any_is false xs
any_is false (false ∷ xs) = true

-- a column with the options before and after SECURED WITH
abbrev pub column_def : List ℕ → ColumnType → List Bool → Option (List ℕ) → List Bool → Element
column_def n t before label behind =
    elements.Column (record { name = n; ty = t; not_null = any_is false (before ++ behind); key = any_is true (before ++ behind); secured = label })

-- name type {NOT NULL | PRIMARY KEY} [[COLUMN] SECURED WITH name {NOT NULL | PRIMARY KEY}]
abbrev pub IsColumnDef : Lang Element
IsColumnDef = Seq IsName (λ n. Seq IsType (λ t. Seq (Many IsOption) (λ before.
    Either (Seq IsSecured (λ l. Made (λ behind. column_def n t before (Some l) behind) (Many IsOption))) (Nothing (column_def n t before None [])))))

-- elem = name type .. | PRIMARY KEY "(" name ")"
abbrev pub IsElement : Lang Element
IsElement = Either (AfterNamed kinds.Primary (After kinds.Key (Made elements.Key (Parens IsName)))) IsColumnDef

-- CREATE TABLE name "(" elem {, elem} ")" [SECURITY POLICY name]
abbrev pub IsCreateTable : Lang Change
IsCreateTable = After kinds.Table (Seq IsName (λ t. Seq (Parens (Listed IsElement)) (λ es. Made (changes.CreateTable t es) (Optional (After kinds.Security (After kinds.Policy IsName))))))

-- act = (ACTIVATE | DEACTIVATE) (ROW | COLUMN) ACCESS CONTROL
abbrev pub IsActivation : Lang Activation
IsActivation = Seq (Either (Means kinds.Activate true) (Means kinds.Deactivate false)) (λ a.
    Seq (Either (Means kinds.Row controls.Row) (Means kinds.Column controls.Column)) (λ c.
    After kinds.Access (Means kinds.Control (record { activate = a; of = c }))))

-- ALTER TABLE name ADD [COLUMN] name plain
--     | ALTER TABLE name ADD SECURITY POLICY name
--     | ALTER TABLE name ALTER [COLUMN] name SECURED WITH name
--     | ALTER TABLE name ALTER [COLUMN] name DROP COLUMN SECURITY
--     | ALTER TABLE name act [act]
abbrev pub IsNewColumn : List ℕ → Lang Change
IsNewColumn t = Seq (MayNamed kinds.Column) (λ _. Seq IsName (λ c. Made (changes.AddColumn t c) IsPlainType))

abbrev pub IsAdded : List ℕ → Lang Change
IsAdded t = Either (AfterNamed kinds.Security (After kinds.Policy (Made (changes.AddPolicy t) IsName))) (IsNewColumn t)

abbrev pub IsAlteredColumn : List ℕ → Lang Change
IsAlteredColumn t = Seq (MayNamed kinds.Column) (λ _. Seq IsName (λ c.
    Either (AfterNamed kinds.Secured (After kinds.With (Made (changes.SecureColumn t c) IsName)))
    (AfterNamed kinds.Drop (After kinds.Column (Means kinds.Security (changes.UnsecureColumn t c))))))

abbrev pub IsActs : List ℕ → Lang Change
IsActs t = Seq IsActivation (λ a. Made (changes.Activate t a) (Optional IsActivation))

abbrev pub IsAlterTable : Lang Change
IsAlterTable = After kinds.Table (Seq IsName (λ t. Either (After kinds.Add (IsAdded t)) (Either (After kinds.Alter (IsAlteredColumn t)) (IsActs t))))

-- ---- permissions and masks

-- [ENABLE | DISABLE], where DISABLE is meant
abbrev pub IsSwitch : Lang Switch
IsSwitch = Either (Means kinds.Enable switches.Enable) (Means kinds.Disable switches.Disable)

abbrev pub IsFirstSwitch : Lang Switch
IsFirstSwitch = Either IsSwitch (Nothing switches.Disable)

-- [OR REPLACE]
abbrev pub IsReplace : Lang Bool
IsReplace = Either (After kinds.Or (Means kinds.Replace true)) (Nothing false)

-- CREATE [OR REPLACE] PERMISSION name ON tab FOR ROWS WHERE cond ENFORCED FOR ALL ACCESS [ENABLE | DISABLE]
abbrev pub IsPermission : Bool → Lang Change
IsPermission r = After kinds.Permission (Seq IsName (λ n. After kinds.On (Seq IsTab (λ t. After kinds.For (After kinds.Rows (After kinds.Where (Seq IsCond (λ c.
    After kinds.Enforced (After kinds.For (After kinds.All (After kinds.Access
    (Made (λ s. changes.CreatePermission (record { replace = r; name = n; on = t; condition = c; switch = s })) IsFirstSwitch))))))))))))

-- CREATE [OR REPLACE] MASK name ON tab FOR COLUMN name RETURN case [ENABLE | DISABLE]
abbrev pub IsMask : Bool → Lang Change
IsMask r = After kinds.Mask (Seq IsName (λ n. After kinds.On (Seq IsTab (λ t. After kinds.For (After kinds.Column (Seq IsName (λ c. After kinds.Return (Seq IsCase (λ v.
    Made (λ s. changes.CreateMask (record { replace = r; name = n; on = t; column = c; value = v; switch = s })) IsFirstSwitch)))))))))

-- ---- components, policies and labels

-- text {, text}
abbrev pub IsTexts : Lang (List (List ℕ))
IsTexts = Listed IsText

-- comp = SET "{" text {, text} "}" | ARRAY "[" text {, text} "]" | TREE "(" text ROOT {, text UNDER text} ")"
abbrev pub IsTreeElement : Lang TreeElement
IsTreeElement = Seq IsText (λ n. After kinds.Under (Made (λ p. record { name = n; parent = p }) IsText))

abbrev pub IsTree : Lang ComponentDef
IsTree = Seq IsText (λ r. After kinds.Root (Made (components.Tree r) (Many (After kinds.Comma IsTreeElement))))

abbrev pub IsComponentDef : Lang ComponentDef
IsComponentDef =
    Either (After kinds.Set (Made components.Set (Bracket kinds.LeftBrace kinds.RightBrace IsTexts)))
    (Either (After kinds.Array (Made components.Array (Bracket kinds.LeftBracket kinds.RightBracket IsTexts)))
    (After kinds.Tree (Parens IsTree)))

-- part = COMPONENT name text {, text}
abbrev pub IsPart : Lang LabelPart
IsPart = After kinds.Component (Seq IsName (λ c. Made (λ es. record { component = c; elements = es }) IsTexts))

-- CREATE SECURITY LABEL COMPONENT name comp | CREATE SECURITY LABEL name . name part {, part}
abbrev pub IsCreateLabel : Lang Change
IsCreateLabel =
    Either (AfterNamed kinds.Component (Seq IsName (λ n. Made (changes.CreateComponent n) IsComponentDef)))
    (Seq IsLabelName (λ l. Made (changes.CreateLabel l) (Listed IsPart)))

-- [(OVERRIDE | RESTRICT) NOT AUTHORIZED WRITE SECURITY LABEL], where OVERRIDE is meant
abbrev pub IsWriteOption : Lang WriteOption
IsWriteOption =
    Either (Seq (Either (Means kinds.Override options.Override) (Means kinds.Restrict options.Restrict)) (λ o.
    After kinds.Not (After kinds.Authorized (After kinds.Write (After kinds.Security (Means kinds.Label o))))))
    (Nothing options.Override)

-- CREATE SECURITY POLICY name COMPONENTS name {, name} WITH DB2LBACRULES ..
abbrev pub IsCreatePolicy : Lang Change
IsCreatePolicy = After kinds.Policy (Seq IsName (λ n. After kinds.Components (Seq (Listed IsName) (λ cs. After kinds.With (After kinds.Db2LbacRules
    (Made (λ o. changes.CreatePolicy (record { name = n; components = cs; option = o })) IsWriteOption))))))

-- DROP SECURITY LABEL COMPONENT name | DROP SECURITY LABEL name . name
abbrev pub IsDropLabel : Lang Change
IsDropLabel = Either (AfterNamed kinds.Component (Made changes.DropComponent IsName)) (Made changes.DropLabel IsLabelName)

-- ---- grants

-- [FOR (ALL | READ | WRITE) ACCESS], where ALL is meant
abbrev pub IsAccess : Lang Access
IsAccess =
    Either (After kinds.For (Seq (Either (Means kinds.All accesses.All) (Either (Means kinds.Read accesses.Read) (Means kinds.Write accesses.Write))) (λ a. Means kinds.Access a)))
    (Nothing accesses.All)

-- rule = DB2LBACREADARRAY | DB2LBACREADSET | DB2LBACREADTREE | DB2LBACWRITEARRAY (WRITEDOWN | WRITEUP) | DB2LBACWRITESET | DB2LBACWRITETREE | ALL
abbrev pub IsRule : Lang Exempted
IsRule =
    Either (Means kinds.Db2LbacReadArray (exempted.Rule rules.ReadArray))
    (Either (Means kinds.Db2LbacReadSet (exempted.Rule rules.ReadSet))
    (Either (Means kinds.Db2LbacReadTree (exempted.Rule rules.ReadTree))
    (Either (After kinds.Db2LbacWriteArray (Either (Means kinds.WriteDown (exempted.Rule rules.WriteDown)) (Means kinds.WriteUp (exempted.Rule rules.WriteUp))))
    (Either (Means kinds.Db2LbacWriteSet (exempted.Rule rules.WriteSet))
    (Either (Means kinds.Db2LbacWriteTree (exempted.Rule rules.WriteTree))
    (Means kinds.All exempted.All))))))

-- ON RULE rule FOR name
abbrev pub IsRuleOf : Lang (Exempted × List ℕ)
IsRuleOf = After kinds.On (After kinds.Rule (Seq IsRule (λ r. After kinds.For (Made (λ p. (r, p)) IsName))))

-- priv = SELECT | INSERT | UPDATE | DELETE
abbrev pub IsRight : Lang Privilege
IsRight =
    Either (Means kinds.Select privileges.Select)
    (Either (Means kinds.Insert privileges.Insert)
    (Either (Means kinds.Update privileges.Update)
    (Means kinds.Delete privileges.Delete)))

-- priv {, priv} ON [TABLE] name k (u | PUBLIC), where k is TO or FROM
abbrev pub IsPrivilegesOn : (List Privilege → List ℕ → Grantee → Change) → Lang (Unit {0}) → Lang Change
IsPrivilegesOn f k = Seq (Listed IsRight) (λ rs. After kinds.On (Seq (MayNamed kinds.Table) (λ _. Seq IsName (λ t. Seq k (λ _. Made (f rs t) IsGrantee)))))

-- GRANT SECURITY LABEL name . name TO u [FOR (ALL | READ | WRITE) ACCESS]
--     | GRANT EXEMPTION ON RULE rule FOR name TO u
--     | GRANT ROLE name TO u | GRANT SECADM ON DATABASE TO u
--     | GRANT priv {, priv} ON [TABLE] name TO (u | PUBLIC)
abbrev pub IsGrant : Lang Change
IsGrant =
    Either (After kinds.Security (After kinds.Label (Seq IsLabelName (λ l. After kinds.To (Seq IsUser (λ u. Made (changes.GrantLabel l u) IsAccess))))))
    (Either (After kinds.Exemption (Seq IsRuleOf (λ r. After kinds.To (Made (changes.GrantExemption r.0 r.1) IsUser))))
    (Either (After kinds.Role (Seq IsName (λ r. After kinds.To (Made (changes.GrantRole r) IsUser))))
    (Either (After kinds.Secadm (After kinds.On (After kinds.Database (After kinds.To (Made changes.GrantSecadm IsUser)))))
    (IsPrivilegesOn changes.GrantPrivileges (Named kinds.To)))))

-- REVOKE SECURITY LABEL name . name FROM u | REVOKE EXEMPTION ON RULE rule FOR name FROM u
--     | REVOKE ROLE name FROM u | REVOKE SECADM ON DATABASE FROM u
--     | REVOKE priv {, priv} ON [TABLE] name FROM (u | PUBLIC)
abbrev pub IsRevoke : Lang Change
IsRevoke =
    Either (After kinds.Security (After kinds.Label (Seq IsLabelName (λ l. After kinds.From (Made (changes.RevokeLabel l) IsUser)))))
    (Either (After kinds.Exemption (Seq IsRuleOf (λ r. After kinds.From (Made (changes.RevokeExemption r.0 r.1) IsUser))))
    (Either (After kinds.Role (Seq IsName (λ r. After kinds.From (Made (changes.RevokeRole r) IsUser))))
    (Either (After kinds.Secadm (After kinds.On (After kinds.Database (After kinds.From (Made changes.RevokeSecadm IsUser)))))
    (IsPrivilegesOn changes.RevokePrivileges (Word kinds.From)))))

-- ---- all changes

-- CREATE TABLE .. | CREATE [OR REPLACE] (PERMISSION .. | MASK ..) | CREATE SECURITY (LABEL .. | POLICY ..) | CREATE ROLE name
abbrev pub IsCreate : Lang Change
IsCreate =
    Either IsCreateTable
    (Either (After kinds.Security (Either (After kinds.Label IsCreateLabel) IsCreatePolicy))
    (Either (After kinds.Role (Made changes.CreateRole IsName))
    (Seq IsReplace (λ r. Either (IsPermission r) (IsMask r)))))

-- ALTER TABLE .. | ALTER (PERMISSION | MASK) name (ENABLE | DISABLE)
abbrev pub IsAlter : Lang Change
IsAlter =
    Either IsAlterTable
    (Either (After kinds.Permission (Seq IsName (λ n. Made (changes.SwitchPermission n) IsSwitch)))
    (After kinds.Mask (Seq IsName (λ n. Made (changes.SwitchMask n) IsSwitch))))

-- DROP TABLE name | DROP (PERMISSION | MASK) name | DROP SECURITY (LABEL .. | POLICY name) | DROP ROLE name
abbrev pub IsDrop : Lang Change
IsDrop =
    Either (After kinds.Table (Made changes.DropTable IsName))
    (Either (After kinds.Permission (Made changes.DropPermission IsName))
    (Either (After kinds.Mask (Made changes.DropMask IsName))
    (Either (After kinds.Role (Made changes.DropRole IsName))
    (After kinds.Security (Either (After kinds.Label IsDropLabel) (After kinds.Policy (Made changes.DropPolicy IsName)))))))

-- change = CREATE .. | ALTER .. | DROP .. | GRANT .. | REVOKE ..
abbrev pub IsChange : Lang Change
IsChange =
    Either (After kinds.Create IsCreate)
    (Either (After kinds.Alter IsAlter)
    (Either (After kinds.Drop IsDrop)
    (Either (After kinds.Grant IsGrant)
    (After kinds.Revoke IsRevoke))))

-- a statement that changes the catalogue
abbrev pub IsDefinition : Lang Stmt
IsDefinition = Made stmts.Change IsChange

-- stmt = query [order] [fetch] | insert | update | delete | change
abbrev pub IsStmt : Lang Stmt
IsStmt = Either IsQueryOrWrite IsDefinition

-- the tokens spell the statement, whatever number of brackets is open at a time
abbrev pub IsStatement : List Token → Stmt → Type 0
IsStatement ts s = (depth : ℕ) × IsStmt (level depth) ts s
