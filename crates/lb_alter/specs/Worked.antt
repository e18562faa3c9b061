-- A small catalogue, made by statements.
use Rattle.std.specs.Prelude.{ℕ, ◌≡◌, pos, true, false, List, [], ◌∷◌, codes, Option, None, Some}
use Rattle.lb_stmt.specs.declared.change.Access.TheVariants as accesses
use Rattle.lb_stmt.specs.declared.change.Change.{Change}
use Rattle.lb_stmt.specs.declared.change.Change.TheVariants as changes
use Rattle.lb_stmt.specs.declared.change.ColumnDef.{ColumnDef}
use Rattle.lb_stmt.specs.declared.change.ColumnType.{ColumnType}
use Rattle.lb_stmt.specs.declared.change.ColumnType.TheVariants as types
use Rattle.lb_stmt.specs.declared.change.ComponentDef.TheVariants as definitions
use Rattle.lb_stmt.specs.declared.change.Element.{Element}
use Rattle.lb_stmt.specs.declared.change.Element.TheVariants as elements
use Rattle.lb_stmt.specs.declared.change.Grantee.TheVariants as grantees
use Rattle.lb_stmt.specs.declared.change.LabelName.{LabelName}
use Rattle.lb_stmt.specs.declared.change.LabelPart.{LabelPart}
use Rattle.lb_stmt.specs.declared.change.PlainType.TheVariants as plains
use Rattle.lb_stmt.specs.declared.change.Exempted.TheVariants as exempted
use Rattle.lb_stmt.specs.declared.change.Privilege.TheVariants as privileges
use Rattle.lb_stmt.specs.declared.change.WriteOption.TheVariants as options
use Rattle.lb_cat.specs.declared.refusal.Refusal.{Refusal}
use Rattle.lb_cat.specs.declared.reply.Reply.{Reply}
use Rattle.lb_cat.specs.declared.reply.Reply.TheVariants as replies
use Rattle.lb_cat.specs.Catalog.{Cat, first_cat}
use Rattle.lb_alter.specs.Change.{change}
use Rattle.lb_alter.specs.Stored.{StoredRules}

-- the first user
abbrev pub admin : List ℕ
admin = codes "SECADMIN"

-- what stands after these statements of SECADMIN, without rows
abbrev pub after_all : StoredRules → Cat → List Change → Cat
after_all K C [] = C
after_all K C (s ∷ ss) = after_all K (change K C [] admin s).cat ss

-- what a statement of the user answers there
abbrev pub reply_to : StoredRules → Cat → List ℕ → Change → Reply
reply_to K C user s = (change K C [] user s).reply

-- a label of a policy
abbrev pub label : List ℕ → List ℕ → LabelName
label p l = record { policy = p; label = l }

-- elements of a component
abbrev pub part : List ℕ → List (List ℕ) → LabelPart
part c es = record { component = c; elements = es }

-- CREATE SECURITY LABEL of the policy P
abbrev pub label_of : List ℕ → List (List ℕ) → List (List ℕ) → List (List ℕ) → Change
label_of n level dept region = changes.CreateLabel (label (codes "P") n)
    (part (codes "LEVEL") level ∷ part (codes "DEPT") dept ∷ part (codes "REGION") region ∷ [])

-- TOP, MID, LOW
abbrev pub level : Change
level = changes.CreateComponent (codes "LEVEL") (definitions.Array (codes "TOP" ∷ codes "MID" ∷ codes "LOW" ∷ []))

-- HR, IT, FIN
abbrev pub dept : Change
dept = changes.CreateComponent (codes "DEPT") (definitions.Set (codes "HR" ∷ codes "IT" ∷ codes "FIN" ∷ []))

-- ALL, and under it EU with FR, and US
abbrev pub region : Change
region = changes.CreateComponent (codes "REGION") (definitions.Tree (codes "ALL")
    (record { name = codes "EU"; parent = codes "ALL" }
    ∷ record { name = codes "FR"; parent = codes "EU" }
    ∷ record { name = codes "US"; parent = codes "ALL" }
    ∷ []))

-- the policy P of these three
abbrev pub policy : Change
policy = changes.CreatePolicy (record { name = codes "P"; components = codes "LEVEL" ∷ codes "DEPT" ∷ codes "REGION" ∷ []; option = options.Restrict })

-- a column without options
abbrev pub plain : List ℕ → ColumnType → ColumnDef
plain n ty = record { name = n; ty = ty; not_null = false; key = false; secured = None }

-- INTEGER
abbrev pub int : ColumnType
int = types.Plain plains.Int

-- VARCHAR
abbrev pub text : ℕ → ColumnType
text width = types.Plain (plains.Text (pos width))

-- CREATE TABLE
abbrev pub table : List ℕ → List Element → Option (List ℕ) → Change
table n es p = changes.CreateTable n es p

-- the components, the policy, two labels, the table T with a key and a label column, and what ANN and CARL hold
abbrev pub set_up : List Change
set_up =
    level ∷ dept ∷ region ∷ policy
    ∷ label_of (codes "MHE") (codes "MID" ∷ []) (codes "HR" ∷ []) (codes "EU" ∷ [])
    ∷ label_of (codes "FULL") (codes "TOP" ∷ []) (codes "HR" ∷ codes "IT" ∷ codes "FIN" ∷ []) (codes "ALL" ∷ [])
    ∷ table (codes "T") (elements.Column (record (plain (codes "ID") int) { key = true }) ∷ elements.Column (plain (codes "V") (text 20)) ∷ elements.Column (plain (codes "L") types.Label) ∷ []) (Some (codes "P"))
    ∷ changes.GrantPrivileges (privileges.Select ∷ privileges.Insert ∷ privileges.Update ∷ privileges.Delete ∷ []) (codes "T") grantees.Public
    ∷ changes.GrantLabel (label (codes "P") (codes "MHE")) (codes "ANN") accesses.All
    ∷ changes.GrantLabel (label (codes "P") (codes "FULL")) (codes "CARL") accesses.All
    ∷ changes.GrantExemption exempted.All (codes "P") (codes "CARL")
    ∷ []

-- the catalogue that these leave
abbrev pub catalog : StoredRules → Cat
catalog K = after_all K first_cat set_up

-- the label LO
abbrev pub lower : Change
lower = label_of (codes "LO") (codes "LOW" ∷ []) (codes "HR" ∷ []) (codes "EU" ∷ [])

-- DAN holds LO for reading
abbrev pub granted : StoredRules → Cat
granted K = after_all K (catalog K) (lower ∷ changes.GrantLabel (label (codes "P") (codes "LO")) (codes "DAN") accesses.Read ∷ [])

-- there the statement of the user answers so
abbrev pub Answers : Cat → StoredRules → List ℕ → Change → Reply → Type 0
Answers C K user s r = reply_to K C user s ≡ r

-- it is refused
abbrev pub refused : Refusal → Reply
refused r = replies.Refused r
