-- What an answer doesn't depend on: the frame law and the two-world law of queries.
use Rattle.std.specs.Prelude.{◌≡◌, ℕ, List, [], ◌∷◌, ◌++◌, Option, Some, None, ℤ}
use Rattle.std.specs.List.{flat_map}
use Rattle.lb_base.specs.declared.value.Value.{Value}
use Rattle.lb_base.specs.Evaluated.{Evaluated}
use Rattle.lb_tree.specs.declared.query.Select.{Select}
use Rattle.lb_stmt.specs.declared.write.Stmt.TheVariants as stmts
use Rattle.lb_cat.specs.declared.catalog.ColumnRec.{ColumnRec}
use Rattle.lb_cat.specs.declared.catalog.PermissionRec.{PermissionRec}
use Rattle.lb_cat.specs.declared.catalog.MaskRec.{MaskRec}
use Rattle.lb_cat.specs.declared.cred.Cred.{Cred}
use Rattle.lb_cat.specs.Catalog.{Cat, Table, Policy, table_named, policy_named}
use Rattle.lb_cat.specs.Credentials.{held_of}
use Rattle.lb_names.specs.Mentions.{Mention, Mentions, table, policy, label, in_expr, in_cond, in_select}
use Rattle.lb_rows.specs.Tables.{Tables, rows_of}
use Rattle.lb_mean.specs.Visible.{policy_of_type, guarded}
use Rattle.lb_mean.specs.Output.{rows_told}
use Rattle.lb_mean.specs.Answer.{Checks, access_refused, query_answer}
use Rattle.lb_mean.specs.Frame.{Agrees}

-- ---- what a table mentions

-- a policy that may be missing
abbrev pub mention_of : Option (List ℕ) → Mentions
mention_of None = []
mention_of (Some p) = policy p ∷ []

-- the policies of the label columns
abbrev pub mentioned_by_columns : List ColumnRec → Mentions
mentioned_by_columns columns = flat_map (λ c. mention_of (policy_of_type c.ty)) columns

-- what the conditions of row permissions mention
abbrev pub mentioned_by_permissions : List PermissionRec → Mentions
mentioned_by_permissions ps = flat_map (λ p. in_cond p.condition) ps

-- what the CASEs of column masks mention
abbrev pub mentioned_by_masks : List MaskRec → Mentions
mentioned_by_masks ms = flat_map (λ m. in_expr m.value) ms

-- the policies of a table, and what its permissions and masks mention, disabled ones too
abbrev pub mentioned_by : Table → Mentions
mentioned_by t = mention_of t.policy ++ (mentioned_by_columns t.columns ++ (mentioned_by_permissions t.permissions ++ mentioned_by_masks t.masks))

-- ---- the frame law

-- two catalogues with two lists of tables have the same record of a table or policy, and the same rows of the table
abbrev pub SameNamed : Cat → Cat → Tables → Tables → Mention → Type 0
SameNamed C D T U (table n) = (table_named C n ≡ table_named D n) × (rows_of n T ≡ rows_of n U)
SameNamed C D T U (policy p) = policy_named C p ≡ policy_named D p
SameNamed C D T U (label p l) = policy_named C p ≡ policy_named D p

-- the same of all that a table mentions, if it is there
abbrev pub SameStored : Cat → Cat → Tables → Tables → Option Table → Type 0
SameStored C D T U None = Unit {0}
SameStored C D T U (Some t) = Agrees (SameNamed C D T U) (mentioned_by t)

-- the same of what a statement mentions, and of what its tables mention
abbrev pub SameMention : Cat → Cat → Tables → Tables → Mention → Type 0
SameMention C D T U (table n) = SameNamed C D T U (table n) × SameStored C D T U (table_named C n)
SameMention C D T U (policy p) = SameNamed C D T U (policy p)
SameMention C D T U (label p l) = SameNamed C D T U (label p l)

-- What a query gives, where it isn't refused before, depends on the records and rows of the tables and policies that it mentions,
-- and that these tables mention, and on no other part of catalogue and tables.
abbrev pub RowsFrame : Type 0
RowsFrame = (C D : Cat) (c : Cred) (T U : Tables) (day : ℤ) (s : Select) → Agrees (SameMention C D T U) (in_select s)
    → rows_told (guarded C c T day) s ≡ rows_told (guarded D c U day) s

-- in one catalogue the answer of a query depends on the rows of those tables, and of no others
abbrev pub AnswerFrame : Type 0
AnswerFrame = (checks : Checks) (C : Cat) (c : Cred) (T U : Tables) (day : ℤ) (s : Select) → Agrees (SameMention C C T U) (in_select s)
    → query_answer checks C c T day s ≡ query_answer checks C c U day s

-- The refusal of a query by privileges, protected columns and masks depends on the same records, whatever the rows: those of one
-- list are the same in both catalogues.
abbrev pub RefusalFrame : Type 0
RefusalFrame = (C D : Cat) (c : Cred) (T : Tables) (s : Select) → Agrees (SameMention C D T T) (in_select s) → access_refused C c s ≡ access_refused D c s

-- so the answer of a query is the same in two catalogues with the same of these, if names and types are refused alike
abbrev pub AcrossFrame : Type 0
AcrossFrame = (checks : Checks) (C D : Cat) (c : Cred) (T U : Tables) (day : ℤ) (s : Select) → Agrees (SameMention C D T U) (in_select s)
    → checks C.tables C.policies (stmts.Select s) ≡ checks D.tables D.policies (stmts.Select s) → query_answer checks C c T day s ≡ query_answer checks D c U day s

-- ---- the two-world law

-- the rows of a table that the session sees, or the fault of a permission
abbrev pub seen_rows : Cat → Cred → Tables → ℤ → List ℕ → Evaluated (List (List Value))
seen_rows C c T day n = ((guarded C c T day).sources n).rows

-- the tables that a table's permissions and masks mention have the same rows in both worlds
abbrev pub SameGuards : Cat → Tables → Tables → Option Table → Type 0
SameGuards C T U None = Unit {0}
SameGuards C T U (Some t) = Agrees (SameNamed C C T U) (mentioned_by_permissions t.permissions) × Agrees (SameNamed C C T U) (mentioned_by_masks t.masks)

-- the session sees the same rows of a table, or the same fault, and what its permissions and masks read is the same
abbrev pub SeesSame : Cat → Cred → ℤ → Tables → Tables → Mention → Type 0
SeesSame C c day T U (table n) = (seen_rows C c T day n ≡ seen_rows C c U day n) × SameGuards C T U (table_named C n)
SeesSame C c day T U (policy p) = Unit {0}
SeesSame C c day T U (label p l) = Unit {0}

-- in two worlds of which a session sees the same, as far as a query mentions them, the query has the same answer
abbrev pub TwoWorlds : Type 0
TwoWorlds = (checks : Checks) (C : Cat) (c : Cred) (T U : Tables) (day : ℤ) (s : Select) → Agrees (SeesSame C c day T U) (in_select s)
    → query_answer checks C c T day s ≡ query_answer checks C c U day s

-- ---- two sessions

-- the sessions have the same user, groups, roles, SECADM authority and privileges; of labels and exemptions it says nothing
pub record SameSession (c d : Cred) : Type 0 where
  pub user : c.user ≡ d.user
  pub groups : c.groups ≡ d.groups
  pub roles : c.roles ≡ d.roles
  pub secadm : c.secadm ≡ d.secadm
  pub privileges : c.privileges ≡ d.privileges

-- they hold the same labels and exemptions of a policy, if it is there
abbrev pub HoldsSame : Cred → Cred → Option Policy → Type 0
HoldsSame c d None = Unit {0}
HoldsSame c d (Some p) = held_of c p.name ≡ held_of d p.name

-- the same of a policy that is mentioned
abbrev pub SameHeld : Cat → Cred → Cred → Mention → Type 0
SameHeld C c d (table n) = Unit {0}
SameHeld C c d (policy p) = HoldsSame c d (policy_named C p)
SameHeld C c d (label p l) = HoldsSame c d (policy_named C p)

-- the same of all policies that a table mentions, if it is there
abbrev pub SameHeldIn : Cat → Cred → Cred → Option Table → Type 0
SameHeldIn C c d None = Unit {0}
SameHeldIn C c d (Some t) = Agrees (SameHeld C c d) (mentioned_by t)

-- the same of the policies that a statement mentions, and of those that its tables mention
abbrev pub SameHolding : Cat → Cred → Cred → Mention → Type 0
SameHolding C c d (table n) = SameHeldIn C c d (table_named C n)
SameHolding C c d (policy p) = SameHeld C c d (policy p)
SameHolding C c d (label p l) = SameHeld C c d (label p l)

-- two such sessions have one answer to a query, whatever they hold of other policies
abbrev pub SessionsFrame : Type 0
SessionsFrame = (checks : Checks) (C : Cat) (c d : Cred) (T : Tables) (day : ℤ) (s : Select) → SameSession c d → Agrees (SameHolding C c d) (in_select s)
    → query_answer checks C c T day s ≡ query_answer checks C d T day s
