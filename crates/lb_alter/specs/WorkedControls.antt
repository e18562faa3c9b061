-- Worked changes of permissions and masks, and more of what is in use, in a catalogue of two tables.
use Rattle.std.specs.Prelude.{ℕ, ◌≡◌, pos, true, false, Bool, List, [], ◌∷◌, codes, map, Option, None, Some, option_map}
use Rattle.lb_stmt.specs.declared.change.Change.{Change}
use Rattle.lb_stmt.specs.declared.change.Change.TheVariants as changes
use Rattle.lb_stmt.specs.declared.change.Element.TheVariants as elements
use Rattle.lb_stmt.specs.declared.change.Switch.{Switch}
use Rattle.lb_stmt.specs.declared.change.Switch.TheVariants as switches
use Rattle.lb_stmt.specs.declared.change.WriteOption.TheVariants as options
use Rattle.lb_tree.specs.declared.query.Atom.TheVariants as atoms
use Rattle.lb_tree.specs.declared.query.Cond.{Cond}
use Rattle.lb_tree.specs.declared.query.Cond.TheVariants as conds
use Rattle.lb_tree.specs.declared.query.Expr.{Expr}
use Rattle.lb_tree.specs.declared.query.Expr.TheVariants as exprs
use Rattle.lb_cat.specs.declared.catalog.MaskRec.{MaskRec}
use Rattle.lb_cat.specs.declared.catalog.PermissionRec.{PermissionRec}
use Rattle.lb_cat.specs.declared.refusal.Refusal.{Refusal}
use Rattle.lb_cat.specs.declared.refusal.Refusal.TheVariants as refusals
use Rattle.lb_cat.specs.declared.reply.Reply.{Reply}
use Rattle.lb_cat.specs.Catalog.{Cat, Table, table_named, first_cat, put_table}
use Rattle.lb_alter.specs.Change.{change}
use Rattle.lb_alter.specs.ChangeTable.{new_table}
use Rattle.lb_alter.specs.Stored.{StoredRules}
use Rattle.lb_alter.specs.Worked.{Answers, admin, after_all, catalog, int, label, plain, refused, table}
use Rattle.lb_alter.specs.WorkedAnswers.{asks_teller, pay}

-- rules that refuse every condition for a name, for a type, or not at all
abbrev pub rules_by : Option Refusal → Option Refusal → StoredRules
rules_by names types = record {
  condition_names = λ C on c. names;
  mask_names = λ C on e. names;
  condition_types = λ C on c. types;
  mask_types = λ C on column e. types;
  qualified_condition = λ C on c. c;
  qualified_mask = λ C on e. e;
  are_qualified = λ c. true;
  are_qualified_in = λ e. true;
}

-- a condition that calls the policy Q
abbrev pub asks_policy : Cond
asks_policy = conds.IsNull (exprs.Atom (atoms.SecLabel (codes "Q") (codes "()")))

-- 0, which names nothing
abbrev pub zero_value : Expr
zero_value = exprs.Atom (atoms.Int (pos 0))

-- the label X of the policy Q, by its name
abbrev pub names_label : Expr
names_label = exprs.Atom (atoms.SecLabelByName (codes "Q") (codes "X"))

-- the permission ONE, on CUST
abbrev pub one : PermissionRec
one = record { name = codes "ONE"; correlation = codes "CUST"; condition = asks_policy; enabled = false }

-- the mask HIDE, on the second column
abbrev pub hide : MaskRec
hide = record { name = codes "HIDE"; column = 1; correlation = codes "CUST"; value = names_label; enabled = true }

-- TELLER, with the column PAY
abbrev pub teller : Table
teller = new_table admin (codes "TELLER") (pay None ∷ []) None

-- CUST, with the columns ID and PAY, the permission ONE, and HIDE on PAY
abbrev pub cust : Table
cust = record (new_table admin (codes "CUST") (elements.Column (plain (codes "ID") int) ∷ pay None ∷ []) None) { permissions = one ∷ []; masks = hide ∷ [] }

-- a catalogue of these two tables
abbrev pub shop : Cat
shop = put_table cust (put_table teller first_cat)

-- CREATE PERMISSION
abbrev pub permission : Bool → List ℕ → List ℕ → Cond → Switch → Change
permission replace n on c switch = changes.CreatePermission (record { replace = replace; name = n; on = record { table = on; correlation = None }; condition = c; switch = switch })

-- CREATE MASK, whose CASE is 0
abbrev pub mask : Bool → List ℕ → List ℕ → List ℕ → Change
mask replace n on column = changes.CreateMask (record { replace = replace; name = n; on = record { table = on; correlation = None }; column = column; value = zero_value; switch = switches.Enable })

-- refused as unknown
abbrev pub unknown : List ℕ → Reply
unknown n = refused (refusals.Unknown n)

-- refused as taken
abbrev pub exists : List ℕ → Reply
exists n = refused (refusals.Exists n)

-- the refusals of CREATE PERMISSION in their order
pub record PermissionsAreRefused (K : StoredRules) : Type 0 where
  pub secadm : Answers shop K (codes "ANN") (permission false (codes "ONE") (codes "NO") asks_policy switches.Enable) (refused refusals.NotSecadm)
  pub table : Answers shop K admin (permission false (codes "ONE") (codes "NO") asks_policy switches.Enable) (unknown (codes "NO"))
  pub taken : Answers shop K admin (permission false (codes "ONE") (codes "CUST") asks_policy switches.Enable) (exists (codes "ONE"))
  -- OR REPLACE replaces no permission of another table, and no mask
  pub elsewhere : Answers shop K admin (permission true (codes "ONE") (codes "TELLER") asks_policy switches.Enable) (exists (codes "ONE"))
  pub mask : Answers shop K admin (permission true (codes "HIDE") (codes "CUST") asks_policy switches.Enable) (exists (codes "HIDE"))

-- names come before sources, and sources before types: a subquery on TELLER may not read TELLER
pub record SourcesStandBetween : Type 0 where
  pub names : Answers shop (rules_by (Some (refusals.Unknown (codes "X"))) (Some (refusals.Types 3))) admin (permission false (codes "TWO") (codes "TELLER") asks_teller switches.Enable) (unknown (codes "X"))
  pub source : Answers shop (rules_by None (Some (refusals.Types 3))) admin (permission false (codes "TWO") (codes "TELLER") asks_teller switches.Enable) (refused (refusals.BadSource (codes "TWO") (codes "TELLER")))
  pub types : Answers shop (rules_by None (Some (refusals.Types 3))) admin (permission false (codes "TWO") (codes "CUST") asks_teller switches.Enable) (refused (refusals.Types 3))

-- the refusals of CREATE MASK in their order, before its names
pub record MasksAreRefused (K : StoredRules) : Type 0 where
  pub secadm : Answers shop K (codes "ANN") (mask false (codes "HIDE") (codes "NO") (codes "NO")) (refused refusals.NotSecadm)
  pub table : Answers shop K admin (mask false (codes "HIDE") (codes "NO") (codes "NO")) (unknown (codes "NO"))
  pub column : Answers shop K admin (mask false (codes "HIDE") (codes "CUST") (codes "NO")) (unknown (codes "NO"))
  pub taken : Answers shop K admin (mask false (codes "HIDE") (codes "CUST") (codes "PAY")) (exists (codes "HIDE"))
  -- OR REPLACE replaces no mask of another column or table, and no permission
  pub elsewhere : Answers shop K admin (mask true (codes "HIDE") (codes "CUST") (codes "ID")) (exists (codes "HIDE"))
  pub permission : Answers shop K admin (mask true (codes "ONE") (codes "CUST") (codes "ID")) (exists (codes "ONE"))
  -- a column has one mask
  pub other : Answers shop K admin (mask false (codes "TWO") (codes "CUST") (codes "PAY")) (exists (codes "HIDE"))

-- ALTER and DROP want a name of their own kind
pub record OtherKindIsUnknown (K : StoredRules) : Type 0 where
  pub switched : Answers shop K admin (changes.SwitchPermission (codes "HIDE") switches.Enable) (unknown (codes "HIDE"))
  pub dropped : Answers shop K admin (changes.DropMask (codes "ONE")) (unknown (codes "ONE"))

-- which permissions of the table are enabled
abbrev pub switches_of : Cat → List ℕ → Option (List Bool)
switches_of C n = option_map (λ t. map (λ p. p.enabled) t.permissions) (table_named C n)

-- ALTER PERMISSION switches it on
abbrev pub Switches : StoredRules → Type 0
Switches K = switches_of (change K shop [] admin (changes.SwitchPermission (codes "ONE") switches.Enable)).cat (codes "CUST") ≡ Some (true ∷ [])

-- ---- what is in use

-- a policy Q with the label X, and a role that ANN has
abbrev pub used : StoredRules → Cat
used K = after_all K (catalog K)
    (changes.CreatePolicy (record { name = codes "Q"; components = codes "DEPT" ∷ []; option = options.Override })
    ∷ changes.CreateLabel (label (codes "Q") (codes "X")) []
    ∷ changes.CreateRole (codes "R")
    ∷ changes.GrantRole (codes "R") (codes "ANN")
    ∷ changes.RevokeLabel (label (codes "P") (codes "MHE")) (codes "ANN")
    ∷ table (codes "W") (pay (Some (codes "MHE")) ∷ []) (Some (codes "P"))
    ∷ [])

-- what is used can't be dropped
pub record AreInUse (K : StoredRules) : Type 0 where
  -- a role by a user, a policy by its first label, a label by a column
  pub role : Answers (used K) K admin (changes.DropRole (codes "R")) (refused (refusals.InUse (codes "R") (codes "ANN")))
  pub labelled : Answers (used K) K admin (changes.DropPolicy (codes "Q")) (refused (refusals.InUse (codes "Q") (codes "X")))
  pub column : Answers (used K) K admin (changes.DropLabel (label (codes "P") (codes "MHE"))) (refused (refusals.InUse (codes "MHE") (codes "W")))

-- the shop with the policy Q, which the permission ONE calls, and its label X, which the mask HIDE names
abbrev pub calling : Cat
calling = record shop { policies = record { name = codes "Q"; components = []; shape = []; restrict = false; labels = record { name = codes "X"; parts = record { items = [] } } ∷ [] } ∷ [] }

-- a policy is in use by a table whose permission calls it
abbrev pub CalledIsInUse : StoredRules → Type 0
CalledIsInUse K = Answers calling K admin (changes.DropPolicy (codes "Q")) (refused (refusals.InUse (codes "Q") (codes "CUST")))

-- a label is in use by a table whose mask names it
abbrev pub NamedIsInUse : StoredRules → Type 0
NamedIsInUse K = Answers calling K admin (changes.DropLabel (label (codes "Q") (codes "X"))) (refused (refusals.InUse (codes "X") (codes "CUST")))
