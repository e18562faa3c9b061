-- Worked changes: what some statements answer and leave in a small catalogue.
use Rattle.std.specs.Prelude.{if◌then◌else◌, ℕ, ◌≡◌, true, false, List, [], ◌∷◌, map, codes, Option, None, Some, option_map, option_and_then}
use Rattle.lb_base.specs.declared.key.Key.TheVariants as keys
use Rattle.lb_stmt.specs.declared.change.Access.TheVariants as accesses
use Rattle.lb_stmt.specs.declared.change.Change.TheVariants as changes
use Rattle.lb_stmt.specs.declared.change.ColumnType.TheVariants as types
use Rattle.lb_stmt.specs.declared.change.ComponentDef.TheVariants as definitions
use Rattle.lb_stmt.specs.declared.change.Element.{Element}
use Rattle.lb_stmt.specs.declared.change.Element.TheVariants as elements
use Rattle.lb_stmt.specs.declared.change.Grantee.TheVariants as grantees
use Rattle.lb_base.specs.declared.rule.Rule.TheVariants as rules
use Rattle.lb_stmt.specs.declared.change.Exempted.TheVariants as exempted
use Rattle.lb_stmt.specs.declared.change.Privilege.TheVariants as privileges
use Rattle.lb_stmt.specs.declared.change.WriteOption.TheVariants as options
use Rattle.lb_cat.specs.declared.refusal.Refusal.TheVariants as refusals
use Rattle.lb_cat.specs.declared.refusal.LimitOf.TheVariants as limits
use Rattle.lb_cat.specs.declared.refusal.NeededPrivilege.TheVariants as needed
use Rattle.lb_cat.specs.declared.refusal.Flaw.TheVariants as flaws
use Rattle.lb_cat.specs.declared.reply.Reply.TheVariants as replies
use Rattle.lb_cat.specs.Catalog.{Cat, first_cat, user_named, policy_named, label_named, no_user, is_table}
use Rattle.lb_tree.specs.declared.query.Cond.{Cond}
use Rattle.lb_tree.specs.declared.query.Cond.TheVariants as conds
use Rattle.lb_tree.specs.declared.query.Cond.TheViews.{roll-Query, roll-Chain}
use Rattle.lb_tree.specs.declared.query.Item.TheVariants as items
use Rattle.lb_tree.specs.declared.query.Query.{Query}
use Rattle.lb_stmt.specs.declared.write.Stmt.{Stmt}
use Rattle.lb_stmt.specs.declared.write.Stmt.TheVariants as stmts
use Rattle.lb_cat.specs.declared.catalog.Holding.{Holding}
use Rattle.lb_alter.specs.Change.{change}
use Rattle.lb_alter.specs.Deps.{write_deps}
use Rattle.lb_alter.specs.Refusing.{Changed}
use Rattle.lb_alter.specs.Stored.{StoredRules}
use Rattle.lb_alter.specs.Worked.{admin, after_all, label_of, Answers, table, label, plain, int, text, granted, catalog, refused}

-- labels that disagree in LEVEL, a label that is held, and a user without SECADM
pub record GrantsAreRefused (K : StoredRules) : Type 0 where
  pub mismatch : Answers (granted K) K admin (changes.GrantLabel (label (codes "P") (codes "MHE")) (codes "DAN") accesses.Write) (refused (refusals.GrantMismatch (codes "LEVEL")))
  pub another : Answers (granted K) K admin (changes.GrantLabel (label (codes "P") (codes "MHE")) (codes "DAN") accesses.All) (refused (refusals.Exists (codes "LO")))
  pub again : Answers (granted K) K admin (changes.GrantLabel (label (codes "P") (codes "LO")) (codes "DAN") accesses.All) replies.Done
  pub held : Answers (granted K) K admin (changes.DropLabel (label (codes "P") (codes "MHE"))) (refused (refusals.InUse (codes "MHE") (codes "ANN")))
  pub free : Answers (catalog K) K admin (changes.RevokeLabel (label (codes "P") (codes "MHE")) (codes "BOB")) (refused (refusals.Unknown (codes "MHE")))
  pub secadm : Answers (catalog K) K (codes "ANN") (changes.CreateRole (codes "R")) (refused refusals.NotSecadm)
  pub policy : Answers (catalog K) K admin (changes.DropPolicy (codes "P")) (refused (refusals.InUse (codes "P") (codes "T")))
  pub component : Answers (catalog K) K admin (changes.DropComponent (codes "DEPT")) (refused (refusals.InUse (codes "DEPT") (codes "P")))

-- the column PAY, secured or not
abbrev pub pay : Option (List ℕ) → Element
pay secured = elements.Column (record (plain (codes "PAY") int) { secured = secured })

-- a label column
abbrev pub labels : List ℕ → Element
labels n = elements.Column (plain n types.Label)

-- the refusals of CREATE TABLE in their order: each statement breaks the rule that is named and later ones
pub record TablesAreRefused (K : StoredRules) : Type 0 where
  pub taken : Answers (catalog K) K (codes "ANN") (table (codes "T") (pay None ∷ pay None ∷ []) None) (refused (refusals.Exists (codes "T")))
  pub repeated : Answers (catalog K) K (codes "ANN") (table (codes "Z") (pay None ∷ pay None ∷ elements.Column (plain (codes "V") (text 0)) ∷ []) None) (refused (refusals.Exists (codes "PAY")))
  pub width : Answers (catalog K) K (codes "ANN") (table (codes "Z") (elements.Column (plain (codes "V") (text 255)) ∷ elements.Key (codes "W") ∷ []) None) (refused (refusals.Limit limits.Width 254))
  pub key : Answers (catalog K) K (codes "ANN") (table (codes "Z") (elements.Key (codes "W") ∷ []) (Some (codes "Q"))) (refused (refusals.Unknown (codes "W")))
  pub policy : Answers (catalog K) K (codes "ANN") (table (codes "Z") (labels (codes "L") ∷ labels (codes "M") ∷ []) (Some (codes "Q"))) (refused (refusals.Unknown (codes "Q")))
  pub none : Answers (catalog K) K (codes "ANN") (table (codes "Z") (labels (codes "L") ∷ elements.Key (codes "L") ∷ []) None) (refused (refusals.BadTable (codes "L") flaws.NoPolicy))
  pub two : Answers (catalog K) K (codes "ANN") (table (codes "Z") (labels (codes "L") ∷ labels (codes "M") ∷ elements.Key (codes "M") ∷ []) (Some (codes "P"))) (refused (refusals.BadTable (codes "M") flaws.TwoLabels))
  pub keys_two : Answers (catalog K) K (codes "ANN") (table (codes "Z") (elements.Key (codes "PAY") ∷ elements.Column (record (plain (codes "ID") int) { key = true }) ∷ pay (Some (codes "NO")) ∷ []) (Some (codes "P"))) (refused (refusals.BadTable (codes "PAY") flaws.TwoKeys))
  pub label_key : Answers (catalog K) K (codes "ANN") (table (codes "Z") (pay (Some (codes "NO")) ∷ labels (codes "L") ∷ elements.Key (codes "L") ∷ []) (Some (codes "P"))) (refused (refusals.BadTable (codes "L") flaws.LabelKey))
  pub label : Answers (catalog K) K (codes "ANN") (table (codes "Z") (pay (Some (codes "NO")) ∷ []) (Some (codes "P"))) (refused (refusals.Unknown (codes "NO")))
  pub owner : Answers (catalog K) K (codes "ANN") (changes.DropTable (codes "T")) (refused (refusals.Privilege needed.Control (codes "T")))
  pub unknown : Answers (catalog K) K (codes "ANN") (changes.DropTable (codes "U")) (refused (refusals.Unknown (codes "U")))

-- a component and labels: the refusals of their elements and parts
pub record LabelsAreRefused (K : StoredRules) : Type 0 where
  pub element : Answers (catalog K) K admin (changes.CreateComponent (codes "C") (definitions.Set (codes "A" ∷ codes "a:b" ∷ codes "A" ∷ []))) (refused (refusals.BadLabel 1))
  pub repeated : Answers (catalog K) K admin (changes.CreateComponent (codes "C") (definitions.Set (codes "A" ∷ codes "A" ∷ codes "a:b" ∷ []))) (refused (refusals.Exists (codes "A")))
  pub parent : Answers (catalog K) K admin (changes.CreateComponent (codes "C") (definitions.Tree (codes "A") (record { name = codes "B"; parent = codes "D" } ∷ []))) (refused (refusals.Unknown (codes "D")))
  pub unknown : Answers (catalog K) K admin (label_of (codes "X") (codes "TOP" ∷ codes "MID" ∷ codes "NO" ∷ []) [] []) (refused (refusals.Unknown (codes "NO")))
  pub two : Answers (catalog K) K admin (label_of (codes "X") (codes "TOP" ∷ codes "MID" ∷ []) (codes "NO" ∷ []) []) (refused (refusals.BadLabel 0))
  pub taken : Answers (catalog K) K admin (label_of (codes "MHE") (codes "NO" ∷ []) [] []) (refused (refusals.Exists (codes "MHE")))

-- all of these
abbrev pub AllAreRefused : StoredRules → Type 0
AllAreRefused K = GrantsAreRefused K × TablesAreRefused K × LabelsAreRefused K

-- dropping a table ends the privileges on it, and touches who had some
abbrev pub dropped : StoredRules → Changed
dropped K = change K (after_all K (catalog K) (changes.GrantPrivileges (privileges.Select ∷ []) (codes "T") (grantees.User (codes "ANN")) ∷ [])) [] admin (changes.DropTable (codes "T"))

-- ANN had a privilege on it
abbrev pub DropsTouchUsers : StoredRules → Type 0
DropsTouchUsers K = (dropped K).touched ≡ keys.Table (codes "T") ∷ keys.Rows (codes "T") ∷ keys.User (codes "ANN") ∷ []

-- ---- what they leave

-- what the user holds
abbrev pub held_by : Cat → List ℕ → Option (List Holding)
held_by C n = option_map (λ u. u.held) (user_named C n)

-- the parts of a label of P
abbrev pub parts_named : Cat → List ℕ → Option (List ℕ)
parts_named C n = option_and_then (λ p. option_map (λ l. l.parts.items) (label_named p n)) (policy_named C (codes "P"))

-- a second policy, for which BOB has an exemption alone
abbrev pub second : StoredRules → Cat
second K = after_all K (catalog K)
    (changes.CreatePolicy (record { name = codes "Q"; components = codes "DEPT" ∷ []; option = options.Override })
    ∷ changes.GrantExemption (exempted.Rule rules.WriteSet) (codes "Q") (codes "BOB")
    ∷ [])

-- DELETE FROM the table
abbrev pub delete_from : List ℕ → Stmt
delete_from n = stmts.Delete (record { target = record { table = n; correlation = None }; filter = None })

-- what statements leave
pub record AllLeave (K : StoredRules) : Type 0 where
  -- the parts of a label: MID is the second element of its ARRAY, HR bit 0, EU bit 1
  pub parts : parts_named (catalog K) (codes "MHE") ≡ Some (2 ∷ 1 ∷ 2 ∷ [])
  pub full : parts_named (catalog K) (codes "FULL") ≡ Some (1 ∷ 7 ∷ 1 ∷ [])
  -- an entry that has become empty is taken away
  pub revoked : held_by (after_all K (catalog K) (changes.RevokeLabel (label (codes "P") (codes "MHE")) (codes "ANN") ∷ [])) (codes "ANN") ≡ Some []
  -- a revoke from a name without record makes none, and a grant makes one
  pub nobody : user_named (after_all K (catalog K) (changes.RevokeSecadm (codes "EVE") ∷ [])) (codes "EVE") ≡ None
  pub somebody : user_named (after_all K (catalog K) (changes.GrantSecadm (codes "EVE") ∷ [])) (codes "EVE") ≡ Some (record (no_user (codes "EVE")) { secadm = true })
  -- a policy that is dropped ends its exemptions, and touches who had some
  pub ends : held_by (after_all K (second K) (changes.DropPolicy (codes "Q") ∷ [])) (codes "BOB") ≡ Some []
  pub ended : (change K (second K) [] admin (changes.DropPolicy (codes "Q"))).touched ≡ keys.Policy (codes "Q") ∷ keys.User (codes "BOB") ∷ []
  -- one rule less of all
  pub one_less : held_by (after_all K (second K) (changes.RevokeExemption (exempted.Rule rules.WriteSet) (codes "Q") (codes "BOB") ∷ [])) (codes "BOB") ≡ Some []
  -- what a write depends on, and one of a table that is not there
  pub depends : write_deps (catalog K) (delete_from (codes "T")) (codes "ANN")
      ≡ keys.Table (codes "T") ∷ keys.Policy (codes "P") ∷ keys.Component (codes "LEVEL") ∷ keys.Component (codes "DEPT") ∷ keys.Component (codes "REGION") ∷ keys.Rows (codes "T") ∷ keys.User (codes "ANN") ∷ []
  pub missing : write_deps (catalog K) (delete_from (codes "LATER")) (codes "ANN") ≡ keys.Table (codes "LATER") ∷ keys.Rows (codes "LATER") ∷ keys.User (codes "ANN") ∷ []

-- ---- a permission that reads another table

-- SELECT * FROM TELLER
abbrev pub reads_teller : Query
reads_teller = roll-Query (record {
  distinct = false;
  items = items.Everything ∷ [];
  from = roll-Chain (record { first = record { table = codes "TELLER"; correlation = None }; joins = [] }) ∷ [];
  filter = None;
  group = [];
  having = None;
})

-- EXISTS (SELECT * FROM TELLER)
abbrev pub asks_teller : Cond
asks_teller = conds.Exists reads_teller

-- TELLER, and CUST with a permission that reads it
abbrev pub bank : StoredRules → Cat
bank K = record (after_all K first_cat (table (codes "TELLER") (pay None ∷ []) None ∷ table (codes "CUST") (pay None ∷ []) None ∷ [])) {
  tables =
      map (λ t. if is_table (codes "CUST") t then record t { permissions = record { name = codes "TELLERS"; correlation = codes "CUST"; condition = asks_teller; enabled = true } ∷ [] } else t)
      (after_all K first_cat (table (codes "TELLER") (pay None ∷ []) None ∷ table (codes "CUST") (pay None ∷ []) None ∷ [])).tables;
}

-- the table that is read can't be dropped, and what reads through the permission depends on it
pub record ReadsThrough (K : StoredRules) : Type 0 where
  pub dropped : Answers (bank K) K admin (changes.DropTable (codes "TELLER")) (refused (refusals.InUse (codes "TELLER") (codes "TELLERS")))
  pub depends : write_deps (bank K) (delete_from (codes "CUST")) (codes "ANN")
      ≡ keys.Table (codes "CUST") ∷ keys.Table (codes "TELLER") ∷ keys.Rows (codes "CUST") ∷ keys.Rows (codes "TELLER") ∷ keys.User (codes "ANN") ∷ []
