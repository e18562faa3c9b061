-- Names: the records of a kind have different ones, what a record names has its record, and a policy's name is folded.
use Rattle.std.specs.Prelude.{ℕ, ◌≡◌, Bool, true, false, not, ◌&&◌, List, [], ◌∷◌, map, Option, None, Some, is_some}
use Rattle.std.specs.List.{AllByRecursion, flat_map}
use Rattle.lb_base.specs.Names.{IsFolded}
use Rattle.lb_cat.specs.declared.catalog.Grant.{Grant}
use Rattle.lb_cat.specs.declared.catalog.Holding.{Holding}
use Rattle.lb_cat.specs.Catalog.{Cat, Table, Policy, User, table_named, policy_named, component_named, has_role, is_among}
use Rattle.lb_cat.specs.Privileges.{has_none}
use Rattle.lb_cat.specs.Holdings.{is_empty_holding}
use Rattle.lb_names.specs.Mentions.{tables_in, policies_in}
use Rattle.lb_alter.specs.ChangeControl.{is_bad_source}
use Rattle.lb_alter.specs.Stored.{stored_in, stored_name, mentioned_in}

-- no name stands twice
abbrev pub are_different : List (List ℕ) → Bool
are_different [] = true
are_different (n ∷ ns) = not (is_among ns n) && are_different ns

-- the names are different
abbrev pub AreDifferent : List (List ℕ) → Type 0
AreDifferent ns = are_different ns ≡ true

-- ---- records of one kind

-- the records of one kind have different names
pub record HasOneOfEachName (C : Cat) : Type 0 where
  pub tables : AreDifferent (map (λ t. t.name) C.tables)
  pub policies : AreDifferent (map (λ p. p.name) C.policies)
  pub components : AreDifferent (map (λ c. c.name) C.components)
  pub users : AreDifferent (map (λ u. u.name) C.users)
  pub roles : AreDifferent (map (λ r. r.name) C.roles)

-- ---- what records name

-- a table of that name is there
abbrev pub HasTable : Cat → List ℕ → Type 0
HasTable C n = is_some (table_named C n) ≡ true

-- a policy of that name is there
abbrev pub HasPolicy : Cat → List ℕ → Type 0
HasPolicy C n = is_some (policy_named C n) ≡ true

-- a component of that name is there
abbrev pub HasComponent : Cat → List ℕ → Type 0
HasComponent C n = is_some (component_named C n) ≡ true

-- a role of that name is there
abbrev pub HasRole : Cat → List ℕ → Type 0
HasRole C n = has_role C n ≡ true

-- it holds of the name, if one is given
abbrev pub IfGiven : (List ℕ → Type 0) → Option (List ℕ) → Type 0
IfGiven P None = Unit {0}
IfGiven P (Some n) = P n

-- the policy of a table, and the tables and policies that its permissions and masks name
pub record TableNamesRecords (C : Cat) (t : Table) : Type 0 where
  pub policy : IfGiven (HasPolicy C) t.policy
  pub sources : AllByRecursion (HasTable C) (tables_in (mentioned_in t))
  pub calls : AllByRecursion (HasPolicy C) (policies_in (mentioned_in t))

-- the components of a policy are there
abbrev pub PolicyNamesRecords : Cat → Policy → Type 0
PolicyNamesRecords C p = AllByRecursion (HasComponent C) p.components

-- the roles of a user, and the tables and policies of the user's entries
pub record UserNamesRecords (C : Cat) (u : User) : Type 0 where
  pub roles : AllByRecursion (HasRole C) u.roles
  pub granted : AllByRecursion (λ (g : Grant). HasTable C g.table) u.privileges
  pub held : AllByRecursion (λ (h : Holding). HasPolicy C h.policy) u.held

-- every table, policy, component and role that a record names has its record
pub record NamesRecords (C : Cat) : Type 0 where
  pub tables : AllByRecursion (TableNamesRecords C) C.tables
  pub policies : AllByRecursion (PolicyNamesRecords C) C.policies
  pub users : AllByRecursion (UserNamesRecords C) C.users

-- a policy's name is folded, so a text that is no name in upper case is the name of no policy
abbrev pub HasFoldedNames : Cat → Type 0
HasFoldedNames C = AllByRecursion (λ (p : Policy). IsFolded p.name) C.policies

-- the table may be read by a subquery of a permission or mask: it is neither the protected table nor one with a label column
abbrev pub IsGoodSource : Cat → List ℕ → List ℕ → Type 0
IsGoodSource C own n = is_bad_source C own n ≡ false

-- the permissions and masks of the table read such tables alone
abbrev pub ReadsGoodSources : Cat → Table → Type 0
ReadsGoodSources C t = AllByRecursion (IsGoodSource C t.name) (tables_in (mentioned_in t))

-- ---- names and entries

-- the names of a policy's labels
abbrev pub label_names : Policy → List (List ℕ)
label_names p = map (λ l. l.name) p.labels

-- the labels of the policy have different names
abbrev pub HasDifferentLabels : Policy → Type 0
HasDifferentLabels p = AreDifferent (label_names p)

-- one entry for each table, and one for each policy
pub record HasOneEntryEach (u : User) : Type 0 where
  pub privileges : AreDifferent (map (λ g. g.table) u.privileges)
  pub held : AreDifferent (map (λ h. h.policy) u.held)

-- permissions and masks have different names over all tables, labels within their policy; a user has one entry for each table and policy
pub record HasDifferentNames (C : Cat) : Type 0 where
  pub stored : AreDifferent (map stored_name (flat_map stored_in C.tables))
  pub labels : AllByRecursion HasDifferentLabels C.policies
  pub users : AllByRecursion HasOneEntryEach C.users

-- ---- entries

-- the holding isn't empty
abbrev pub HoldsSomething : Holding → Type 0
HoldsSomething h = is_empty_holding h ≡ false

-- the entry gives a privilege
abbrev pub GrantsSomething : Grant → Type 0
GrantsSomething g = has_none g.privileges ≡ false

-- no entry of the user is empty
pub record HasNoEmptyEntry (u : User) : Type 0 where
  pub privileges : AllByRecursion GrantsSomething u.privileges
  pub held : AllByRecursion HoldsSomething u.held
