-- What holds of every change of a sound catalogue.
use Rattle.std.specs.Prelude.{ℕ, ◌≤◌, List, [], length}
use Rattle.lb_base.specs.declared.key.Key.{Key}
use Rattle.lb_base.specs.Names.{IsFolded}
use Rattle.lb_stmt.specs.declared.change.Change.{Change}
use Rattle.lb_stmt.specs.declared.change.Change.TheVariants as changes
use Rattle.lb_stmt.specs.declared.write.Stmt.{Stmt}
use Rattle.lb_cat.specs.declared.cred.Cred.{Cred}
use Rattle.lb_rows.specs.Tables.{Tables}
use Rattle.lb_cat.specs.Catalog.{Cat, first_cat}
use Rattle.lb_cat.specs.Credentials.{cred}
use Rattle.lb_alter.specs.Change.{change}
use Rattle.lb_alter.specs.Deps.{deps}
use Rattle.lb_alter.specs.Fits.{CredFits, TablesFit}
use Rattle.lb_alter.specs.Frame.{SameOn}
use Rattle.lb_alter.specs.Sound.{IsSound}
use Rattle.lb_alter.specs.Steady.{IsSteady}
use Rattle.lb_alter.specs.Stored.{StoredRules}

-- what a statement keeps that was read from a text: CREATE TABLE has an element, a new policy a component, and its name is folded
abbrev pub IsAsRead : Change → Type 0
IsAsRead (changes.CreateTable n es policy) = 1 ≤ length es
IsAsRead (changes.CreatePolicy d) = IsFolded d.name × (1 ≤ length d.components)
IsAsRead s = Unit {0}

-- the first catalogue is sound
abbrev pub FirstIsSound : StoredRules → Type 0
FirstIsSound K = IsSound K first_cat

-- a change of a sound catalogue leaves a sound one
abbrev pub StaysSound : StoredRules → Type 0
StaysSound K = IsSteady K → (C : Cat) (T : Tables) (user : List ℕ) (s : Change) → IsAsRead s → IsSound K C → IsSound K (change K C T user s).cat

-- ---- credentials and rows

-- in a sound catalogue the credentials of each user, with any groups, fit on every list of keys
abbrev pub CredentialsFit : StoredRules → Type 0
CredentialsFit K = (C : Cat) → IsSound K C → (user : List ℕ) (groups : List (List ℕ)) (ks : List Key) → CredFits ks C (cred C user groups)

-- all tables of the catalogue have rows that fit them
abbrev pub AllTablesFit : Cat → Tables → Type 0
AllTablesFit C T = (ks : List Key) → TablesFit ks C T

-- the first catalogue has no tables, and so no rows
abbrev pub FirstTablesFit : Type 0
FirstTablesFit = AllTablesFit first_cat []

-- where the tables of a sound catalogue have rows that fit them, so they do after each change
abbrev pub TablesStayFit : StoredRules → Type 0
TablesStayFit K = (C : Cat) (T : Tables) (user : List ℕ) (s : Change) → IsSound K C → AllTablesFit C T → AllTablesFit (change K C T user s).cat (change K C T user s).tables

-- rows and credentials that fit the second catalogue on what the statement depends on there fit the first on what it depends on there
pub record FitsMove (C D : Cat) (s : Stmt) : Type 0 where
  pub rows : (T : Tables) → TablesFit (deps D s) D T → TablesFit (deps C s) C T
  pub credentials : (c : Cred) → CredFits (deps D s) D c → CredFits (deps C s) C c

-- so they do where both have the same records under what the statement depends on in the first, which is sound
abbrev pub FitsFollow : StoredRules → Type 0
FitsFollow K = (C D : Cat) (s : Stmt) → IsSound K C → SameOn (deps C s) C D → FitsMove C D s
