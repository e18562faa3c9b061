-- What stays: the records and rows of keys that a change doesn't touch, all users, and the dependencies of a statement where their records stay.
use Rattle.std.specs.Prelude.{ℕ, ◌≡◌, true, false, List, find, is_some}
use Rattle.std.specs.List.{AllByRecursion}
use Rattle.lb_base.specs.declared.key.Key.{Key}
use Rattle.lb_base.specs.declared.key.Key.TheVariants as keys
use Rattle.lb_stmt.specs.declared.change.Change.{Change}
use Rattle.lb_stmt.specs.declared.write.Stmt.{Stmt}
use Rattle.lb_rows.specs.Tables.{Tables, is_version}
use Rattle.lb_cat.specs.Keys.{has_key}
use Rattle.lb_cat.specs.Catalog.{Cat, table_named, policy_named, component_named, user_named}
use Rattle.lb_alter.specs.Stored.{StoredRules}
use Rattle.lb_alter.specs.Change.{change}
use Rattle.lb_alter.specs.Deps.{deps, write_deps}

-- the two catalogues have the same record under the key
abbrev pub SameRecord : Cat → Cat → Key → Type 0
SameRecord C D (keys.Table n) = table_named D n ≡ table_named C n
SameRecord C D (keys.Rows n) = Unit {0}
SameRecord C D (keys.Policy n) = policy_named D n ≡ policy_named C n
SameRecord C D (keys.Component n) = component_named D n ≡ component_named C n
SameRecord C D (keys.User n) = user_named D n ≡ user_named C n

-- and the same rows
abbrev pub SameRows : Tables → Tables → Key → Type 0
SameRows T U (keys.Table n) = Unit {0}
SameRows T U (keys.Rows n) = find (is_version n) U ≡ find (is_version n) T
SameRows T U (keys.Policy n) = Unit {0}
SameRows T U (keys.Component n) = Unit {0}
SameRows T U (keys.User n) = Unit {0}

-- a key that a change doesn't touch has the same record and rows
abbrev pub UntouchedStays : StoredRules → Type 0
UntouchedStays K = (C : Cat) (T : Tables) (user : List ℕ) (s : Change) (k : Key) → has_key k (change K C T user s).touched ≡ false
    → SameRecord C (change K C T user s).cat k × SameRows T (change K C T user s).tables k

-- no change takes a user's record away
abbrev pub UsersStay : StoredRules → Type 0
UsersStay K = (C : Cat) (T : Tables) (user : List ℕ) (s : Change) (n : List ℕ) → is_some (user_named C n) ≡ true → is_some (user_named (change K C T user s).cat n) ≡ true

-- the two catalogues have the same records under some keys
abbrev pub SameOn : List Key → Cat → Cat → Type 0
SameOn ks C D = AllByRecursion (SameRecord C D) ks

-- what a statement depends on is the same where the records that it depends on are
abbrev pub DepsStay : Type 0
DepsStay = (C D : Cat) (s : Stmt) → SameOn (deps C s) C D → deps D s ≡ deps C s

-- and so is what the commit of a write depends on
abbrev pub WriteDepsStay : Type 0
WriteDepsStay = (C D : Cat) (s : Stmt) (user : List ℕ) → SameOn (deps C s) C D → write_deps D s user ≡ write_deps C s user
