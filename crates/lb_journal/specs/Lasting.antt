-- What lasts as long as no stamp of what a statement depends on moves: that a plan is right, and what a write depends on.
use Rattle.std.specs.Prelude.{ℕ, ℤ, ◌≡◌, ◌↔◌, true, List, length}
use Rattle.std.specs.List.{AllByRecursion}
use Rattle.lb_base.specs.declared.key.Key.{Key}
use Rattle.lb_base.specs.declared.key.Key.TheVariants as keys
use Rattle.lb_stmt.specs.declared.write.Stmt.{Stmt}
use Rattle.lb_rows.specs.Tables.{Tables}
use Rattle.lb_cat.specs.declared.cred.Cred.{Cred}
use Rattle.lb_cat.specs.Catalog.{Cat}
use Rattle.lb_cat.specs.Credentials.{cred, held_of}
use Rattle.lb_cat.specs.Keys.{has_key}
use Rattle.lb_cat.specs.declared.entry.Entry.{Entry}
use Rattle.lb_alter.specs.Deps.{deps, write_deps}
use Rattle.lb_alter.specs.Frame.{SameOn}
use Rattle.lb_alter.specs.Sound.{IsSound}
use Rattle.lb_alter.specs.Naming.{stored_rules}
use Rattle.lb_journal.specs.Rules.{answered_to}
use Rattle.lb_journal.specs.State.{State}
use Rattle.lb_journal.specs.Replay.{Runs, Replay}
use Rattle.lb_journal.specs.Laws.{SameAt}
use Rattle.lb_journal.specs.Engine.{Meaning, Condition, RightFor}

-- the keys have the same stamps in both states
abbrev pub SameStamps : List Key → State → State → Type 0
SameStamps ks S T = AllByRecursion (λ (k : Key). T.stamp k ≡ S.stamp k) ks

-- A plan is right for a statement where some entries of a journal stand exactly where it is right where some more stand, if no stamp of what
-- the statement depends on has moved.
abbrev pub RightLasts : {P : Type 0} → Meaning P → Condition P → Type 0
RightLasts {P = P} means takes =
    (p : P) (s : Stmt) (J K : List Entry) (S T : State)
    → Replay J S → IsSound stored_rules S.cat → IsSound stored_rules T.cat → Runs (length J) S K T → SameStamps (deps S.cat s) S T → RightFor means takes p S.cat s ↔ RightFor means takes p T.cat s

-- in sound catalogues, equal records under what a statement depends on give it one answer
abbrev pub AnswerStays : Type 0
AnswerStays = (C D : Cat) (c : Cred) (T : Tables) (day : ℤ) (s : Stmt) → IsSound stored_rules C → IsSound stored_rules D → SameOn (deps C s) C D → answered_to C c T day s ≡ answered_to D c T day s

-- ---- writes

-- The second credentials are the first ones, but for what is held of policies that aren't among the keys, of which nothing is said.
pub record SameCredentials (ks : List Key) (c d : Cred) : Type 0 where
  pub user : d.user ≡ c.user
  pub groups : d.groups ≡ c.groups
  pub roles : d.roles ≡ c.roles
  pub secadm : d.secadm ≡ c.secadm
  pub privileges : d.privileges ≡ c.privileges
  pub held : (n : List ℕ) → has_key (keys.Policy n) ks ≡ true → held_of d n ≡ held_of c n

-- What is the same of a write of the user in the second state as in the first: the keys that its commit depends on, the record and the rows under
-- each of them, and the credentials of each of the user's sessions, so far as these keys decide them.
pub record WriteStays (S T : State) (s : Stmt) (user : List ℕ) : Type 0 where
  pub dependencies : write_deps T.cat s user ≡ write_deps S.cat s user
  pub records : AllByRecursion (λ (k : Key). SameAt k S T) (write_deps S.cat s user)
  pub credentials : (groups : List (List ℕ)) → SameCredentials (write_deps S.cat s user) (cred S.cat user groups) (cred T.cat user groups)

-- so it is after some more entries, if no stamp of what the commit of the write depends on has moved
abbrev pub WriteDependenciesLast : Type 0
WriteDependenciesLast =
    (J K : List Entry) (S T : State) (s : Stmt) (user : List ℕ) → Replay J S → Runs (length J) S K T → SameStamps (write_deps S.cat s user) S T → WriteStays S T s user

-- A write of a user with these groups, on that day, has one answer before and after, and leaves the same rows of its target, if no stamp of what
-- its commit depends on has moved, in sound catalogues. So it is of a query.
abbrev pub WritesAgain : Type 0
WritesAgain =
    (J K : List Entry) (S T : State) (s : Stmt) (user : List ℕ) (groups : List (List ℕ)) (day : ℤ)
    → Replay J S → Runs (length J) S K T → IsSound stored_rules S.cat → IsSound stored_rules T.cat → SameStamps (write_deps S.cat s user) S T
    → answered_to S.cat (cred S.cat user groups) S.tables day s ≡ answered_to T.cat (cred T.cat user groups) T.tables day s
