-- Privileges on tables: what a user was granted, and what a session may do.
use Rattle.std.specs.Prelude.{ℕ, Bool, false, not, ◌||◌, List, find, fold, Option, None, Some, is_some, if◌then◌else◌}
use Rattle.std.specs.Str.{bytes_eq}
use Rattle.lb_stmt.specs.declared.change.Privilege.{Privilege}
use Rattle.lb_stmt.specs.declared.change.Privilege.TheVariants as granted
use Rattle.lb_rows.specs.Lists.{put, without}
use Rattle.lb_cat.specs.declared.refusal.NeededPrivilege.{NeededPrivilege}
use Rattle.lb_cat.specs.declared.refusal.NeededPrivilege.TheVariants as needed
use Rattle.lb_cat.specs.declared.catalog.Privileges.{Privileges}
use Rattle.lb_cat.specs.declared.catalog.Grant.{Grant}
use Rattle.lb_cat.specs.declared.cred.Cred.{Cred}
use Rattle.lb_cat.specs.Catalog.{Table, User}

-- no privilege
abbrev pub no_privileges : Privileges
no_privileges = record { select = false; insert = false; update = false; delete = false }

-- none is given
abbrev pub has_none : Privileges → Bool
has_none p = not (p.select || p.insert || p.update || p.delete)

-- one privilege, given or taken
abbrev pub with_privilege : Bool → Privileges → Privilege → Privileges
with_privilege given p granted.Select = record p { select = given }
with_privilege given p granted.Insert = record p { insert = given }
with_privilege given p granted.Update = record p { update = given }
with_privilege given p granted.Delete = record p { delete = given }

-- some privileges, all given or all taken
abbrev pub with_privileges : Bool → List Privilege → Privileges → Privileges
with_privileges given ps p = fold (with_privilege given) p ps

-- ---- entries of users

-- the entry is of that table
abbrev pub is_grant_on : List ℕ → Grant → Bool
is_grant_on n g = bytes_eq g.table n

-- what an entry gives, if there is one
abbrev pub privileges_in : Option Grant → Privileges
privileges_in None = no_privileges
privileges_in (Some g) = g.privileges

-- what some entries give on the table
abbrev pub privileges_among : List Grant → List ℕ → Privileges
privileges_among gs n = privileges_in (find (is_grant_on n) gs)

-- what the user was granted on the table
abbrev pub privileges_on : List ℕ → User → Privileges
privileges_on n u = privileges_among u.privileges n

-- the entry in the place of the table's; one that is empty is taken away
abbrev pub kept_grant : Grant → List Grant → List Grant
kept_grant g gs = if has_none g.privileges then without (is_grant_on g.table) gs else put (is_grant_on g.table) g gs

-- the user with these privileges on the table, in place of those before
abbrev pub with_granted : List ℕ → Privileges → User → User
with_granted n p u = record u { privileges = kept_grant (record { table = n; privileges = p }) u.privileges }

-- the user has an entry for the table
abbrev pub has_grant_on : List ℕ → User → Bool
has_grant_on n u = is_some (find (is_grant_on n) u.privileges)

-- the user without an entry for the table
abbrev pub without_grant : List ℕ → User → User
without_grant n u = record u { privileges = without (is_grant_on n) u.privileges }

-- ---- what a session may do

-- the privilege is among them; to change a table is none that can be granted
abbrev pub gives : NeededPrivilege → Privileges → Bool
gives needed.Select p = p.select
gives needed.Insert p = p.insert
gives needed.Update p = p.update
gives needed.Delete p = p.delete
gives needed.Control p = false

-- The owner may do everything with a table. Others may do what everybody may, and what they were granted.
abbrev pub may : Cred → NeededPrivilege → Table → Bool
may c which t = bytes_eq t.owner c.user || (gives which t.public || gives which (privileges_among c.privileges t.name))
