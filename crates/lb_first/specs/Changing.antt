-- Users whom a statement changes.
use Rattle.std.specs.Prelude.{ℕ, Bool, List, ◌++◌, map, take, drop, if◌then◌else◌}
use Rattle.lb_cat.specs.Catalog.{Cat, User}

-- who passes the test is changed, and all others stay
abbrev pub changed_where : (User → Bool) → (User → User) → List User → List User
changed_where test change us = map (λ u. if test u then change u else u) us

-- the catalogue while this goes on: so many users have had their turn; it stands in private contracts alone
abbrev pub changed_up_to : (User → Bool) → (User → User) → ℕ → Cat → Cat
changed_up_to test change n C = record C { users = changed_where test change (take n C.users) ++ drop n C.users }
