-- What the code of typing is given and what it gives, as the definitions see it.
use Rattle.std.specs.Prelude.{ℕ, ◌≡◌, List, map, Option, None, Some, Result, Ok, Err}
use Rattle.std.specs.List.{flat_map}
use Rattle.std.specs.Borrow.{Bor}
use Rattle.lb_names.specs.declared.place.Group.{Group}
use Rattle.lb_names.specs.Kinds as kinds
use Rattle.lb_names.specs.Scopes.{Catalogue, resolve, spots}
use Rattle.lb_names.specs.Typed.{Typed}
use Rattle.lb_names.specs.Places as places
use Rattle.lb_names.specs.Carriers as carriers
use Rattle.lb_scope.specs.declared.kind.Kind.{Kind}
use Rattle.lb_scope.specs.Found.{kind_in}
use Rattle.lb_types.specs.declared.place.GroupBy.{GroupBy}
use Rattle.lb_types.specs.declared.place.Place.{Place}
use Rattle.lb_types.specs.declared.place.Role.{Role}
use Rattle.lb_types.specs.declared.stop.Stop.{Stop}
use Rattle.lb_types.specs.declared.stop.Stop.TheVariants.{Broken, NoMemory}

-- ---- kinds

-- kinds in order
abbrev pub kinds_in : List Kind → List kinds.Kind
kinds_in ks = map kind_in ks

-- ---- places

module _ (C : Catalogue) where
  -- the grouping columns of a query
  abbrev pub group_in : GroupBy → Group
  group_in g = record { level = g.sight.now.level; columns = flat_map (λ c. spots (resolve C g.sight.now.seen c)) g.columns.now }

  -- a place in a statement
  abbrev pub place_in : Place → places.Place
  place_in P = record { sight = P.sight.now; groups = map group_in P.groups.now; subqueries = P.subqueries; aggregates = P.aggregates; within = P.within; stored = P.stored }

-- the kinds that are lent, where some are
abbrev pub lent_kinds : Option (Bor (List Kind)) → Option (List kinds.Kind)
lent_kinds None = None
lent_kinds (Some ks) = Some (kinds_in ks.now)

-- what a query is for
abbrev pub role_in : Role → carriers.Role
role_in R = record { subquery = R.subquery; one = R.one; total = R.total; wanted = lent_kinds R.wanted }

-- ---- results

-- what ended typing is what the definition gives, unless memory ran out
abbrev pub Stops : {A : Type 0} → Stop → Typed A → Type 0
Stops (Broken n) out = out ≡ Err n
Stops NoMemory out = Unit {0}

-- what the definition gives, unless memory ran out
abbrev pub Gives : {A B : Type 0} → (A → B) → Result (A × ℕ) Stop → Typed B → Type 0
Gives see (Ok x) out = out ≡ Ok (see x.0, x.1)
Gives see (Err e) out = Stops e out

-- the same for what has no kind
abbrev pub Goes : Result ℕ Stop → Typed (Unit {0}) → Type 0
Goes (Ok n) out = out ≡ Ok (tt, n)
Goes (Err e) out = Stops e out
