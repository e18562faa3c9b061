-- The types of a query at a place, by those of its parts where they stand.
use Rattle.std.proofs.Common.{ℕ, ◌≡◌, ap, sym, ◌∙◌, List, [], ◌∷◌, ◌++◌, map, Ok, true, false}
use Rattle.std.specs.List.{flat_map}
use Rattle.std.specs.Option.{option_map}
use Rattle.std.specs.Prelude.{if◌then◌else◌}
use Rattle.lb_tree.specs.declared.query.Tab.{Tab}
use Rattle.lb_tree.specs.declared.query.Query.{Query}
use Rattle.lb_tree.specs.declared.query.Cond.TheViews.{out-Query}
use Rattle.lb_tree.specs.Folds as folds
use Rattle.lb_names.specs.declared.place.Group.{Group}
use Rattle.lb_names.specs.Sights.{Sight, inside, calls_of}
use Rattle.lb_names.specs.Marks.{marked, mark_steps, tables_of}
use Rattle.lb_names.specs.Kinds.{Kind}
use Rattle.lb_names.specs.Scopes.{Catalogue, resolve, spots}
use Rattle.lb_names.specs.Typed.{Typed, next, ◌>>=◌, only_if}
use Rattle.lb_names.specs.Places.{Place}
use Rattle.lb_names.specs.Carriers.{Wanted, Role, Answers}
use Rattle.lb_names.specs.SelectLists.{outputs_of, chains_typed}
use Rattle.lb_names.specs.Typing.{says, shows, answers, is_listed, has_groups, maybe_typed, group_typed, query_fits}
use Rattle.lb_walk.specs.Opened.{chain_of, query_in}
use Rattle.lb_walk.proofs.Opens.{answers_out}
use Rattle.lb_walk.proofs.OwnQueries.{tables_are}
use Rattle.lb_types.specs.Within.{paired_kinds}

-- the tables of FROM
abbrev pub tables_in : Query → List Tab
tables_in x = tables_of (map (folds.chain_of marked mark_steps) (out-Query x).from)

module _ (C : Catalogue) where
  -- the groups of a query with that sight under the outer ones
  abbrev pub groups_in : Query → Role → Sight → List Group → List Group
  groups_in x R v outer = if has_groups (query_in C x) R then record { level = v.level; columns = flat_map (λ c. spots (resolve C v.seen c)) (out-Query x).group } ∷ outer else outer

  -- what is wanted of its select list
  abbrev pub wanted_in_query : Query → Role → Sight → Wanted
  wanted_in_query x R v = record { one = R.one; grouped = is_listed (out-Query x).group; distinct = (out-Query x).distinct; kinds = paired_kinds C (map (shows C) (out-Query x).items) R.wanted v }

  -- the select list and ORDER BY, WHERE and GROUP BY, and HAVING
  abbrev pub shown_in : Place → Sight → List Group → Place
  shown_in P v groups = record P { sight = v; groups = groups; subqueries = false; aggregates = true }

  abbrev pub filter_in : Place → Sight → Place
  filter_in P v = record P { sight = v; subqueries = true; aggregates = false }

  abbrev pub having_in : Place → Sight → List Group → Place
  having_in P v groups = record P { sight = v; groups = groups; subqueries = true; aggregates = true }

  -- the clauses of a query at their places, in order
  abbrev pub over : Query → Role → Place → ℕ → List Tab → Place → Place → Place → Wanted → Typed (List Kind)
  over x R P at tabs shown filter having W =
      outputs_of (map (shows C) (out-Query x).items) [] W shown (next at) >>= λ ks.
      chains_typed P (calls_of tabs) (map (chain_of C) (out-Query x).from) ks.1 >>= λ f.
      maybe_typed (option_map (says C) (out-Query x).filter) filter f.1 >>= λ w.
      group_typed C filter (out-Query x).group w.1 >>= λ g.
      maybe_typed (option_map (says C) (out-Query x).having) having g.1 >>= λ h.
      only_if (query_fits R P ks.0) at (ks.0, h.1)

  -- from what its clauses see
  abbrev from_sight : Query → Role → Place → ℕ → List Tab → Sight → Typed (List Kind)
  from_sight x R P at tabs v = over x R P at tabs (shown_in P v (groups_in x R v P.groups)) (filter_in P v) (having_in P v (groups_in x R v P.groups)) (wanted_in_query x R v)

  pub query_is : (x : Query) (R : Role) (P : Place) (at : ℕ) (v : Sight) (groups : List Group) (W : Wanted) (shown filter having : Place)
      → v ≡ inside P.sight (tables_in x) → groups ≡ groups_in x R v P.groups → W ≡ wanted_in_query x R v
      → shown ≡ shown_in P v groups → filter ≡ filter_in P v → having ≡ having_in P v groups
      → (answers C x).kinds R P at ≡ over x R P at (tables_in x) shown filter having W
  query_is x R P at v groups W shown filter having seen grouped wanted s f h =
      ap (λ (a : Answers). a.kinds R P at) (answers_out C x)
      ∙ ap (λ tabs. from_sight x R P at tabs (inside P.sight tabs)) (tables_are C (out-Query x).from)
      ∙ ap (from_sight x R P at (tables_in x)) (sym seen)
      ∙ (λ i. over x R P at (tables_in x) (shown_in P v (sym grouped i)) (filter_in P v) (having_in P v (sym grouped i)) (sym wanted i))
      ∙ (λ i. over x R P at (tables_in x) (sym s i) (sym f i) (sym h i) W)

  pub around_is : (x : Query) (P : Place) (v : Sight) → v ≡ inside P.sight (tables_in x) → v.around ≡ calls_of (tables_in x) ++ P.sight.around
  around_is x P v h = ap (λ (s : Sight). s.around) h

  -- where its select list and its ORDER BY stand
  pub shown_is : (x : Query) (R : Role) (P : Place) (v : Sight) (groups : List Group) → v ≡ inside P.sight (tables_in x) → groups ≡ groups_in x R v P.groups → (answers C x).shown R P ≡ shown_in P v groups
  shown_is x R P v groups seen grouped =
      ap (λ (a : Answers). a.shown R P) (answers_out C x)
      ∙ ap (λ tabs. shown_in P (inside P.sight tabs) (groups_in x R (inside P.sight tabs) P.groups)) (tables_are C (out-Query x).from)
      ∙ ap (λ w. shown_in P w (groups_in x R w P.groups)) (sym seen)
      ∙ (λ i. shown_in P v (sym grouped i))

  -- a query that stops at one of its clauses, and one that goes to its end
  module _ (x : Query) (R : Role) (P : Place) (at : ℕ) (tabs : List Tab) (shown filter having : Place) (W : Wanted) where
    abbrev items_first : Typed (List Kind)
    items_first = outputs_of (map (shows C) (out-Query x).items) [] W shown (next at)

    abbrev from_next : ℕ → Typed (Unit {0})
    from_next n = chains_typed P (calls_of tabs) (map (chain_of C) (out-Query x).from) n

    abbrev where_next : ℕ → Typed (Unit {0})
    where_next n = maybe_typed (option_map (says C) (out-Query x).filter) filter n

    abbrev group_next : ℕ → Typed (Unit {0})
    group_next n = group_typed C filter (out-Query x).group n

    abbrev having_next : ℕ → Typed (Unit {0})
    having_next n = maybe_typed (option_map (says C) (out-Query x).having) having n

    abbrev last : List Kind → ℕ → Typed (List Kind)
    last ks n = only_if (query_fits R P ks) at (ks, n)

    abbrev whole : Typed (List Kind)
    whole = over x R P at tabs shown filter having W

    pub after_items : (ks : List Kind × ℕ) → items_first ≡ Ok ks
        → whole ≡ (from_next ks.1 >>= λ f. where_next f.1 >>= λ w. group_next w.1 >>= λ g. having_next g.1 >>= λ h. last ks.0 h.1)
    after_items ks h = ap (λ (y : Typed (List Kind)). y >>= λ ks. from_next ks.1 >>= λ f. where_next f.1 >>= λ w. group_next w.1 >>= λ g. having_next g.1 >>= λ h. last ks.0 h.1) h

    pub after_from : (ks : List Kind × ℕ) (n : ℕ) → items_first ≡ Ok ks → from_next ks.1 ≡ Ok (tt, n)
        → whole ≡ (where_next n >>= λ w. group_next w.1 >>= λ g. having_next g.1 >>= λ h. last ks.0 h.1)
    after_from ks n h k = after_items ks h ∙ ap (λ (y : Typed (Unit {0})). y >>= λ f. where_next f.1 >>= λ w. group_next w.1 >>= λ g. having_next g.1 >>= λ h. last ks.0 h.1) k

    pub after_where : (ks : List Kind × ℕ) (n m : ℕ) → items_first ≡ Ok ks → from_next ks.1 ≡ Ok (tt, n) → where_next n ≡ Ok (tt, m)
        → whole ≡ (group_next m >>= λ g. having_next g.1 >>= λ h. last ks.0 h.1)
    after_where ks n m h k l = after_from ks n h k ∙ ap (λ (y : Typed (Unit {0})). y >>= λ w. group_next w.1 >>= λ g. having_next g.1 >>= λ h. last ks.0 h.1) l

    pub after_group : (ks : List Kind × ℕ) (n m i : ℕ) → items_first ≡ Ok ks → from_next ks.1 ≡ Ok (tt, n) → where_next n ≡ Ok (tt, m) → group_next m ≡ Ok (tt, i)
        → whole ≡ (having_next i >>= λ h. last ks.0 h.1)
    after_group ks n m i h k l p = after_where ks n m h k l ∙ ap (λ (y : Typed (Unit {0})). y >>= λ g. having_next g.1 >>= λ h. last ks.0 h.1) p

    pub after_having : (ks : List Kind × ℕ) (n m i j : ℕ) → items_first ≡ Ok ks → from_next ks.1 ≡ Ok (tt, n) → where_next n ≡ Ok (tt, m) → group_next m ≡ Ok (tt, i) → having_next i ≡ Ok (tt, j)
        → whole ≡ last ks.0 j
    after_having ks n m i j h k l p q = after_group ks n m i h k l p ∙ ap (λ (y : Typed (Unit {0})). y >>= λ h. last ks.0 h.1) q
