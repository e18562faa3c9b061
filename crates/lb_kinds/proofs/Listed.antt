-- The kinds of a query without a broken node are those of its select list, and may stand where the query does.
use Rattle.std.proofs.Common.{ℕ, ◌≡◌, subst, ap, true, List, [], map, Ok, option_map}
use Rattle.lb_tree.specs.declared.query.Tab.{Tab}
use Rattle.lb_tree.specs.declared.query.Item.{Item}
use Rattle.lb_tree.specs.declared.query.Cond.TheOpen as layers
use Rattle.lb_tree.specs.Folds.{Written, item_of, chain_of, cond_of}
use Rattle.lb_names.specs.declared.place.Group.{Group}
use Rattle.lb_names.specs.Sights.{calls_of}
use Rattle.lb_names.specs.Kinds.{Kind}
use Rattle.lb_names.specs.Marks.{tables_of}
use Rattle.lb_names.specs.Scopes.{Catalogue}
use Rattle.lb_names.specs.Typed as typings
use Rattle.lb_names.specs.Typed.{Typed, next, only_if}
use Rattle.lb_names.specs.Places.{Place, filter_place, having_place, shown_place}
use Rattle.lb_names.specs.Carriers as typed
use Rattle.lb_names.specs.SelectLists.{outputs_of, chains_typed}
use Rattle.lb_names.specs.Typing.{steps as typed_steps, maybe_typed, group_typed, query_fits, wanted_of, groups_of, query_kinds}
use Rattle.lb_kinds.proofs.Typings.{Bound, bound, is_if}

module _ (C : Catalogue) where
  abbrev pub NI : Item → typed.Shows
  NI = item_of typed.typing (typed_steps C)

  abbrev pub NLayer : Written layers.Query-F → layers.Query-F typed.Says typed.Means typed.Shows typed.Joins typed.Arms typed.Chains typed.Choices typed.Answers typed.Means
  NLayer x = record { distinct = x.distinct; items = map NI x.items; from = map (chain_of typed.typing (typed_steps C)) x.from; filter = option_map (cond_of typed.typing (typed_steps C)) x.filter; group = x.group; having = option_map (cond_of typed.typing (typed_steps C)) x.having }

  abbrev pub tabs_of : Written layers.Query-F → List Tab
  tabs_of x = tables_of (map typed.chain_marked (map (chain_of typed.typing (typed_steps C)) x.from))

  -- the kinds of a query are those of its select list
  abbrev pub ListOf : Written layers.Query-F → typed.Role → Place → ℕ → List Kind → Type 0
  ListOf x R P n ks = (y : List Kind × ℕ) × (outputs_of (map NI x.items) [] (wanted_of (NLayer x) R P) (shown_place P (tabs_of x) (groups_of C (NLayer x) R P)) (next n) ≡ Ok y) × (y.0 ≡ ks) × (query_fits R P ks ≡ true)

  module _ (x : Written layers.Query-F) (R : typed.Role) (P : Place) (n : ℕ) where
    abbrev L : layers.Query-F typed.Says typed.Means typed.Shows typed.Joins typed.Arms typed.Chains typed.Choices typed.Answers typed.Means
    L = NLayer x

    abbrev tabs : List Tab
    tabs = tabs_of x

    abbrev groups : List Group
    groups = groups_of C L R P

    abbrev from_having : List Kind × ℕ → Unit {0} × ℕ → Typed (List Kind)
    from_having ks g = typings.◌>>=◌ (maybe_typed L.having (having_place P tabs groups) g.1) (λ h. only_if (query_fits R P ks.0) n (ks.0, h.1))

    abbrev from_group : List Kind × ℕ → Unit {0} × ℕ → Typed (List Kind)
    from_group ks w = typings.◌>>=◌ (group_typed C (filter_place P tabs) x.group w.1) (from_having ks)

    abbrev from_filter : List Kind × ℕ → Unit {0} × ℕ → Typed (List Kind)
    from_filter ks f = typings.◌>>=◌ (maybe_typed L.filter (filter_place P tabs) f.1) (from_group ks)

    abbrev from_chains : List Kind × ℕ → Typed (List Kind)
    from_chains ks = typings.◌>>=◌ (chains_typed P (calls_of tabs) L.from ks.1) (from_filter ks)

    pub kinds_listed : (ks : List Kind) (j : ℕ) → query_kinds C L tabs groups R P n ≡ Ok (ks, j) → ListOf x R P n ks
    kinds_listed ks j e =
        let a : Bound (outputs_of (map NI x.items) [] (wanted_of L R P) (shown_place P tabs groups) (next n)) from_chains (ks, j) = bound (outputs_of (map NI x.items) [] (wanted_of L R P) (shown_place P tabs groups) (next n)) from_chains (ks, j) e in
        let f : Bound (chains_typed P (calls_of tabs) L.from a.0.1) (from_filter a.0) (ks, j) = bound (chains_typed P (calls_of tabs) L.from a.0.1) (from_filter a.0) (ks, j) a.2 in
        let w : Bound (maybe_typed L.filter (filter_place P tabs) f.0.1) (from_group a.0) (ks, j) = bound (maybe_typed L.filter (filter_place P tabs) f.0.1) (from_group a.0) (ks, j) f.2 in
        let g : Bound (group_typed C (filter_place P tabs) x.group w.0.1) (from_having a.0) (ks, j) = bound (group_typed C (filter_place P tabs) x.group w.0.1) (from_having a.0) (ks, j) w.2 in
        let h : Bound (maybe_typed L.having (having_place P tabs groups) g.0.1) (λ h. only_if (query_fits R P a.0.0) n (a.0.0, h.1)) (ks, j) = bound (maybe_typed L.having (having_place P tabs groups) g.0.1) (λ h. only_if (query_fits R P a.0.0) n (a.0.0, h.1)) (ks, j) g.2 in
        let z : (query_fits R P a.0.0 ≡ true) × ◌≡◌ {A = List Kind × ℕ} (a.0.0, h.0.1) (ks, j) = is_if (query_fits R P a.0.0) n (a.0.0, h.0.1) (ks, j) h.2 in
        let same : a.0.0 ≡ ks = ap (λ y. y.0) z.1 in
        (a.0, a.1, same, subst (λ k. query_fits R P k ≡ true) same z.0)
