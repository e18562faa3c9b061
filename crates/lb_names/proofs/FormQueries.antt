-- Queries whose parts have at one sight the types of other parts at another have the same types.
use Rattle.std.proofs.Common.{ℕ, ◌≡◌, refl, ap, sym, ◌∙◌, List, [], ◌∷◌, ◌++◌, Bool, ◌||◌, if◌then◌else◌, Option, None, map}
use Rattle.std.specs.List.{flat_map}
use Rattle.lb_tree.specs.declared.query.Column.{Column}
use Rattle.lb_tree.specs.declared.query.Tab.{Tab}
use Rattle.lb_tree.specs.declared.query.Cond.TheOpen as layers
use Rattle.lb_tree.specs.Folds.{Layer}
use Rattle.lb_names.specs.declared.place.Group.{Group}
use Rattle.lb_names.specs.declared.place.Seen.{Seen}
use Rattle.lb_names.specs.Sights.{Sight, calls_of, inside}
use Rattle.lb_names.specs.Marks.{column, tables_of}
use Rattle.lb_names.specs.Kinds.{Kind}
use Rattle.lb_names.specs.Scopes.{Catalogue, resolve, spots}
use Rattle.lb_names.specs.Qualify.{with_item}
use Rattle.lb_names.specs.Typed.{Typed, next, ◌>>=◌, only_if}
use Rattle.lb_names.specs.Places.{Place, filter_place, having_place, shown_place}
use Rattle.lb_names.specs.Carriers.{Says, Wanted, Shows, Chains, Role, typing, chain_marked}
use Rattle.lb_names.specs.SelectLists.{widths, outputs_of, chains_typed}
use Rattle.lb_names.specs.Typing.{is_listed, group_of, maybe_typed, no_label, group_typed, is_width, query_fits, has_groups, query_step}
use Rattle.lb_names.proofs.Apart.{AllApart}
use Rattle.lb_names.proofs.FormColumns as f
use Rattle.lb_names.proofs.FormLists as l
use Rattle.lb_names.proofs.LikeSights.{SeenLikes, SightLike, level_like}

module _ (C : Catalogue) where
  -- a query with these FROM items: its groups, what is wanted of it, and its kinds
  abbrev groups_over : Layer typing layers.Query-F → Role → Place → List Tab → List Group
  groups_over q R P ts = if has_groups q R then group_of C q.group P ts ∷ P.groups else P.groups

  abbrev wanted_over : Layer typing layers.Query-F → Role → Place → List Tab → Wanted
  wanted_over q R P ts = record { one = R.one; grouped = is_listed q.group; distinct = q.distinct; kinds = if is_width R.wanted (widths q.items (inside P.sight ts).own) then R.wanted else None }

  abbrev kinds_under : Layer typing layers.Query-F → List Tab → List Group → Wanted → Role → Place → ℕ → Typed (List Kind)
  kinds_under q ts groups W R P at =
      outputs_of q.items [] W (shown_place P ts groups) (next at) >>= λ ks.
      chains_typed P (calls_of ts) q.from ks.1 >>= λ f.
      maybe_typed q.filter (filter_place P ts) f.1 >>= λ w.
      group_typed C (filter_place P ts) q.group w.1 >>= λ g.
      maybe_typed q.having (having_place P ts groups) g.1 >>= λ h.
      only_if (query_fits R P ks.0) at (ks.0, h.1)

  abbrev kinds_over : Layer typing layers.Query-F → Role → Place → ℕ → List Tab → Typed (List Kind)
  kinds_over q R P at ts = kinds_under q ts (groups_over q R P ts) (wanted_over q R P ts) R P at

  group_same : (v w : Sight) → SeenLikes v.seen w.seen → (cs : List Column) → AllApart (map (column v.seen) cs) → (P : Place) (n : ℕ) → group_typed C (l.at_sight P v) cs n ≡ group_typed C (l.at_sight P w) (map (with_item C v.seen) cs) n
  group_same v w s [] h P n = refl
  group_same v w s (c ∷ cs) h P n = λ i. f.kind_like C v w (resolve C v.seen c) (resolve C w.seen (with_item C v.seen c)) (f.resolve_like C v.seen w.seen s h.0 c) P n i >>= no_label n >>= λ x. group_same v w s cs h.1 P x.1 i

  spots_same : (seen others : List Seen) → SeenLikes seen others → (cs : List Column) → AllApart (map (column seen) cs) → flat_map (λ c. spots (resolve C seen c)) cs ≡ flat_map (λ c. spots (resolve C others c)) (map (with_item C seen) cs)
  spots_same seen others s [] h = refl
  spots_same seen others s (c ∷ cs) h = λ i. f.spots_like C (resolve C seen c) (resolve C others (with_item C seen c)) (f.resolve_like C seen others s h.0 c) i ++ spots_same seen others s cs h.1 i

  listed_same : (seen : List Seen) (cs : List Column) → is_listed cs ≡ is_listed (map (with_item C seen) cs)
  listed_same seen [] = refl
  listed_same seen (c ∷ cs) = refl

  module _ (v w : Sight) (s : SightLike v w) (tabs : List Tab) (inner : SightLike (inside v tabs) (inside w tabs)) (distinct : Bool) (group : List Column) (apart : AllApart (map (column (inside v tabs).seen) group)) (items others : List Shows) (same_items : l.Alls (l.SameShows (inside v tabs) (inside w tabs)) items others) (from chains : List Chains) (same_from : (P : Place) (n : ℕ) → chains_typed (l.at_sight P v) (calls_of tabs) from n ≡ chains_typed (l.at_sight P w) (calls_of tabs) chains n) (filter where_ : Option Says) (same_filter : l.Maybe (l.SameSays (inside v tabs) (inside w tabs)) filter where_) (having having_ : Option Says) (same_having : l.Maybe (l.SameSays (inside v tabs) (inside w tabs)) having having_) (tabs_c : tables_of (map chain_marked from) ≡ tabs) (tabs_d : tables_of (map chain_marked chains) ≡ tabs) where
    abbrev inside_v : Sight
    inside_v = inside v tabs

    abbrev inside_w : Sight
    inside_w = inside w tabs

    abbrev query_c : Layer typing layers.Query-F
    query_c = record { distinct = distinct; items = items; from = from; filter = filter; group = group; having = having }

    abbrev query_d : Layer typing layers.Query-F
    query_d = record { distinct = distinct; items = others; from = chains; filter = where_; group = map (with_item C inside_v.seen) group; having = having_ }

    groups_path : (R : Role) (P : Place) → groups_over query_c R (l.at_sight P v) tabs ≡ groups_over query_d R (l.at_sight P w) tabs
    groups_path R P = λ i. if listed_same inside_v.seen group i || (l.is_some_same inside_v inside_w having having_ same_having i || (R.total || l.show_totals inside_v inside_w items others same_items i)) then record { level = level_like v.seen w.seen s.1.1.0 i; columns = spots_same inside_v.seen inside_w.seen inner.1.1.0 group apart i } ∷ P.groups else P.groups

    wanted_path : (R : Role) (P : Place) → wanted_over query_c R (l.at_sight P v) tabs ≡ wanted_over query_d R (l.at_sight P w) tabs
    wanted_path R P = λ i. record { one = R.one; grouped = listed_same inside_v.seen group i; distinct = distinct; kinds = if is_width R.wanted (l.widths_all inside_v inside_w items others same_items i) then R.wanted else None }

    kinds_path : (R : Role) (P : Place) (at : ℕ) → kinds_over query_c R (l.at_sight P v) at tabs ≡ kinds_over query_d R (l.at_sight P w) at tabs
    kinds_path R P at =
        let groups : List Group = groups_over query_c R (l.at_sight P v) tabs in
        (λ i.
        l.outputs_all inside_v inside_w items others same_items [] (wanted_over query_c R (l.at_sight P v) tabs) (shown_place P tabs groups) (next at) i >>= λ ks.
        same_from P ks.1 i >>= λ f.
        l.maybe_same inside_v inside_w filter where_ same_filter (filter_place P tabs) f.1 i >>= λ w.
        group_same inside_v inside_w inner.1.1.0 group apart (filter_place P tabs) w.1 i >>= λ g.
        l.maybe_same inside_v inside_w having having_ same_having (having_place P tabs groups) g.1 i >>= λ h.
        only_if (query_fits R P ks.0) at (ks.0, h.1))
        ∙ (λ i. kinds_under query_d tabs (groups_path R P i) (wanted_path R P i) R (l.at_sight P w) at)

    pub query_same : l.SameAnswers v w (query_step C query_c) (query_step C query_d)
    query_same R P at = ap (λ ts. kinds_over query_c R (l.at_sight P v) at ts) tabs_c ∙ kinds_path R P at ∙ sym (ap (λ ts. kinds_over query_d R (l.at_sight P w) at ts) tabs_d)
