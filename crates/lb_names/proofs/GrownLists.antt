-- Parts that keep their types when tables get more columns.
use Rattle.std.proofs.Common.{◌&&◌, if◌then◌else◌, ℕ, ◌≡◌, refl, sym, subst, List, [], ◌∷◌, ◌++◌, Bool, true, false, Option, Some, None, map, Ok, Err, ◌<◌, ◌==◌, suc}
use Rattle.std.proofs.Math.Nat.{lt-suc_self, lt_trans}
use Rattle.std.specs.List.{list_any, AllByRecursion}
use Rattle.lb_tree.specs.declared.query.Tab.{Tab}
use Rattle.lb_names.specs.declared.place.Seen.{Seen}
use Rattle.lb_names.specs.declared.place.Spot.{Spot}
use Rattle.lb_names.specs.declared.place.Group.{Group}
use Rattle.lb_names.specs.Sights.{Name, level_in, at_level, items_in}
use Rattle.lb_names.specs.Kinds.{Kind, Common, with_kind}
use Rattle.lb_names.specs.Scopes.{same_spot}
use Rattle.lb_names.specs.Typed.{Typed, ◌>>=◌, only_if}
use Rattle.lb_names.specs.Places.{Place, filter_place, on_place}
use Rattle.lb_names.specs.Carriers.{Means, Says, Wanted, Shows, Joins, Chains, Arms, Choices, Answers, subquery}
use Rattle.lb_names.specs.Parts.{kind_of_all, kind_of_any, kind_of_arm, kind_of_arms, and_kind, kinds_of_choice, kinds_of_choices, all_typed}
use Rattle.lb_names.specs.SelectLists.{outputs_of, joins_typed, chains_typed}
use Rattle.lb_names.specs.Typing.{maybe_typed}

-- what the first gives without refusal, the second gives
abbrev pub Implies : {A : Type 0} → Typed A → Typed A → Type 0
Implies (Ok x) u = u ≡ Ok x
Implies (Err at) u = Unit {0}

pub itself : {A : Type 0} (t : Typed A) → Implies t t
itself (Ok x) = refl
itself (Err at) = tt

pub bind : {A B : Type 0} (t u : Typed A) (f h : A × ℕ → Typed B) → Implies t u → ((x : A × ℕ) → Implies (f x) (h x)) → Implies (t >>= f) (u >>= h)
bind (Ok x) u f h i k = subst (λ z. Implies (f x) (z >>= h)) (sym i) (k x)
bind (Err at) u f h i k = tt

pub only_keep : {A : Type 0} (a b : Bool) (at : ℕ) (x : A × ℕ) → (a ≡ true → b ≡ true) → Implies (only_if a at x) (only_if b at x)
only_keep true b at x h = λ i. only_if (h refl i) at x
only_keep false b at x h = tt

pub if_keep : {A : Type 0} (a b : Bool) (at : ℕ) (t : Typed A) → (a ≡ true → b ≡ true) → Implies (if a then t else Err at) (if b then t else Err at)
if_keep true b at t h = subst (λ z. Implies t (if z then t else Err at)) (sym (h refl)) (itself t)
if_keep false b at t h = tt

pub and_keep : (a b c : Bool) → (b ≡ true → c ≡ true) → (a && b) ≡ true → (a && c) ≡ true
and_keep true b c f h = f h
and_keep false b c f h = h

-- each group is of the same query, and has the columns that it had
abbrev pub GroupsGrow : List Group → List Group → Type 0
GroupsGrow [] [] = Unit {0}
GroupsGrow (g ∷ gs) (h ∷ hs) = ((h.level ≡ g.level) × ((s : Spot) → list_any (same_spot s) g.columns ≡ true → list_any (same_spot s) h.columns ≡ true)) × GroupsGrow gs hs
GroupsGrow _ _ = ⊥

abbrev pub SeenBelow : ℕ → List Seen → Type 0
SeenBelow n seen = AllByRecursion (λ (s : Seen). s.level < n) seen

abbrev pub GroupsBelow : ℕ → List Group → Type 0
GroupsBelow n gs = AllByRecursion (λ (g : Group). AllByRecursion (λ (s : Spot). s.level < n) g.columns) gs

-- a place in a stored condition, in which the items in sight and the columns of groups belong to the queries round a subquery that stands there
abbrev pub GoodPlace : Place → Type 0
GoodPlace P = (P.stored ≡ true) × (SeenBelow (level_in P.sight.seen) P.sight.seen × GroupsBelow (level_in P.sight.seen) P.groups)

abbrev pub with_groups : Place → List Group → Place
with_groups P hs = record P { groups = hs }

abbrev pub KeepMeans : Means → Means → Type 0
KeepMeans m n = ((P : Place) (hs : List Group) → GoodPlace P → GroupsGrow P.groups hs → (at : ℕ) → Implies (m.kind P at) (n.kind (with_groups P hs) at)) × ((m.total ≡ n.total) × (m.sure ≡ n.sure))

abbrev pub Alls : {A B : Type 0} → (A → B → Type 0) → List A → List B → Type 0
Alls R [] [] = Unit {0}
Alls R (x ∷ xs) (y ∷ ys) = R x y × Alls R xs ys
Alls R _ _ = ⊥

abbrev pub KeepSays : Says → Says → Type 0
KeepSays m n = ((P : Place) (hs : List Group) → GoodPlace P → GroupsGrow P.groups hs → (at : ℕ) → Implies (m.typed P at) (n.typed (with_groups P hs) at)) × ((m.total ≡ n.total) × (m.sure ≡ n.sure))

abbrev pub KeepArms : Arms → Arms → Type 0
KeepArms a b = KeepSays a.when b.when × KeepMeans a.result b.result

abbrev pub KeepChoices : Choices → Choices → Type 0
KeepChoices a b = KeepMeans a.when b.when × KeepMeans a.result b.result

abbrev pub KeepJoins : Joins → Joins → Type 0
KeepJoins j k = (j.marked.tab ≡ k.marked.tab) × ((P : Place) (hs : List Group) → GoodPlace P → GroupsGrow P.groups hs → (at : ℕ) → Implies (j.typed P at) (k.typed (with_groups P hs) at))

abbrev pub KeepChains : Chains → Chains → Type 0
KeepChains a b = (P : Place) (hs : List Group) → GoodPlace P → GroupsGrow P.groups hs → (all : List Name) (n : ℕ) → Implies (joins_typed P all (a.first ∷ []) a.joins n) (joins_typed (with_groups P hs) all (b.first ∷ []) b.joins n)

-- the second gives as many nodes, and where one output is wanted the same outputs
abbrev pub Outputs : Bool → Typed (List Kind) → Typed (List Kind) → Type 0
Outputs one (Ok x) u = (ks : List Kind) × ((u ≡ Ok (ks, x.1)) × (one ≡ true → ks ≡ x.0))
Outputs one (Err at) u = Unit {0}

abbrev pub wants : Bool → Bool → Bool → Wanted
wants one grouped distinct = record { one = one; grouped = grouped; distinct = distinct; kinds = None }

-- no column of a group is of a query of that level
abbrev pub ClearGroups : ℕ → List Group → Type 0
ClearGroups n gs = AllByRecursion (λ (g : Group). AllByRecursion (λ (t : Spot). (n == t.level) ≡ false) g.columns) gs

abbrev pub ClearItems : List Seen → List Group → Type 0
ClearItems items gs = AllByRecursion (λ (s : Seen). ClearGroups s.level gs) items

abbrev pub KeepShows : Shows → Shows → Type 0
KeepShows m n = ((one grouped distinct : Bool) (P : Place) (hs : List Group) → GoodPlace P → GroupsGrow P.groups hs → (grouped ≡ false → ClearItems P.sight.own P.groups) → (at : ℕ) → Outputs one (m.outputs (wants one grouped distinct) P at) (n.outputs (wants one grouped distinct) (with_groups P hs) at)) × (m.total ≡ n.total)

abbrev pub KeepAnswers : Answers → Answers → Type 0
KeepAnswers a b = (one : Bool) (P : Place) (hs : List Group) → GoodPlace P → GroupsGrow P.groups hs → (at : ℕ) → Outputs one (a.kinds (subquery one) P at) (b.kinds (subquery one) (with_groups P hs) at)

abbrev pub Maybe : {A B : Type 0} → (A → B → Type 0) → Option A → Option B → Type 0
Maybe R None None = Unit {0}
Maybe R (Some x) (Some y) = R x y
Maybe R _ _ = ⊥

-- ---- parts

pub kinds_all : (ms ns : List Means) → Alls KeepMeans ms ns → (so_far : Common) (P : Place) (hs : List Group) → GoodPlace P → GroupsGrow P.groups hs → (n : ℕ) → Implies (kind_of_all so_far ms P n) (kind_of_all so_far ns (with_groups P hs) n)
kinds_all [] [] h so_far P hs p g n = refl
kinds_all (m ∷ ms) (k ∷ ks) h so_far P hs p g n = bind _ _ _ _ (h.0.0 P hs p g n) (λ x. kinds_all ms ks h.1 (with_kind so_far x.0) P hs p g x.1)
kinds_all [] (k ∷ ks) h so_far P hs p g n = absurd h
kinds_all (m ∷ ms) [] h so_far P hs p g n = absurd h

pub typed_all : (ms ns : List Says) → Alls KeepSays ms ns → (P : Place) (hs : List Group) → GoodPlace P → GroupsGrow P.groups hs → (n : ℕ) → Implies (all_typed ms P n) (all_typed ns (with_groups P hs) n)
typed_all [] [] h P hs p g n = refl
typed_all (m ∷ ms) (k ∷ ks) h P hs p g n = bind _ _ _ _ (h.0.0 P hs p g n) (λ x. typed_all ms ks h.1 P hs p g x.1)
typed_all [] (k ∷ ks) h P hs p g n = absurd h
typed_all (m ∷ ms) [] h P hs p g n = absurd h

arm_keep : (a b : Arms) → KeepArms a b → (P : Place) (hs : List Group) → GoodPlace P → GroupsGrow P.groups hs → (n : ℕ) → Implies (kind_of_arm a P n) (kind_of_arm b (with_groups P hs) n)
unfolding kind_of_arm
arm_keep a b h P hs p g n = bind _ _ _ _ (h.0.0 P hs p g n) (λ x. h.1.0 P hs p g x.1)

pub arms_all : (ms ns : List Arms) → Alls KeepArms ms ns → (so_far : Common) (P : Place) (hs : List Group) → GoodPlace P → GroupsGrow P.groups hs → (n : ℕ) → Implies (kind_of_arms so_far ms P n) (kind_of_arms so_far ns (with_groups P hs) n)
arms_all [] [] h so_far P hs p g n = refl
arms_all (m ∷ ms) (k ∷ ks) h so_far P hs p g n = bind _ _ _ _ (arm_keep m k h.0 P hs p g n) (λ x. arms_all ms ks h.1 (with_kind so_far x.0) P hs p g x.1)
arms_all [] (k ∷ ks) h so_far P hs p g n = absurd h
arms_all (m ∷ ms) [] h so_far P hs p g n = absurd h

choice_keep : (a b : Choices) → KeepChoices a b → (P : Place) (hs : List Group) → GoodPlace P → GroupsGrow P.groups hs → (n : ℕ) → Implies (kinds_of_choice a P n) (kinds_of_choice b (with_groups P hs) n)
unfolding kinds_of_choice and_kind
choice_keep a b h P hs p g n = bind _ _ _ _ (h.0.0 P hs p g n) (λ x. bind _ _ _ _ (h.1.0 P hs p g x.1) (λ y. refl))

pub choices_all : (ms ns : List Choices) → Alls KeepChoices ms ns → (operands results : Common) (P : Place) (hs : List Group) → GoodPlace P → GroupsGrow P.groups hs → (n : ℕ) → Implies (kinds_of_choices operands results ms P n) (kinds_of_choices operands results ns (with_groups P hs) n)
choices_all [] [] h operands results P hs p g n = refl
choices_all (m ∷ ms) (k ∷ ks) h operands results P hs p g n = bind _ _ _ _ (choice_keep m k h.0 P hs p g n) (λ x. choices_all ms ks h.1 (with_kind operands x.0.0) (with_kind results x.0.1) P hs p g x.1)
choices_all [] (k ∷ ks) h operands results P hs p g n = absurd h
choices_all (m ∷ ms) [] h operands results P hs p g n = absurd h

pub any_kind : (m n : Option Means) → Maybe KeepMeans m n → (so_far : Common) (P : Place) (hs : List Group) → GoodPlace P → GroupsGrow P.groups hs → (at : ℕ) → Implies (kind_of_any so_far m P at) (kind_of_any so_far n (with_groups P hs) at)
any_kind None None h so_far P hs p g at = refl
any_kind (Some m) (Some n) h so_far P hs p g at = bind _ _ _ _ (h.0 P hs p g at) (λ x. refl)
any_kind None (Some n) h so_far P hs p g at = absurd h
any_kind (Some m) None h so_far P hs p g at = absurd h

pub maybe_keep : (m n : Option Says) → Maybe KeepSays m n → (P : Place) (hs : List Group) → GoodPlace P → GroupsGrow P.groups hs → (at : ℕ) → Implies (maybe_typed m P at) (maybe_typed n (with_groups P hs) at)
maybe_keep None None h P hs p g at = refl
maybe_keep (Some m) (Some n) h P hs p g at = h.0 P hs p g at
maybe_keep None (Some n) h P hs p g at = absurd h
maybe_keep (Some m) None h P hs p g at = absurd h

-- ---- places

raised : (n : ℕ) (seen : List Seen) → SeenBelow n seen → SeenBelow (suc n) seen
raised n [] h = tt
raised n (s ∷ seen) h = (lt_trans h.0 (lt-suc_self n), raised n seen h.1)

spots_raised : (n : ℕ) (ss : List Spot) → AllByRecursion (λ (s : Spot). s.level < n) ss → AllByRecursion (λ (s : Spot). s.level < suc n) ss
spots_raised n [] h = tt
spots_raised n (s ∷ ss) h = (lt_trans h.0 (lt-suc_self n), spots_raised n ss h.1)

groups_raised : (n : ℕ) (gs : List Group) → GroupsBelow n gs → GroupsBelow (suc n) gs
groups_raised n [] h = tt
groups_raised n (g ∷ gs) h = (spots_raised n g.columns h.0, groups_raised n gs h.1)

items_below : (n : ℕ) (tabs : List Tab) (seen : List Seen) → SeenBelow (suc n) seen → SeenBelow (suc n) (map (at_level n) tabs ++ seen)
items_below n [] seen h = h
items_below n (tab ∷ tabs) seen h = (lt-suc_self n, items_below n tabs seen h)

pub seen_inside : (seen : List Seen) (tabs : List Tab) → SeenBelow (level_in seen) seen → SeenBelow (level_in (items_in seen tabs ++ seen)) (items_in seen tabs ++ seen)
seen_inside seen [] h = h
seen_inside seen (tab ∷ tabs) h = items_below (level_in seen) (tab ∷ tabs) seen (raised (level_in seen) seen h)

pub groups_inside : (seen : List Seen) (tabs : List Tab) (gs : List Group) → GroupsBelow (level_in seen) gs → GroupsBelow (level_in (items_in seen tabs ++ seen)) gs
groups_inside seen [] gs h = h
groups_inside seen (tab ∷ tabs) gs h = groups_raised (level_in seen) gs h

-- in WHERE, GROUP BY and ON
pub good_filter : (P : Place) (tabs : List Tab) → GoodPlace P → GoodPlace (filter_place P tabs)
good_filter P tabs p = (p.0, (seen_inside P.sight.seen tabs p.1.0, groups_inside P.sight.seen tabs P.groups p.1.1))

pub good_on : (P : Place) (all : List Name) (tabs : List Tab) → GoodPlace P → GoodPlace (on_place P all tabs)
good_on P all tabs p = (p.0, (seen_inside P.sight.seen tabs p.1.0, groups_inside P.sight.seen tabs P.groups p.1.1))

-- ---- FROM

pub joins_all : (js ks : List Joins) → Alls KeepJoins js ks → (P : Place) (hs : List Group) → GoodPlace P → GroupsGrow P.groups hs → (all : List Name) (tabs : List Tab) (n : ℕ) → Implies (joins_typed P all tabs js n) (joins_typed (with_groups P hs) all tabs ks n)
joins_all [] [] h P hs p g all tabs n = refl
joins_all (j ∷ js) (k ∷ ks) h P hs p g all tabs n =
    subst (λ (tab : Tab). Implies (joins_typed P all tabs (j ∷ js) n) (k.typed (on_place (with_groups P hs) all (tabs ++ tab ∷ [])) n >>= λ x. joins_typed (with_groups P hs) all (tabs ++ tab ∷ []) ks x.1)) h.0.0
    (bind _ _ _ _ (h.0.1 (on_place P all (tabs ++ j.marked.tab ∷ [])) hs (good_on P all (tabs ++ j.marked.tab ∷ []) p) g n) (λ x. joins_all js ks h.1 P hs p g all (tabs ++ j.marked.tab ∷ []) x.1))
joins_all [] (k ∷ ks) h P hs p g all tabs n = absurd h
joins_all (j ∷ js) [] h P hs p g all tabs n = absurd h

pub chains_all : (cs ds : List Chains) → Alls KeepChains cs ds → (P : Place) (hs : List Group) → GoodPlace P → GroupsGrow P.groups hs → (all : List Name) (n : ℕ) → Implies (chains_typed P all cs n) (chains_typed (with_groups P hs) all ds n)
chains_all [] [] h P hs p g all n = refl
chains_all (c ∷ cs) (d ∷ ds) h P hs p g all n = bind _ _ _ _ (h.0 P hs p g all n) (λ x. chains_all cs ds h.1 P hs p g all x.1)
chains_all [] (d ∷ ds) h P hs p g all n = absurd h
chains_all (c ∷ cs) [] h P hs p g all n = absurd h

-- ---- outputs

pub outputs_of_implies : (one : Bool) (t u : Typed (List Kind)) → Implies t u → Outputs one t u
outputs_of_implies one (Ok x) u h = (x.0, (h, λ _. refl))
outputs_of_implies one (Err at) u h = tt

pub bind_outputs : {A : Type 0} (one : Bool) (t u : Typed A) (f h : A × ℕ → Typed (List Kind)) → Implies t u → ((x : A × ℕ) → Outputs one (f x) (h x)) → Outputs one (t >>= f) (u >>= h)
bind_outputs one (Ok x) u f h i k = subst (λ z. Outputs one (f x) (z >>= h)) (sym i) (k x)
bind_outputs one (Err at) u f h i k = tt

pub outputs_bind : (one : Bool) (t u : Typed (List Kind)) (f h : List Kind × ℕ → Typed (List Kind)) → Outputs one t u → ((x : List Kind × ℕ) (ks : List Kind) → (one ≡ true → ks ≡ x.0) → Outputs one (f x) (h (ks, x.1))) → Outputs one (t >>= f) (u >>= h)
outputs_bind one (Ok x) u f h i k = subst (λ z. Outputs one (f x) (z >>= h)) (sym i.1.0) (k x i.0 i.1.1)
outputs_bind one (Err at) u f h i k = tt

-- what a query gives to IN, EXISTS or a comparison
pub answers_bind : {A : Type 0} (one : Bool) (t u : Typed (List Kind)) (f h : List Kind × ℕ → Typed A) → Outputs one t u → ((x : List Kind × ℕ) (ks : List Kind) → (one ≡ true → ks ≡ x.0) → Implies (f x) (h (ks, x.1))) → Implies (t >>= f) (u >>= h)
answers_bind one (Ok x) u f h i k = subst (λ z. Implies (f x) (z >>= h)) (sym i.1.0) (k x i.0 i.1.1)
answers_bind one (Err at) u f h i k = tt

pub outputs_all : (ms ns : List Shows) → Alls KeepShows ms ns → (so_far others : List Kind) (one grouped distinct : Bool) → (one ≡ true → others ≡ so_far) → (P : Place) (hs : List Group) → GoodPlace P → GroupsGrow P.groups hs → (grouped ≡ false → ClearItems P.sight.own P.groups) → (n : ℕ) → Outputs one (outputs_of ms so_far (wants one grouped distinct) P n) (outputs_of ns others (wants one grouped distinct) (with_groups P hs) n)
outputs_all [] [] h so_far others one grouped distinct e P hs p g c n = (others, (refl, e))
outputs_all (m ∷ ms) (k ∷ ks) h so_far others one grouped distinct e P hs p g c n =
    outputs_bind one _ _ _ _ (h.0.0 one grouped distinct P hs p g c n) (λ x js same. outputs_all ms ks h.1 (so_far ++ x.0) (others ++ js) one grouped distinct (λ w i. e w i ++ same w i) P hs p g c x.1)
outputs_all [] (k ∷ ks) h so_far others one grouped distinct e P hs p g c n = absurd h
outputs_all (m ∷ ms) [] h so_far others one grouped distinct e P hs p g c n = absurd h
