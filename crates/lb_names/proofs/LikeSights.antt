-- Sights that differ in how their FROM items are written alone.
use Rattle.std.proofs.Common.{ℕ, suc, ◌≡◌, refl, ap, List, [], ◌∷◌, ◌++◌, map}
use Rattle.lb_tree.specs.declared.query.Tab.{Tab}
use Rattle.lb_names.specs.declared.place.Seen.{Seen}
use Rattle.lb_names.specs.Sights.{Name, correlation, calls_of, level_in, at_level, Sight, inside, inside_on}

-- items of the same level, table and correlation name
abbrev pub SeenLike : Seen → Seen → Type 0
SeenLike s t = (s.level ≡ t.level) × ((s.tab.table ≡ t.tab.table) × (correlation s.tab ≡ correlation t.tab))

abbrev pub SeenLikes : List Seen → List Seen → Type 0
SeenLikes [] [] = Unit {0}
SeenLikes (s ∷ seen) (t ∷ others) = SeenLike s t × SeenLikes seen others
SeenLikes _ _ = ⊥

abbrev pub SightLike : Sight → Sight → Type 0
SightLike v w = (v.level ≡ w.level) × (SeenLikes v.own w.own × (SeenLikes v.seen w.seen × (v.around ≡ w.around)))

pub level_like : (seen others : List Seen) → SeenLikes seen others → level_in seen ≡ level_in others
level_like [] [] h = refl
level_like (s ∷ seen) (t ∷ others) h = ap suc h.0.0
level_like [] (t ∷ others) h = absurd h
level_like (s ∷ seen) [] h = absurd h

items_like : (n m : ℕ) → n ≡ m → (tabs : List Tab) → SeenLikes (map (at_level n) tabs) (map (at_level m) tabs)
items_like n m e [] = tt
items_like n m e (tab ∷ tabs) = ((e, (refl, refl)), items_like n m e tabs)

seen_before : (n m : ℕ) → n ≡ m → (tabs : List Tab) (seen others : List Seen) → SeenLikes seen others → SeenLikes (map (at_level n) tabs ++ seen) (map (at_level m) tabs ++ others)
seen_before n m e [] seen others h = h
seen_before n m e (tab ∷ tabs) seen others h = ((e, (refl, refl)), seen_before n m e tabs seen others h)

pub inside_like : (v w : Sight) (tabs : List Tab) → SightLike v w → SightLike (inside v tabs) (inside w tabs)
inside_like v w tabs s =
    let e : level_in v.seen ≡ level_in w.seen = level_like v.seen w.seen s.1.1.0 in
    (e, (items_like (level_in v.seen) (level_in w.seen) e tabs, (seen_before (level_in v.seen) (level_in w.seen) e tabs v.seen w.seen s.1.1.0, λ i. calls_of tabs ++ s.1.1.1 i)))

pub inside_on_like : (v w : Sight) (all : List Name) (tabs : List Tab) → SightLike v w → SightLike (inside_on v all tabs) (inside_on w all tabs)
inside_on_like v w all tabs s = let k : SightLike (inside v tabs) (inside w tabs) = inside_like v w tabs s in (k.0, (k.1.0, (k.1.1.0, λ i. all ++ s.1.1.1 i)))
