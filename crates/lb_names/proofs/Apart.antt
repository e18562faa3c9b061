-- The items in sight in a stored condition whose FROM items are not refused have different correlation names.
use Rattle.std.proofs.Common.{ℕ, ◌≡◌, refl, ap, sym, subst, ◌∙◌, List, [], ◌∷◌, ◌++◌, Bool, true, false, cond, not, ◌&&◌, ◌||◌, Some, None, map}
use Rattle.std.specs.List.{AllByRecursion}
use Rattle.std.specs.Str.{bytes_eq}
use Rattle.std.proofs.lemmas.Slice.Eq.{bytes_eq-Decides}
use Rattle.std.proofs.lemmas.List.{append_assoc}
use Rattle.lb_tree.specs.declared.query.Column.{Column}
use Rattle.lb_tree.specs.declared.query.Tab.{Tab}
use Rattle.lb_names.specs.declared.place.Seen.{Seen}
use Rattle.lb_names.specs.declared.refused.Refused.{Refused}
use Rattle.lb_names.specs.declared.refused.Refused.TheVariants.{Unknown, Exists}
use Rattle.lb_names.specs.Sights.{Name, correlation, calls_of, level_in, at_level, Sight, inside, inside_on}
use Rattle.lb_names.specs.Marks.{Mark, enter, item, column, star, call, Marks, JoinMarks, ChainMarks, tables_of, tables_of_chain, joins_marks, chains_marks}
use Rattle.lb_names.specs.Scopes.{Catalogue, is_some}
use Rattle.lb_names.specs.Passes.{holds, is_called, refusal_if, item_refusal}
use Rattle.lb_names.specs.Laws.{are_apart}

-- the items in sight of a column have different correlation names
abbrev pub IsApart : Mark → Type 0
IsApart (enter items) = Unit {0}
IsApart (item before around tab) = Unit {0}
IsApart (column seen c) = are_apart seen ≡ true
IsApart (star items x) = Unit {0}
IsApart (call a) = Unit {0}

abbrev pub AllApart : Marks → Type 0
AllApart [] = Unit {0}
AllApart (m ∷ ms) = IsApart m × AllApart ms

pub both : (xs ys : Marks) → AllApart xs → AllApart ys → AllApart (xs ++ ys)
both [] ys h k = k
both (x ∷ xs) ys h k = (h.0, both xs ys h.1 k)

pub columns_apart : (seen : List Seen) → are_apart seen ≡ true → (cs : List Column) → AllApart (map (column seen) cs)
columns_apart seen a [] = tt
columns_apart seen a (c ∷ cs) = (a, columns_apart seen a cs)

abbrev pub Covered : List Seen → List Name → Type 0
Covered seen names = AllByRecursion (λ (s : Seen). holds (correlation s.tab) names ≡ true) seen

-- what is in sight has different correlation names, all of which are taken
abbrev pub Good : Sight → Type 0
Good v = (are_apart v.seen ≡ true) × Covered v.seen v.around

abbrev Within : List Name → List Tab → Type 0
Within names tabs = AllByRecursion (λ (t : Tab). holds (correlation t) names ≡ true) tabs

-- none of the tables has a name that is before it or round it
abbrev Fresh : List Name → List Name → List Tab → Type 0
Fresh before around [] = Unit {0}
Fresh before around (t ∷ ts) = ((holds (correlation t) before ≡ false) × (holds (correlation t) around ≡ false)) × Fresh (before ++ correlation t ∷ []) around ts

itself : (n : Name) → bytes_eq n n ≡ true
itself n = (bytes_eq-Decides n n).1 refl

or_left : (a b : Bool) → a ≡ true → (a || b) ≡ true
or_left true b h = refl
or_left false b h = absurd cc

or_right : (a b : Bool) → b ≡ true → (a || b) ≡ true
or_right true b h = refl
or_right false b h = h

holds_first : (x : Name) (xs ys : List Name) → holds x xs ≡ true → holds x (xs ++ ys) ≡ true
holds_first x [] ys h = absurd cc
holds_first x (y ∷ xs) ys h =
    elim (bytes_eq x y) as (λ b. (b || holds x xs) ≡ true → (b || holds x (xs ++ ys)) ≡ true) [
      | true ↦ λ k. refl
      | false ↦ λ k. holds_first x xs ys k
    ] h

holds_last : (x : Name) (xs ys : List Name) → holds x ys ≡ true → holds x (xs ++ ys) ≡ true
holds_last x [] ys h = h
holds_last x (y ∷ xs) ys h = or_right (bytes_eq x y) (holds x (xs ++ ys)) (holds_last x xs ys h)

-- a name that is among the names is another one than one that isn't
others : (a x : Name) (names : List Name) → holds a names ≡ false → holds x names ≡ true → bytes_eq a x ≡ false
others a x names h k = go (bytes_eq a x) refl
  where
    go : (b : Bool) → bytes_eq a x ≡ b → b ≡ false
    go false e = refl
    go true e = let no : true ≡ false = sym k ∙ ap (λ n. holds n names) (sym ((bytes_eq-Decides a x).0 e)) ∙ h in absurd cc

others_back : (a x : Name) (names : List Name) → holds a names ≡ true → holds x names ≡ false → bytes_eq a x ≡ false
others_back a x names h k = go (bytes_eq a x) refl
  where
    go : (b : Bool) → bytes_eq a x ≡ b → b ≡ false
    go false e = refl
    go true e = let no : true ≡ false = sym h ∙ ap (λ n. holds n names) ((bytes_eq-Decides a x).0 e) ∙ k in absurd cc

uncalled_seen : (x : Name) (seen : List Seen) (around : List Name) → holds x around ≡ false → Covered seen around → is_called x seen ≡ false
uncalled_seen x [] around h c = refl
uncalled_seen x (s ∷ seen) around h c = λ i. others_back (correlation s.tab) x around c.0 h i || uncalled_seen x seen around h c.1 i

uncalled : (n : ℕ) (x : Name) (ts : List Tab) (before around : List Name) (seen : List Seen) → Fresh before around ts → holds x before ≡ true → is_called x seen ≡ false → is_called x (map (at_level n) ts ++ seen) ≡ false
uncalled n x [] before around seen f h u = u
uncalled n x (t ∷ ts) before around seen f h u = λ i. others (correlation t) x before f.0.0 h i || uncalled n x ts (before ++ correlation t ∷ []) around seen f.1 (holds_first x before (correlation t ∷ []) h) u i

fresh_apart : (n : ℕ) (ts : List Tab) (before around : List Name) (seen : List Seen) → Fresh before around ts → are_apart seen ≡ true → Covered seen around → are_apart (map (at_level n) ts ++ seen) ≡ true
fresh_apart n [] before around seen f a c = a
fresh_apart n (t ∷ ts) before around seen f a c =
    let mine : holds (correlation t) (before ++ correlation t ∷ []) ≡ true = holds_last (correlation t) before (correlation t ∷ []) (or_left (bytes_eq (correlation t) (correlation t)) false (itself (correlation t))) in
    λ i. not (uncalled n (correlation t) ts (before ++ correlation t ∷ []) around seen f.1 mine (uncalled_seen (correlation t) seen around f.0.1 c) i) && fresh_apart n ts (before ++ correlation t ∷ []) around seen f.1 a c i

covered_more : (seen : List Seen) (names around : List Name) → Covered seen around → Covered seen (names ++ around)
covered_more [] names around c = tt
covered_more (s ∷ seen) names around c = (holds_last (correlation s.tab) names around c.0, covered_more seen names around c.1)

covered_tabs : (n : ℕ) (ts : List Tab) (seen : List Seen) (names around : List Name) → Within names ts → Covered seen around → Covered (map (at_level n) ts ++ seen) (names ++ around)
covered_tabs n [] seen names around w c = covered_more seen names around c
covered_tabs n (t ∷ ts) seen names around w c = (holds_first (correlation t) names around w.0, covered_tabs n ts seen names around w.1 c)

within_more : (n : Name) (names : List Name) (ts : List Tab) → Within names ts → Within (n ∷ names) ts
within_more n names [] w = tt
within_more n names (t ∷ ts) w = (or_right (bytes_eq (correlation t) n) (holds (correlation t) names) w.0, within_more n names ts w.1)

pub within_calls : (ts : List Tab) → Within (calls_of ts) ts
within_calls [] = tt
within_calls (t ∷ ts) = (or_left (bytes_eq (correlation t) (correlation t)) (holds (correlation t) (calls_of ts)) (itself (correlation t)), within_more (correlation t) (calls_of ts) ts (within_calls ts))

within_front : (names : List Name) (xs ys : List Tab) → Within names (xs ++ ys) → Within names xs
within_front names [] ys w = tt
within_front names (x ∷ xs) ys w = (w.0, within_front names xs ys w.1)

within_back : (names : List Name) (xs ys : List Tab) → Within names (xs ++ ys) → Within names ys
within_back names [] ys w = w
within_back names (x ∷ xs) ys w = within_back names xs ys w.1

within_both : (names : List Name) (xs ys : List Tab) → Within names xs → Within names ys → Within names (xs ++ ys)
within_both names [] ys w k = k
within_both names (x ∷ xs) ys w k = (w.0, within_both names xs ys w.1 k)

no_more : (xs : List Name) → xs ++ [] ≡ xs
no_more [] = refl
no_more (x ∷ xs) = λ i. x ∷ no_more xs i

calls_both : (xs ys : List Tab) → calls_of (xs ++ ys) ≡ calls_of xs ++ calls_of ys
calls_both [] ys = refl
calls_both (x ∷ xs) ys = λ i. correlation x ∷ calls_both xs ys i

fresh_both : (xs ys : List Tab) (before around : List Name) → Fresh before around xs → Fresh (before ++ calls_of xs) around ys → Fresh before around (xs ++ ys)
fresh_both [] ys before around f h = subst (λ names. Fresh names around ys) (no_more before) h
fresh_both (x ∷ xs) ys before around f h = (f.0, fresh_both xs ys (before ++ correlation x ∷ []) around f.1 (subst (λ names. Fresh names around ys) (sym (append_assoc before (correlation x ∷ []) (calls_of xs))) h))

free : (there x y : Bool) (r q : Refused) → cond there (refusal_if (x || (true && y)) r) (Some q) ≡ None → (x ≡ false) × (y ≡ false)
free false x y r q h = absurd cc
free true true y r q h = absurd cc
free true false true r q h = absurd cc
free true false false r q h = (refl, refl)

module _ (C : Catalogue) where
  -- no FROM item is refused
  abbrev pub Taken : Marks → Type 0
  Taken [] = Unit {0}
  Taken (m ∷ ms) = (item_refusal C true m ≡ None) × Taken ms

  pub before : (xs ys : Marks) → Taken (xs ++ ys) → Taken xs
  before [] ys h = tt
  before (x ∷ xs) ys h = (h.0, before xs ys h.1)

  pub after : (xs ys : Marks) → Taken (xs ++ ys) → Taken ys
  after [] ys h = h
  after (x ∷ xs) ys h = after xs ys h.1

  abbrev pub JoinApart : JoinMarks → Type 0
  JoinApart j = (v : Sight) → Good v → Taken (j.on v) → AllApart (j.on v)

  abbrev pub JoinsApart : List JoinMarks → Type 0
  JoinsApart [] = Unit {0}
  JoinsApart (j ∷ js) = JoinApart j × JoinsApart js

  abbrev pub ChainApart : ChainMarks → Type 0
  ChainApart ch = JoinsApart ch.joins

  abbrev pub ChainsApart : List ChainMarks → Type 0
  ChainsApart [] = Unit {0}
  ChainsApart (ch ∷ chains) = ChainApart ch × ChainsApart chains

  item_free : (names around : List Name) (tab : Tab) → item_refusal C true (item names around tab) ≡ None → (holds (correlation tab) names ≡ false) × (holds (correlation tab) around ≡ false)
  item_free names around tab h = free (is_some (C.columns tab.table)) (holds (correlation tab) names) (holds (correlation tab) around) (Exists (correlation tab)) (Unknown tab.table) h

  pub good_inside : (v : Sight) (tabs : List Tab) (names : List Name) → Good v → Fresh names v.around tabs → Good (inside v tabs)
  good_inside v tabs names g f = (fresh_apart (level_in v.seen) tabs names v.around v.seen f g.0 g.1, covered_tabs (level_in v.seen) tabs v.seen (calls_of tabs) v.around (within_calls tabs) g.1)

  good_on : (v : Sight) (all : List Name) (tabs : List Tab) (names : List Name) → Good v → Fresh names v.around tabs → Within all tabs → Good (inside_on v all tabs)
  good_on v all tabs names g f w = (fresh_apart (level_in v.seen) tabs names v.around v.seen f g.0 g.1, covered_tabs (level_in v.seen) tabs v.seen all v.around w g.1)

  joins_fresh : (js : List JoinMarks) (v : Sight) (all names : List Name) (tabs : List Tab) → Taken (joins_marks v all names tabs js) → Fresh names v.around (map (λ j. j.tab) js)
  joins_fresh [] v all names tabs h = tt
  joins_fresh (j ∷ js) v all names tabs h = (item_free names v.around j.tab h.0, joins_fresh js v all (names ++ correlation j.tab ∷ []) (tabs ++ j.tab ∷ []) (after (j.on (inside_on v all (tabs ++ j.tab ∷ []))) (joins_marks v all (names ++ correlation j.tab ∷ []) (tabs ++ j.tab ∷ []) js) h.1))

  pub chains_fresh : (chains : List ChainMarks) (v : Sight) (all names : List Name) → Taken (chains_marks v all names chains) → Fresh names v.around (tables_of chains)
  chains_fresh [] v all names h = tt
  chains_fresh (ch ∷ chains) v all names h =
      let joins : Marks = joins_marks v all (names ++ correlation ch.first ∷ []) (ch.first ∷ []) ch.joins in
      let rest : Marks = chains_marks v all (names ++ calls_of (tables_of_chain ch)) chains in
      fresh_both (tables_of_chain ch) (tables_of chains) names v.around (item_free names v.around ch.first h.0, joins_fresh ch.joins v all (names ++ correlation ch.first ∷ []) (ch.first ∷ []) (before joins rest h.1)) (chains_fresh chains v all (names ++ calls_of (tables_of_chain ch)) (after joins rest h.1))

  joins_marked : (js : List JoinMarks) → JoinsApart js → (v : Sight) → Good v → (all outer names : List Name) (tabs : List Tab) → names ≡ outer ++ calls_of tabs → Fresh outer v.around tabs → Within all tabs → Within all (map (λ j. j.tab) js) → Taken (joins_marks v all names tabs js) → AllApart (joins_marks v all names tabs js)
  joins_marked [] k v g all outer names tabs e f w u h = tt
  joins_marked (j ∷ js) k v g all outer names tabs e f w u h =
      let more : List Tab = tabs ++ j.tab ∷ [] in
      let next : List Name = names ++ correlation j.tab ∷ [] in
      let on : Marks = j.on (inside_on v all more) in
      let rest : Marks = joins_marks v all next more js in
      let mine : (holds (correlation j.tab) names ≡ false) × (holds (correlation j.tab) v.around ≡ false) = item_free names v.around j.tab h.0 in
      let fresh : Fresh outer v.around more = fresh_both tabs (j.tab ∷ []) outer v.around f ((subst (λ ns. holds (correlation j.tab) ns ≡ false) e mine.0, mine.1), tt) in
      let within : Within all more = within_both all tabs (j.tab ∷ []) w (u.0, tt) in
      let same : next ≡ outer ++ calls_of more = (λ i. e i ++ correlation j.tab ∷ []) ∙ append_assoc outer (calls_of tabs) (correlation j.tab ∷ []) ∙ (λ i. outer ++ sym (calls_both tabs (j.tab ∷ [])) i) in
      (tt, both on rest (k.0 (inside_on v all more) (good_on v all more outer g fresh within) (before on rest h.1)) (joins_marked js k.1 v g all outer next more same fresh within u.1 (after on rest h.1)))

  pub chains_marked : (chains : List ChainMarks) → ChainsApart chains → (v : Sight) → Good v → (all names : List Name) → Within all (tables_of chains) → Taken (chains_marks v all names chains) → AllApart (chains_marks v all names chains)
  chains_marked [] k v g all names w h = tt
  chains_marked (ch ∷ chains) k v g all names w h =
      let joins : Marks = joins_marks v all (names ++ correlation ch.first ∷ []) (ch.first ∷ []) ch.joins in
      let rest : Marks = chains_marks v all (names ++ calls_of (tables_of_chain ch)) chains in
      let mine : Within all (tables_of_chain ch) = within_front all (tables_of_chain ch) (tables_of chains) w in (
        tt,
        both joins rest
            (joins_marked ch.joins k.0 v g all names (names ++ correlation ch.first ∷ []) (ch.first ∷ []) refl (item_free names v.around ch.first h.0, tt) (mine.0, tt) mine.1 (before joins rest h.1))
            (chains_marked chains k.1 v g all (names ++ calls_of (tables_of_chain ch)) (within_back all (tables_of_chain ch) (tables_of chains) w) (after joins rest h.1)),
      )
