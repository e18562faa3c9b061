-- Components: the test of descent, and a component with one element more.
use Rattle.std.proofs.Common.{◌≡◌, refl, ap, sym, ◌∙◌, ℕ, zero, suc, ◌+◌, ◌-◌, ◌*◌, ◌^◌, ◌%◌, ◌<◌, ◌≤◌, ◌≢◌, ◌⊎◌, ⊎_elim, inl, inr, Bool, true, false, not, cond, ◌||◌, ◌&&◌, List, [], ◌∷◌, ◌++◌, length, map, take, drop, get_or, Option, Some, None, is_some, IfSome, eqb, ltb, arith, subst, slice_index, bit_or}
use Rattle.std.proofs.lemmas.Bool.{cases_lt}
use Rattle.std.proofs.lemmas.Bool.Decides.{Decides-eqb}
use Rattle.std.proofs.lemmas.List.{get_or_append_left, get_or_at, get_or_past, get_or-map, length-map, length-append, map-append}
use Rattle.std.proofs.lemmas.Slice.Eq.{bytes_eq-Decides}
use Rattle.std.specs.Bool.{Decides}
use Rattle.std.specs.Int.{bit_at}
use Rattle.std.specs.List.{list_any, position_or_len, position_from}
use Rattle.std.specs.Str.{bytes_eq}
use Rattle.lb_label.specs.declared.component.Element.{Element}
use Rattle.lb_label.specs.declared.kind.ComponentKind.{ComponentKind}
use Rattle.lb_label.specs.declared.kind.ComponentKind.TheVariants.{Set, Array, Tree}
use Rattle.lb_label.specs.Component.{Definition, IsComponent, IsParent, IsPath, Descends, and_above, ancestors, ancestors_within, descends, is_element_text, limit, number_of, parent_of, rank}
use Rattle.lb_label.specs.Kept.{IsKept, definition_of, line_in, parent_in, rank_in, text_of}
use Rattle.lb_label.proofs.Bits.{same_true, true_same, false_apart, bit_of_one, shifted_one}
use Rattle.lb_label.proofs.ListLemmas.{position_kept, position_new, place_kept, place_new}

or_true : (a b : Bool) → (a || b) ≡ true → (a ≡ true) ⊎ (b ≡ true)
or_true true b e = inl refl
or_true false b e = inr e

-- ---- descent

-- each parent is an earlier element
pub record Falls (parents : List (Option ℕ)) : Type 0 where
  pub falls : (e p : ℕ) → get_or parents e None ≡ Some p → p < e

none_differs : {C : Type 0} (p : ℕ) → None ≡ Some p → C
none_differs p e = absurd cc

is_earlier : (kind : ComponentKind) (e : ℕ) (parent : Option ℕ) (p : ℕ) → IsParent kind e parent → parent ≡ Some p → p < e
is_earlier Set e parent p is named = none_differs p (sym is ∙ named)
is_earlier Array e parent p is named = none_differs p (sym is ∙ named)
is_earlier Tree zero parent p is named = none_differs p (sym is ∙ named)
is_earlier Tree (suc e) None p is named = absurd is
is_earlier Tree (suc e) (Some q) p is named =
    let same : q ≡ p = cc in
    subst (λ r. r < suc e) same is

pub falls_in : (c : Definition) → IsComponent c → Falls c.parents
falls_in c valid = record {
  falls = λ e p named. ⊎_elim
      (λ (within : e < length c.elements). is_earlier c.kind e (get_or c.parents e None) p (valid.parents e within) named)
      (λ (past : length c.elements ≤ e).
      let past' : length c.parents ≤ e = rw valid.parents_length past in
      none_differs p (sym (get_or_past c.parents e None past') ∙ named))
      (cases_lt e (length c.elements));
}

-- a test of the elements above is true only of earlier ones
has : List ℕ → ℕ → Bool
has xs b = list_any (λ x. eqb x b) xs

-- more steps than an element has earlier ones find nothing more
pub steps_enough : (ps : List (Option ℕ)) → Falls ps → (s t e : ℕ) → e ≤ s → e ≤ t → ancestors_within s ps e ≡ ancestors_within t ps e
steps_enough ps down zero zero e h k = refl
steps_enough ps down zero (suc t) e h k =
    elim (get_or ps e None) as (λ o. get_or ps e None ≡ o → [] ≡ and_above (ancestors_within t ps) o) [
      | None ↦ λ _. refl
      | Some p ↦ λ named. let below : p < e = down.falls e p named in absurd (omega arith)
    ] refl
steps_enough ps down (suc s) zero e h k =
    elim (get_or ps e None) as (λ o. get_or ps e None ≡ o → and_above (ancestors_within s ps) o ≡ []) [
      | None ↦ λ _. refl
      | Some p ↦ λ named. let below : p < e = down.falls e p named in absurd (omega arith)
    ] refl
steps_enough ps down (suc s) (suc t) e h k =
    elim (get_or ps e None) as (λ o. get_or ps e None ≡ o → and_above (ancestors_within s ps) o ≡ and_above (ancestors_within t ps) o) [
      | None ↦ λ _. refl
      | Some p ↦ λ named. let below : p < e = down.falls e p named in ap (λ xs. p ∷ xs) (steps_enough ps down s t p (omega arith) (omega arith))
    ] refl

-- the elements above are those that a path leads up to
pub path_from_test : (c : Definition) (b s a : ℕ) → list_any (λ x. eqb x b) (ancestors_within s c.parents a) ≡ true → Descends c a b
path_from_test c b zero a found = absurd (differ found)
  where
    differ : false ≡ true → ⊥
    differ e = cc
path_from_test c b (suc s) a found =
    elim (get_or c.parents a None) as (λ o. get_or c.parents a None ≡ o → list_any (λ x. eqb x b) (and_above (ancestors_within s c.parents) o) ≡ true → Descends c a b) [
      | None ↦ λ named (e : false ≡ true). absurd cc
      | Some p ↦ λ named e. ⊎_elim
          (λ (here : eqb p b ≡ true). (p ∷ [], omega arith, (named, same_true p b here)))
          (λ above. let up : Descends c p b = path_from_test c b s p above in (p ∷ up.0, omega arith, (named, up.2)))
          (or_true (eqb p b) _ e)
    ] refl found

pub test_from_path : (c : Definition) → Falls c.parents → (b : ℕ) (path : List ℕ) (s a : ℕ) → 0 < length path → IsPath c a path b → a ≤ s → list_any (λ x. eqb x b) (ancestors_within s c.parents a) ≡ true
test_from_path c down b [] s a some is h = absurd (omega arith)
test_from_path c down b (p ∷ path) zero a some is h = let below : p < a = down.falls a p is.0 in absurd (omega arith)
test_from_path c down b (p ∷ []) (suc s) a some is h = rw (is.0, true_same p b is.1) refl
test_from_path c down b (p ∷ q ∷ path) (suc s) a some is h =
    let below : p < a = down.falls a p is.0 in
    let above : list_any (λ x. eqb x b) (ancestors_within s c.parents p) ≡ true = test_from_path c down b (q ∷ path) s p (omega arith) is.1 (omega arith) in
    rw is.0 (or_right (eqb p b) _ above)
  where
    or_right : (x y : Bool) → y ≡ true → (x || y) ≡ true
    or_right true y e = refl
    or_right false y e = e

pub path_goes_up : (c : Definition) → Falls c.parents → (b : ℕ) (path : List ℕ) (a : ℕ) → IsPath c a path b → b + length path ≤ a
path_goes_up c down b [] a is = omega arith
path_goes_up c down b (p ∷ path) a is =
    let below : p < a = down.falls a p is.0 in
    let above : b + length path ≤ p = path_goes_up c down b path p is.1 in
    omega arith

pub descends_decides : (c : Definition) → IsComponent c → (a b : ℕ) → a < length c.elements → Decides (descends c a b) (Descends c a b)
descends_decides c valid a b within =
    let enough : a ≤ length c.parents = rw valid.parents_length (omega arith) in (
      path_from_test c b (length c.parents) a,
      λ up. test_from_path c (falls_in c valid) b up.0 (length c.parents) a up.1 up.2 enough,
    )

pub not_itself : (c : Definition) → IsComponent c → (a b : ℕ) → a ≡ b → Descends c a b → ⊥
not_itself c valid a b same up =
    let above : b + length up.0 ≤ a = path_goes_up c (falls_in c valid) b up.0 a up.2 in
    let some : 0 < length up.0 = up.1 in
    omega arith

pub itself_false : (c : Definition) → IsComponent c → (a b : ℕ) → a < length c.elements → a ≡ b → descends c a b ≡ false
itself_false c valid a b within same =
    elim (descends c a b) as (λ t. descends c a b ≡ t → t ≡ false) [
      | true ↦ λ found. absurd (not_itself c valid a b same ((descends_decides c valid a b within).0 found))
      | false ↦ λ _. refl
    ] refl

-- ---- one element more

-- the elements above an element stay where elements are added
pub above_kept : (ps qs : List (Option ℕ)) → Falls ps → (s e : ℕ) → e < length ps → ancestors_within s (ps ++ qs) e ≡ ancestors_within s ps e
above_kept ps qs down zero e within = refl
above_kept ps qs down (suc s) e within =
    let kept : get_or (ps ++ qs) e None ≡ get_or ps e None = get_or_append_left ps qs None e within in
    ap (and_above (ancestors_within s (ps ++ qs))) kept
    ∙ elim (get_or ps e None) as (λ o. get_or ps e None ≡ o → and_above (ancestors_within s (ps ++ qs)) o ≡ and_above (ancestors_within s ps) o) [
      | None ↦ λ _. refl
      | Some p ↦ λ named. let below : p < e = down.falls e p named in ap (λ xs. p ∷ xs) (above_kept ps qs down s p (omega arith))
    ] refl

-- the component with an element more
unfoldable pub grown : Definition → List ℕ → Option ℕ → Definition
grown c text parent = record { kind = c.kind; elements = c.elements ++ text ∷ []; order = c.order ++ length c.elements ∷ []; parents = c.parents ++ parent ∷ [] }

place_in_grown : {X : Type 0} (xs : List X) (y : X) (e : ℕ) → e < length (xs ++ y ∷ []) → (e < length xs) ⊎ (e ≡ length xs)
place_in_grown xs y e h =
    let all : e < length xs + 1 = rw length-append at h in
    ⊎_elim (λ l. inl l) (λ (g : length xs ≤ e). inr (omega arith)) (cases_lt e (length xs))

bytes_same : (xs : List ℕ) → bytes_eq xs xs ≡ true
bytes_same xs = (bytes_eq-Decides xs xs).1 refl

rank_kept : (c : Definition) (text : List ℕ) (parent : Option ℕ) → IsComponent c → (e : ℕ) → e < length c.elements → rank (grown c text parent) e ≡ rank c e
unfolding grown
rank_kept c text parent valid e within =
    let found : position_or_len (λ x. eqb x e) c.order < length c.order = rw valid.order_length (valid.ordered e within) in
    place_kept (λ x. eqb x e) c.order (length c.elements ∷ []) found

rank_new : (c : Definition) (text : List ℕ) (parent : Option ℕ) → IsComponent c → rank (grown c text parent) (length c.elements) ≡ length c.elements
unfolding grown
rank_new c text parent valid =
    place_new (λ x. eqb x (length c.elements)) c.order (length c.elements)
    (λ k h. let within : k < length c.elements = rw valid.order_length at h in
    let below : get_or c.order k 0 < length c.elements = valid.placed k within in
    false_apart (get_or c.order k 0) (length c.elements) (λ e. omega arith))
    (true_same (length c.elements) (length c.elements) refl)
    ∙ valid.order_length

pub grown_valid : (c : Definition) (text : List ℕ) (parent : Option ℕ) → IsComponent c → length c.elements < limit c.kind → is_element_text text ≡ true
    → number_of c text ≡ None → IsParent c.kind (length c.elements) parent → IsComponent (grown c text parent)
unfolding grown
grown_valid c text parent valid room good fresh under = record {
  few = rw length-append (omega arith);
  texts = λ e h. ⊎_elim
      (λ (l : e < length c.elements). rw (get_or_append_left c.elements (text ∷ []) [] e l) (valid.texts e l))
      (λ (n : e ≡ length c.elements). rw (get_or_at c.elements text [] [] e (sym n)) good)
      (place_in_grown c.elements text e h);
  distinct = λ e h. ⊎_elim
      (λ (l : e < length c.elements). rw (get_or_append_left c.elements (text ∷ []) [] e l)
      (position_kept (λ x. bytes_eq x (get_or c.elements e [])) 0 c.elements (text ∷ []) e (valid.distinct e l)))
      (λ (n : e ≡ length c.elements). rw (get_or_at c.elements text [] [] e (sym n))
      (position_new (λ x. bytes_eq x text) 0 c.elements text fresh (bytes_same text) ∙ ap Some (omega arith)))
      (place_in_grown c.elements text e h);
  order_length = rw (length-append, length-append) (omega arith);
  ordered = λ e h. ⊎_elim
      (λ (l : e < length c.elements). let kept : rank (grown c text parent) e ≡ rank c e = rank_kept c text parent valid e l in
      let old : rank c e < length c.elements = valid.ordered e l in rw length-append (omega arith))
      (λ (n : e ≡ length c.elements). let new : rank (grown c text parent) (length c.elements) ≡ length c.elements = rank_new c text parent valid in
      rw (n, length-append) (omega arith))
      (place_in_grown c.elements text e h);
  placed = λ k h. ⊎_elim
      (λ (l : k < length c.elements). let l' : k < length c.order = rw valid.order_length l in
      let old : get_or c.order k 0 < length c.elements = valid.placed k l in
      rw (get_or_append_left c.order (length c.elements ∷ []) 0 k l', length-append) (omega arith))
      (λ (n : k ≡ length c.elements). rw (get_or_at c.order (length c.elements) [] 0 k (valid.order_length ∙ sym n), length-append) (omega arith))
      (place_in_grown c.elements text k h);
  parents_length = rw (length-append, length-append) (omega arith);
  parents = λ e h. ⊎_elim
      (λ (l : e < length c.elements). let l' : e < length c.parents = rw valid.parents_length l in
      rw (get_or_append_left c.parents (parent ∷ []) None e l') (valid.parents e l))
      (λ (n : e ≡ length c.elements). rw (get_or_at c.parents parent [] None e (valid.parents_length ∙ sym n), n) under)
      (place_in_grown c.elements text e h);
}

pub parent_fits : (kind : ComponentKind) (n : ℕ) (number : Option ℕ) (given : Bool) → ((given ≡ true → (kind ≡ Tree) × (0 < n)) × ((kind ≡ Tree) × (0 < n) → given ≡ true))
    → is_some number ≡ given → IfSome number (λ p. p < n) → IsParent kind n number
parent_fits Set n None given iff is below = refl
parent_fits Array n None given iff is below = refl
parent_fits Tree zero None given iff is below = refl
parent_fits Tree (suc n) None given iff is below =
    let wanted : given ≡ true = iff.1 (refl, omega arith) in
    absurd (differ (is ∙ wanted))
  where
    differ : false ≡ true → ⊥
    differ e = cc
parent_fits Set n (Some p) given iff is below = let tree : Set ≡ Tree = (iff.0 (sym is)).0 in absurd cc
parent_fits Array n (Some p) given iff is below = let tree : Array ≡ Tree = (iff.0 (sym is)).0 in absurd cc
parent_fits Tree zero (Some p) given iff is below = absurd (omega arith)
parent_fits Tree (suc n) (Some p) given iff is below = below

-- ---- what a component keeps, with an element more

above_in_grown : (c : Definition) (text : List ℕ) (parent : Option ℕ) → IsComponent c → (e : ℕ) → e < length c.elements → ancestors (grown c text parent) e ≡ ancestors c e
unfolding grown
above_in_grown c text parent valid e within =
    let within' : e < length c.parents = rw valid.parents_length within in
    let more : length (c.parents ++ parent ∷ []) ≡ length c.parents + 1 = length-append c.parents (parent ∷ []) in
    above_kept c.parents (parent ∷ []) (falls_in c valid) (length (c.parents ++ parent ∷ [])) e within'
    ∙ steps_enough c.parents (falls_in c valid) (length (c.parents ++ parent ∷ [])) (length c.parents) e (omega arith) (omega arith)

above_new : (c : Definition) (text : List ℕ) (parent : Option ℕ) → IsComponent c → IsParent c.kind (length c.elements) parent
    → ancestors (grown c text parent) (length c.elements) ≡ and_above (ancestors c) parent
unfolding grown
above_new c text parent valid under =
    let more : length (c.parents ++ parent ∷ []) ≡ suc (length c.parents) = length-append c.parents (parent ∷ []) ∙ omega arith in
    let last : get_or (c.parents ++ parent ∷ []) (length c.elements) None ≡ parent = get_or_at c.parents parent [] None (length c.elements) valid.parents_length in
    ap (λ n. ancestors_within n (c.parents ++ parent ∷ []) (length c.elements)) more
    ∙ ap (and_above (ancestors_within (length c.parents) (c.parents ++ parent ∷ []))) last
    ∙ elim parent as (λ o. parent ≡ o → and_above (ancestors_within (length c.parents) (c.parents ++ parent ∷ [])) o ≡ and_above (ancestors c) o) [
      | None ↦ λ _. refl
      | Some p ↦ λ named.
          let below : p < length c.elements = is_earlier c.kind (length c.elements) parent p under named in
          let below' : p < length c.parents = rw valid.parents_length below in
          ap (λ xs. p ∷ xs) (above_kept c.parents (parent ∷ []) (falls_in c valid) (length c.parents) p below')
    ] refl

definition_grows : (kind : ComponentKind) (items : List Element) (order : List ℕ) (el : Element)
    → grown (definition_of kind items order) (text_of el) el.parent ≡ definition_of kind (items ++ el ∷ []) (order ++ length items ∷ [])
unfolding grown
definition_grows kind items order el = rw (map-append text_of items (el ∷ []), map-append parent_in items (el ∷ []), length-map items text_of)

map_in_grown : (f : Element → ℕ) (items : List Element) (el : Element) (e : ℕ) → e < length items → get_or (map f (items ++ el ∷ [])) e 0 ≡ get_or (map f items) e 0
map_in_grown f items el e within =
    let within' : e < length (map f items) = rw length-map within in
    rw (map-append f items (el ∷ [])) (get_or_append_left (map f items) (f el ∷ []) 0 e within')

map_last : (f : Element → ℕ) (items : List Element) (el : Element) (e : ℕ) → e ≡ length items → get_or (map f (items ++ el ∷ [])) e 0 ≡ f el
map_last f items el e last = rw (map-append f items (el ∷ [])) (get_or_at (map f items) (f el) [] 0 e (length-map items f ∙ sym last))

pub kept_with : (kind : ComponentKind) (items : List Element) (order : List ℕ) (el : Element) → IsKept kind items order → length items < limit kind → is_element_text (text_of el) ≡ true
    → number_of (definition_of kind items order) (text_of el) ≡ None → IsParent kind (length items) el.parent → el.rank ≡ length items
    → (kind ≡ Tree → (i : ℕ) → bit_at el.line i ≡ cond (eqb (length items) i || list_any (λ x. eqb x i) (and_above (ancestors (definition_of kind items order)) el.parent)) 1 0)
    → IsKept kind (items ++ el ∷ []) (order ++ length items ∷ [])
kept_with kind items order el kept room good fresh under ranked lined =
    let c : Definition = definition_of kind items order in
    let n : length c.elements ≡ length items = length-map items text_of in
    let grows : grown c (text_of el) el.parent ≡ definition_of kind (items ++ el ∷ []) (order ++ length items ∷ []) = definition_grows kind items order el in
    let under' : IsParent kind (length c.elements) el.parent = rw n under in
    let room' : length c.elements < limit kind = rw n room in
    record {
      valid = subst IsComponent grows (grown_valid c (text_of el) el.parent kept.valid room' good fresh under');
      ranks = λ e h. ⊎_elim
          (λ (l : e < length items). let l' : e < length c.elements = rw n l in
          map_in_grown rank_in items el e l ∙ kept.ranks e l ∙ sym (rank_kept c (text_of el) el.parent kept.valid e l') ∙ ap (λ d. rank d e) grows)
          (λ (last : e ≡ length items).
          map_last rank_in items el e last ∙ ranked ∙ sym n ∙ sym (rank_new c (text_of el) el.parent kept.valid) ∙ ap (λ k. rank (grown c (text_of el) el.parent) k) (n ∙ sym last) ∙ ap (λ d. rank d e) grows)
          (place_in_grown items el e h);
      lines = λ tree e i h. ⊎_elim
          (λ (l : e < length items). let l' : e < length c.elements = rw n l in
          ap (λ line. bit_at line i) (map_in_grown line_in items el e l) ∙ kept.lines tree e i l
          ∙ ap (λ xs. cond (eqb e i || list_any (λ x. eqb x i) xs) 1 0) (sym (above_in_grown c (text_of el) el.parent kept.valid e l') ∙ ap (λ d. ancestors d e) grows))
          (λ (last : e ≡ length items).
          ap (λ line. bit_at line i) (map_last line_in items el e last) ∙ lined tree i
          ∙ ap (λ xs. cond (eqb (length items) i || list_any (λ x. eqb x i) xs) 1 0) (sym (above_new c (text_of el) el.parent kept.valid under') ∙ ap (λ k. ancestors (grown c (text_of el) el.parent) k) (n ∙ sym last) ∙ ap (λ d. ancestors d e) grows)
          ∙ ap (λ k. cond (eqb k i || list_any (λ x. eqb x i) (ancestors (definition_of kind (items ++ el ∷ []) (order ++ length items ∷ [])) e)) 1 0) (sym last))
          (place_in_grown items el e h);
    }

-- the same in the words of the component's definition
pub kept_with_view : (kind : ComponentKind) (items : List Element) (order : List ℕ) (el : Element) (items' : List Element) (order' : List ℕ) (t : List ℕ) (d : Definition)
    → definition_of kind items order ≡ d → IsKept kind items order → length d.elements < limit d.kind → is_element_text t ≡ true → number_of d t ≡ None
    → IsParent d.kind (length d.elements) el.parent → text_of el ≡ t → el.rank ≡ length d.elements
    → (d.kind ≡ Tree → (i : ℕ) → bit_at el.line i ≡ cond (eqb (length d.elements) i || list_any (λ x. eqb x i) (and_above (ancestors d) el.parent)) 1 0)
    → items' ≡ items ++ el ∷ [] → order' ≡ order ++ length d.elements ∷ [] → IsKept kind items' order'
kept_with_view kind items order el items' order' t d view kept =
    subst (λ (d : Definition). length d.elements < limit d.kind → is_element_text t ≡ true → number_of d t ≡ None
    → IsParent d.kind (length d.elements) el.parent → text_of el ≡ t → el.rank ≡ length d.elements
    → (d.kind ≡ Tree → (i : ℕ) → bit_at el.line i ≡ cond (eqb (length d.elements) i || list_any (λ x. eqb x i) (and_above (ancestors d) el.parent)) 1 0)
    → items' ≡ items ++ el ∷ [] → order' ≡ order ++ length d.elements ∷ [] → IsKept kind items' order') view
    (λ room good fresh under same ranked lined grows ordered.
    let n : length (map text_of items) ≡ length items = length-map items text_of in
    let good' : is_element_text (text_of el) ≡ true = rw same good in
    let fresh' : number_of (definition_of kind items order) (text_of el) ≡ None = rw same fresh in
    rw (grows, ordered, n) (kept_with kind items order el kept (rw n at room) good' fresh' (rw n at under) (ranked ∙ n)
    (λ tree i. lined tree i ∙ ap (λ k. cond (eqb k i || list_any (λ x. eqb x i) (and_above (ancestors (definition_of kind items order)) el.parent)) 1 0) n)))
