-- The components of a policy as a list, where the code keeps them in sixteen places.
use Rattle.std.proofs.Common.{◌≡◌, refl, ap, sym, ◌∙◌, ℕ, zero, suc, ◌+◌, ◌<◌, ◌≤◌, List, [], ◌∷◌, ◌++◌, length, get_or, Option, Some, None, Result, Ok, Err, ◌↔◌, OnOk, IsErr, take, arith, subst}
use Rattle.std.proofs.lemmas.List.{length-take-le, take_more}
use Rattle.std.specs.Arc.{arc_value}
use Rattle.std.specs.List.{slice_get}
use Rattle.std.specs.declared.sync.Arc.{Arc}
use Rattle.std.specs.declared.alloc.Global.{Global}
use Rattle.lb_label.specs.declared.shape.ShapeFault.{ShapeFault}
use Rattle.lb_label.specs.Component.{Definition, IsComponent}
use Rattle.lb_label.specs.Shape.{Held, AllThere, components_in, IsShape}

pub there_length : (places : List Held) → AllThere places → length (components_in places) ≡ length places
there_length [] there = refl
there_length (None ∷ places) there = absurd there
there_length (Some c ∷ places) there = ap suc (there_length places there.1)

pub there_valid : (places : List Held) → AllThere places → IsShape (components_in places)
there_valid [] there = tt
there_valid (None ∷ places) there = absurd there
there_valid (Some c ∷ places) there = (there.0, there_valid places there.1)

pub there_push : (places : List Held) (c : Arc Definition Global) → AllThere places → IsComponent (arc_value c) → AllThere (places ++ Some c ∷ [])
there_push [] c there valid = (valid, tt)
there_push (None ∷ places) c there valid = absurd there
there_push (Some b ∷ places) c there valid = (there.0, there_push places c there.1 valid)

pub components_push : (places : List Held) (c : Arc Definition Global) → components_in (places ++ Some c ∷ []) ≡ components_in places ++ arc_value c ∷ []
components_push [] c = refl
components_push (None ∷ places) c = components_push places c
components_push (Some b ∷ places) c = ap (λ xs. arc_value b ∷ xs) (components_push places c)

-- what a place holds is the component of that place
abbrev pub IsAt : Held → List Definition → ℕ → Type 0
IsAt None shape i = ⊥
IsAt (Some c) shape i = ((d : Definition) → arc_value c ≡ get_or shape i d) × IsComponent (arc_value c)

at_more : (x : Held) (c : Definition) (shape : List Definition) (i : ℕ) → IsAt x shape i → IsAt x (c ∷ shape) (suc i)
at_more None c shape i h = h
at_more (Some b) c shape i h = h

pub there_at : (places : List Held) → AllThere places → (i : ℕ) → i < length places → (x : Held) → IsAt (get_or places i x) (components_in places) i
there_at [] there i within x = absurd (omega arith)
there_at (None ∷ places) there i within x = absurd there
there_at (Some c ∷ places) there zero within x = ((λ d. refl), there.0)
there_at (Some c ∷ places) there (suc i) within x = at_more (get_or places i x) (arc_value c) (components_in places) i (there_at places there.1 i (omega arith) x)

pub shape_length : (places : List Held) (shape : List Definition) → components_in places ≡ shape → AllThere places → length shape ≡ length places
shape_length places shape view there = ap length (sym view) ∙ there_length places there

pub shape_valid : (places : List Held) (shape : List Definition) → components_in places ≡ shape → AllThere places → IsShape shape
shape_valid places shape view there = subst IsShape view (there_valid places there)

pub held_at : (places xs : List Held) (shape : List Definition) → xs ≡ places → components_in places ≡ shape → AllThere places
    → (i : ℕ) → i < length shape → (x : Held) → x ≡ get_or xs i x → (y : Held) → x ≡ y → IsAt y shape i
held_at places xs shape same view there i within x is y named =
    let within' : i < length places = rw (shape_length places shape view there) at within in
    let found : get_or places i x ≡ y = ap (λ l. get_or l i x) (sym same) ∙ sym is ∙ named in
    subst (λ s. IsAt y s i) view (subst (λ z. IsAt z (components_in places) i) found (there_at places there i within' x))

pub copied : (shape old new : List Definition) (at : ℕ) (c : Definition) (r : Result (Unit {0}) ShapeFault) → at < length shape → length shape ≤ 16 → old ≡ take at shape
    → ((d : Definition) → c ≡ get_or shape at d) → OnOk r (new ≡ old ++ c ∷ []) → (IsErr r ↔ (length old ≡ 16)) → new ≡ take (at + 1) shape
copied shape old new at c (Ok done) within few so_far here pushed full =
    pushed ∙ rw so_far (ap (λ d. take at shape ++ d ∷ []) (here c)) ∙ sym (take_more shape at c within)
copied shape old new at c (Err fault) within few so_far here pushed full =
    let all : length old ≡ 16 = full.0 refl in
    let some : length old ≡ at = ap length so_far ∙ length-take-le at shape (omega arith) in
    absurd (omega arith)
