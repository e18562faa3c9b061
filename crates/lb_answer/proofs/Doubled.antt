-- Keys of which two are one.
use Rattle.std.proofs.Common.{◌≡◌, refl, ap, ◌∙◌, ℕ, Bool, true, false, not, cond, ◌||◌, List, [], ◌∷◌, ◌++◌, ◌↔◌, map}
use Rattle.std.specs.Prelude.{filter, IsTrue}
use Rattle.std.specs.List.{list_any}
use Rattle.lb_base.specs.declared.value.Value.{Value}
use Rattle.lb_answer.specs.Candidates.{Marked, other_rows}
use Rattle.lb_answer.specs.Keys.{is_one_key, key_in, keys_of, is_doubled}
use Rattle.lb_answer.specs.Laws.{HasTwo}

-- ---- two keys of the list are one

pub record Split (p : Value → Bool) (ks : List Value) : Type 0 where
  pub front : List Value
  pub at : Value
  pub rest : List Value
  pub splits : ks ≡ front ++ (at ∷ rest)
  pub passes : p at ≡ true

split_on : (p : Value → Bool) (k : Value) (ks : List Value) (b : Bool) → p k ≡ b → (b || list_any p ks) ≡ true → (list_any p ks ≡ true → Split p ks) → Split p (k ∷ ks)
split_on p k ks true e h go = record { front = []; at = k; rest = ks; splits = refl; passes = e }
split_on p k ks false e h go = let s = go h in record { front = k ∷ s.front; at = s.at; rest = s.rest; splits = ap (λ (xs : List Value). k ∷ xs) s.splits; passes = s.passes }

split : (p : Value → Bool) (ks : List Value) → list_any p ks ≡ true → Split p ks
split p [] h = absurd cc
split p (k ∷ ks) h = split_on p k ks (p k) refl h (split p ks)

two_on : (k : Value) (ks : List Value) (b : Bool) → list_any (λ later. is_one_key later k) ks ≡ b → (b || is_doubled ks) ≡ true → (is_doubled ks ≡ true → HasTwo ks) → HasTwo (k ∷ ks)
two_on k ks true e h go = let s = split (λ later. is_one_key later k) ks e in
    record { front = []; one = k; between = s.front; other = s.at; rest = s.rest; splits = ap (λ (xs : List Value). k ∷ xs) s.splits; alike = s.passes }
two_on k ks false e h go = let t = go h in
    record { front = k ∷ t.front; one = t.one; between = t.between; other = t.other; rest = t.rest; splits = ap (λ (xs : List Value). k ∷ xs) t.splits; alike = t.alike }

two : (ks : List Value) → is_doubled ks ≡ true → HasTwo ks
two [] h = absurd cc
two (k ∷ ks) h = two_on k ks (list_any (λ later. is_one_key later k) ks) refl h (two ks)

or_true : (a : Bool) → (a || true) ≡ true
or_true true = refl
or_true false = refl

any_at : (p : Value → Bool) (xs : List Value) (x : Value) (ys : List Value) → p x ≡ true → list_any p (xs ++ (x ∷ ys)) ≡ true
any_at p [] x ys h = ap (λ (b : Bool). b || list_any p ys) h
any_at p (z ∷ xs) x ys h = ap (λ (b : Bool). p z || b) (any_at p xs x ys h) ∙ or_true (p z)

two_back : (front : List Value) (one : Value) (between : List Value) (other : Value) (rest : List Value) → is_one_key other one ≡ true → is_doubled (front ++ (one ∷ (between ++ (other ∷ rest)))) ≡ true
two_back [] one between other rest h = ap (λ (b : Bool). b || is_doubled (between ++ (other ∷ rest))) (any_at (λ later. is_one_key later one) between other rest h)
two_back (k ∷ front) one between other rest h = ap (λ (b : Bool). list_any (λ later. is_one_key later k) (front ++ (one ∷ (between ++ (other ∷ rest)))) || b) (two_back front one between other rest h)
    ∙ or_true (list_any (λ later. is_one_key later k) (front ++ (one ∷ (between ++ (other ∷ rest)))))

pub doubled_exactly : (ks : List Value) → IsTrue (is_doubled ks) ↔ HasTwo ks
doubled_exactly ks = (two ks, λ h. ap is_doubled h.splits ∙ two_back h.front h.one h.between h.other h.rest h.alike)

-- ---- fewer rows

left_false : (a b : Bool) → (a || b) ≡ false → a ≡ false
left_false true b h = absurd cc
left_false false b h = refl

right_false : (a b : Bool) → (a || b) ≡ false → b ≡ false
right_false true b h = absurd cc
right_false false b h = h

both_false : (a b : Bool) → a ≡ false → b ≡ false → (a || b) ≡ false
both_false a b h i = ap (λ (x : Bool). x || b) h ∙ i

module _ (p : ℕ) where
  abbrev all_keys : List Marked → List Value
  all_keys ms = keys_of p (map (λ m. m.row) ms)

  fewer_on : (q : Value → Bool) (b : Bool) (m : Marked) (ms : List Marked) → q (key_in p m.row) ≡ false → list_any q (all_keys ms) ≡ false → list_any q (all_keys (cond b (m ∷ ms) ms)) ≡ false
  fewer_on q false m ms h i = i
  fewer_on q true m ms h i = both_false (q (key_in p m.row)) (list_any q (all_keys ms)) h i

  abbrev left : List Marked → List Marked
  left ms = filter (λ m. not m.taken) ms

  fewer : (q : Value → Bool) (ms : List Marked) → list_any q (all_keys ms) ≡ false → list_any q (all_keys (left ms)) ≡ false
  fewer q [] h = refl
  fewer q (m ∷ ms) h = fewer_on q (not m.taken) m (left ms) (left_false (q (key_in p m.row)) (list_any q (all_keys ms)) h) (fewer q ms (right_false (q (key_in p m.row)) (list_any q (all_keys ms)) h))

  still_on : (b : Bool) (m : Marked) (ms : List Marked) → list_any (λ later. is_one_key later (key_in p m.row)) (all_keys ms) ≡ false → is_doubled (all_keys ms) ≡ false → is_doubled (all_keys (cond b (m ∷ ms) ms)) ≡ false
  still_on false m ms h i = i
  still_on true m ms h i = both_false (list_any (λ later. is_one_key later (key_in p m.row)) (all_keys ms)) (is_doubled (all_keys ms)) h i

  pub still_single : (ms : List Marked) → is_doubled (all_keys ms) ≡ false → is_doubled (keys_of p (other_rows ms)) ≡ false
  still_single [] h = refl
  still_single (m ∷ ms) h = let q : Value → Bool = λ later. is_one_key later (key_in p m.row) in
      still_on (not m.taken) m (left ms) (fewer q ms (left_false (list_any q (all_keys ms)) (is_doubled (all_keys ms)) h)) (still_single ms (right_false (list_any q (all_keys ms)) (is_doubled (all_keys ms)) h))
