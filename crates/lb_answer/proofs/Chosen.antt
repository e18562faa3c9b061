-- The candidates are the kept rows of the visible ones.
use Rattle.std.proofs.Common.{◌≡◌, refl, ap, ◌∙◌, sym, Bool, true, false, cond, List, [], ◌∷◌, map, Ok, Err}
use Rattle.std.specs.Prelude.{if◌then◌else◌}
use Rattle.lb_base.specs.declared.value.Value.{Value}
use Rattle.lb_base.specs.Evaluated.{Evaluated, ◌>>=◌, each, passing}
use Rattle.lb_answer.specs.Basis.{Basis}
use Rattle.lb_answer.specs.Candidates.{Marked, mark, mark_again, taken_rows}
use Rattle.lb_answer.specs.Laws.{AreKept, AreRows}

abbrev Row : Type 0
Row = List Value

abbrev marked : Row → Bool → Marked
marked r b = record { row = r; taken = b }

assoc : {A B C : Type 0} (out : Evaluated A) (f : A → Evaluated B) (g : B → Evaluated C) → ((out >>= f) >>= g) ≡ (out >>= λ x. f x >>= g)
assoc (Ok x) f g = refl
assoc (Err e) f g = refl

turn_out : (b : Bool) (r : Row) (rest : Evaluated (List Marked)) → ((rest >>= λ vs. Ok (marked r b ∷ vs)) >>= λ ms. Ok (taken_rows ms)) ≡ ((rest >>= λ vs. Ok (taken_rows vs)) >>= λ xs. Ok (if b then r ∷ xs else xs))
turn_out true r (Ok vs) = refl
turn_out false r (Ok vs) = refl
turn_out b r (Err e) = refl

passed : (out : Evaluated (List Row)) → (out >>= λ xs. Ok xs) ≡ out
passed (Ok xs) = refl
passed (Err e) = refl

turn : (out : Evaluated Bool) (r : Row) (rest : Evaluated (List Marked))
    → (((out >>= λ b. Ok (marked r b)) >>= λ v. rest >>= λ vs. Ok (v ∷ vs)) >>= λ ms. Ok (taken_rows ms)) ≡ (out >>= λ b. (rest >>= λ vs. Ok (taken_rows vs)) >>= λ xs. Ok (if b then r ∷ xs else xs))
turn (Ok b) r rest = turn_out b r rest
turn (Err e) r rest = refl

module _ (sees keeps : Row → Evaluated Bool) where
  seen : (rs : List Row) → (each (map (mark sees) rs) >>= λ ms. Ok (taken_rows ms)) ≡ passing sees rs
  seen [] = refl
  seen (r ∷ rs) = turn (sees r) r (each (map (mark sees) rs)) ∙ ap (λ out. sees r >>= λ b. out >>= λ xs. Ok (if b then r ∷ xs else xs)) (seen rs)

  abbrev again : List Marked → Evaluated (List Marked)
  again ms = each (map (mark_again keeps) ms)

  abbrev Kept : List Marked → Type 0
  Kept ms = (again ms >>= λ ks. Ok (taken_rows ks)) ≡ passing keeps (taken_rows ms)

  kept_on : (r : Row) (b : Bool) (ms : List Marked) → Kept ms → Kept (marked r b ∷ ms)
  kept_on r true ms h = turn (keeps r) r (again ms) ∙ ap (λ out. keeps r >>= λ b. out >>= λ xs. Ok (if b then r ∷ xs else xs)) h
  kept_on r false ms h = turn_out false r (again ms) ∙ passed (again ms >>= λ vs. Ok (taken_rows vs)) ∙ h

  kept : (ms : List Marked) → Kept ms
  kept [] = refl
  kept (m ∷ ms) = kept_on m.row m.taken ms (kept ms)

  kept_all : (out : Evaluated (List Marked)) → (out >>= λ ms. again ms >>= λ ks. Ok (taken_rows ks)) ≡ ((out >>= λ ms. Ok (taken_rows ms)) >>= passing keeps)
  kept_all (Ok ms) = kept ms
  kept_all (Err e) = refl

pub candidates_are : (b : Basis Row) (rows : List Row) → AreKept b rows
candidates_are b rows = assoc (each (map (mark b.sees) rows)) (λ seen. each (map (mark_again b.keeps) seen)) (λ ms. Ok (taken_rows ms))
    ∙ kept_all b.sees b.keeps (each (map (mark b.sees) rows)) ∙ ap (λ out. out >>= passing b.keeps) (seen b.sees b.keeps rows)

-- ---- each row has its mark

record Got {A B : Type 0} (out : Evaluated A) (f : A → Evaluated B) (y : B) : Type 0 where
  it : A
  is : out ≡ Ok it
  goes : f it ≡ Ok y

got : {A B : Type 0} (out : Evaluated A) (f : A → Evaluated B) (y : B) → (out >>= f) ≡ Ok y → Got out f y
got (Ok x) f y h = record { it = x; is = refl; goes = h }
got (Err e) f y h = absurd cc

abbrev row_in : Row → Evaluated Marked → Row
row_in d (Ok m) = m.row
row_in d (Err e) = d

abbrev marks_in : Evaluated (List Marked) → List Marked
marks_in (Ok ms) = ms
marks_in (Err e) = []

abbrev rows : List Marked → List Row
rows ms = map (λ m. m.row) ms

module _ {X : Type 0} (f : X → Evaluated Marked) (g : X → Row) (keeps_row : (x : X) (m : Marked) → f x ≡ Ok m → m.row ≡ g x) where
  each_rows : (xs : List X) (ms : List Marked) → each (map f xs) ≡ Ok ms → rows ms ≡ map g xs
  each_rows [] ms h = ap (λ out. rows (marks_in out)) (sym h)
  each_rows (x ∷ xs) ms h =
      let a = got (f x) (λ v. each (map f xs) >>= λ vs. Ok (v ∷ vs)) ms h in
      let b = got (each (map f xs)) (λ vs. Ok (a.it ∷ vs)) ms a.goes in
      ap (λ out. rows (marks_in out)) (sym b.goes) ∙ λ i. keeps_row x a.it a.is i ∷ each_rows xs b.it b.is i

mark_row : (test : Row → Evaluated Bool) (r : Row) (m : Marked) → mark test r ≡ Ok m → m.row ≡ r
mark_row test r m h = let a = got (test r) (λ b. Ok (marked r b)) m h in ap (row_in r) (sym a.goes)

again_row : (test : Row → Evaluated Bool) (x : Marked) (b : Bool) (m : Marked) → cond b (mark test x.row) (Ok x) ≡ Ok m → m.row ≡ x.row
again_row test x true m h = mark_row test x.row m h
again_row test x false m h = ap (row_in x.row) (sym h)

same_rows : (rs : List Row) → map (λ r. r) rs ≡ rs
same_rows [] = refl
same_rows (r ∷ rs) = ap (λ (xs : List Row). r ∷ xs) (same_rows rs)

pub rows_are : (b : Basis Row) (rs : List Row) (marks : List Marked) → AreRows b rs marks
rows_are b rs marks h =
    let a = got (each (map (mark b.sees) rs)) (λ seen. each (map (mark_again b.keeps) seen)) marks h in
    each_rows (mark_again b.keeps) (λ m. m.row) (λ x m. again_row b.keeps x x.taken m) a.it marks a.goes
    ∙ each_rows (mark b.sees) (λ r. r) (mark_row b.sees) rs a.it a.is ∙ same_rows rs
