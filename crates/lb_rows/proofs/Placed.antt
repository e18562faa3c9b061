-- Chunks that know their places: where each stands among the rows, and how to find the one of a row.
use Rattle.std.proofs.Common.{◌≡◌, refl, ap, sym, ◌∙◌, ℕ, zero, suc, ◌+◌, ◌-◌, ◌<◌, ◌≤◌, true, false, List, [], ◌∷◌, ◌++◌, length, take, drop, get_or, leb, arith, subst}
use Rattle.std.specs.List.{slice_get}
use Rattle.std.specs.List.Sorted.{IsNonDecreasingBy, IsPartitionPoint}
use Rattle.std.proofs.lemmas.Grind.{flat_map-append}
use Rattle.std.proofs.lemmas.List.{append-nil, drop-drop, length-append, length-drop, take-append-drop}
use Rattle.std.proofs.Math.Seq.{take-append_seam}
use Rattle.std.proofs.lemmas.Bool.{leb-true, leb-false}
use Rattle.lb_base.specs.declared.value.Value.{Value}
use Rattle.lb_rows.specs.declared.chunk.Chunk.{Chunk}
use Rattle.lb_rows.specs.Chunks.{rows_in, rows_in_chunks, ArePlaced}
use Rattle.lb_rows.specs.Runs.{IsRun}

pub rows_push : (chunks : List Chunk) (c : Chunk) → rows_in_chunks (chunks ++ c ∷ []) ≡ rows_in_chunks chunks ++ rows_in c
rows_push chunks c = flat_map-append rows_in chunks (c ∷ []) ∙ ap (λ (rows : List (List Value)). rows_in_chunks chunks ++ rows) (append-nil (rows_in c))

-- one more chunk at the end
placed_push : (at : ℕ) (chunks : List Chunk) (c : Chunk) → ArePlaced at chunks → c.first ≡ at + length (rows_in_chunks chunks) → length (rows_in c) ≤ 256 → ArePlaced at (chunks ++ c ∷ [])
placed_push at [] c placed first few = (first ∙ omega arith, few, tt)
placed_push at (b ∷ chunks) c placed first few =
    let longer : length (rows_in b ++ rows_in_chunks chunks) ≡ length (rows_in b) + length (rows_in_chunks chunks) = length-append (rows_in b) (rows_in_chunks chunks) in
    (placed.0, placed.1, placed_push (at + length (rows_in b)) chunks c placed.2 (first ∙ omega arith) few)

pub placed_last : (chunks : List Chunk) (c : Chunk) → ArePlaced 0 chunks → c.first ≡ length (rows_in_chunks chunks) → length (rows_in c) ≤ 256 → ArePlaced 0 (chunks ++ c ∷ [])
placed_last chunks c placed first few =
    let same : length (rows_in_chunks chunks) ≡ 0 + length (rows_in_chunks chunks) = omega arith in
    placed_push 0 chunks c placed (first ∙ same) few

-- a chunk's place is at least that from which all are counted
at_least : (at : ℕ) (chunks : List Chunk) → ArePlaced at chunks → (k : ℕ) (d : Chunk) → k < length chunks → at ≤ (get_or chunks k d).first
at_least at [] placed k d inside = absurd (omega arith)
at_least at (c ∷ chunks) placed zero d inside = let is : c.first ≡ at = placed.0 in omega arith
at_least at (c ∷ chunks) placed (suc k) d inside =
    let more : at + length (rows_in c) ≤ (get_or chunks k d).first = at_least (at + length (rows_in c)) chunks placed.2 k d (omega arith) in
    omega arith

abbrev pub first_of : Chunk → ℕ
first_of c = c.first

pub in_order : (at : ℕ) (chunks : List Chunk) → ArePlaced at chunks → IsNonDecreasingBy first_of chunks
in_order at [] placed i j d le inside = absurd (omega arith)
in_order at (c ∷ chunks) placed zero zero d le inside = omega arith
in_order at (c ∷ chunks) placed zero (suc j) d le inside =
    let is : c.first ≡ at = placed.0 in
    let more : at + length (rows_in c) ≤ (get_or chunks j d).first = at_least (at + length (rows_in c)) chunks placed.2 j d (omega arith) in
    omega arith
in_order at (c ∷ chunks) placed (suc i) zero d le inside = absurd (omega arith)
in_order at (c ∷ chunks) placed (suc i) (suc j) d le inside = in_order (at + length (rows_in c)) chunks placed.2 i j d (omega arith) (omega arith)

-- the count of the rows with one more chunk
pub count_push : (chunks : List Chunk) (c : Chunk) (count more : ℕ) → count ≡ length (rows_in_chunks chunks) → more ≡ length (rows_in c) → count + more ≡ length (rows_in_chunks (chunks ++ c ∷ []))
count_push chunks c count more is adds =
    let longer : length (rows_in_chunks chunks ++ rows_in c) ≡ length (rows_in_chunks chunks) + length (rows_in c) = length-append (rows_in_chunks chunks) (rows_in c) in
    let whole : length (rows_in_chunks (chunks ++ c ∷ [])) ≡ length (rows_in_chunks chunks ++ rows_in c) = ap length (rows_push chunks c) in
    omega arith

-- the rest of a chunk is a run, where the place is in it or past all rows
run_here : (rows more : List (List Value)) (k : ℕ) → length rows ≤ 256 → (length rows ≤ k → more ≡ []) → IsRun (rows ++ more) k (drop k rows)
run_here [] more zero few ends = record { begins = refl; few = omega arith; some = λ h. let none : length more ≡ 0 = ap length (ends (omega arith)) in absurd (omega arith) }
run_here [] more (suc k) few ends = record { begins = refl; few = omega arith; some = λ h. let none : length more ≡ 0 = ap length (ends (omega arith)) in absurd (omega arith) }
run_here (r ∷ rows) more zero few ends = record { begins = ap (λ (xs : List (List Value)). r ∷ xs) (take-append_seam rows more); few = few; some = λ h. omega arith }
run_here (r ∷ rows) more (suc k) few ends =
    let rest = run_here rows more k (omega arith) (λ h. ends (omega arith)) in
    record { begins = rest.begins; few = rest.few; some = λ h. rest.some (omega arith) }

-- a run of later rows is a run
run_behind : (rows more run : List (List Value)) (k : ℕ) → IsRun more k run → IsRun (rows ++ more) (length rows + k) run
run_behind [] more run k is =
    let same : k ≡ 0 + k = omega arith in
    subst (λ (n : ℕ). IsRun more n run) same is
run_behind (r ∷ rows) more run k is =
    let rest = run_behind rows more run k is in
    let same : suc (length rows + k) ≡ suc (length rows) + k = omega arith in
    subst (λ (n : ℕ). IsRun (r ∷ (rows ++ more)) n run) same (record { begins = rest.begins; few = rest.few; some = λ h. rest.some (omega arith) })

-- the next chunk begins where the chunk ends, so none is left where it begins past the place
ends_here : (at : ℕ) (chunks : List Chunk) (place len : ℕ) → ArePlaced (at + len) chunks → at ≤ place
    → ((k : ℕ) (d : Chunk) → k < length chunks → leb (first_of (get_or chunks k d)) place ≡ false) → len ≤ place - at → rows_in_chunks chunks ≡ []
ends_here at [] place len placed reached later past = refl
ends_here at (c ∷ chunks) place len placed reached later past =
    let is : c.first ≡ at + len = placed.0 in
    let over : place < c.first = leb-false c.first place (later 0 c (omega arith)) in
    absurd (omega arith)

-- the rest of the last chunk that begins at the place or before it is a run from there
pub run_at : (at : ℕ) (chunks : List Chunk) (place i : ℕ) (d : Chunk) → ArePlaced at chunks → at ≤ place
    → IsPartitionPoint (λ c. leb (first_of c) place ≡ true) (λ c. leb (first_of c) place ≡ false) chunks (suc i) → i < length chunks
    → IsRun (rows_in_chunks chunks) (place - at) (drop (place - (get_or chunks i d).first) (rows_in (get_or chunks i d)))
run_at at [] place i d placed reached point inside = absurd (omega arith)
run_at at (c ∷ chunks) place zero d placed reached point inside =
    let here = run_here (rows_in c) (rows_in_chunks chunks) (place - at) placed.1
    (ends_here at chunks place (length (rows_in c)) placed.2 reached (λ k e h. point.1 (suc k) e (omega arith) (omega arith))) in
    subst (λ (n : ℕ). IsRun (rows_in c ++ rows_in_chunks chunks) (place - at) (drop (place - n) (rows_in c))) (sym placed.0) here
run_at at (c ∷ chunks) place (suc i) d placed reached point inside =
    let least : at + length (rows_in c) ≤ (get_or chunks i d).first = at_least (at + length (rows_in c)) chunks placed.2 i d (omega arith) in
    let under : (get_or chunks i d).first ≤ place = leb-true (get_or chunks i d).first place (point.0 (suc i) d (omega arith) (omega arith)) in
    let later = run_at (at + length (rows_in c)) chunks place i d placed.2 (omega arith)
    ((λ k e low high. point.0 (suc k) e (omega arith) (omega arith)), (λ k e low high. point.1 (suc k) e (omega arith) (omega arith))) (omega arith) in
    let same : length (rows_in c) + (place - (at + length (rows_in c))) ≡ place - at = omega arith in
    subst (λ (k : ℕ). IsRun (rows_in c ++ rows_in_chunks chunks) k (drop (place - (get_or chunks i d).first) (rows_in (get_or chunks i d)))) same
    (run_behind (rows_in c) (rows_in_chunks chunks) _ (place - (at + length (rows_in c))) later)

-- where no chunk begins at the place or before it there are no rows
pub none_at : (chunks : List Chunk) (place : ℕ) → ArePlaced 0 chunks → IsPartitionPoint (λ c. leb (first_of c) place ≡ true) (λ c. leb (first_of c) place ≡ false) chunks 0
    → IsRun (rows_in_chunks chunks) place []
none_at [] place placed point = record { begins = refl; few = omega arith; some = λ h. absurd (omega arith) }
none_at (c ∷ chunks) place placed point =
    let is : c.first ≡ 0 = placed.0 in
    let over : place < c.first = leb-false c.first place (point.1 0 c (omega arith) (omega arith)) in
    absurd (omega arith)

-- the first row of a run is the row at its place
pub first_of_run : (rows run : List (List Value)) (k : ℕ) → IsRun rows k run → slice_get run 0 ≡ slice_get rows k
first_of_run [] [] k is = refl
first_of_run [] (r ∷ run) zero is = let b : [] ≡ r ∷ run = is.begins in cc
first_of_run [] (r ∷ run) (suc k) is = let b : [] ≡ r ∷ run = is.begins in cc
first_of_run (x ∷ rows) [] zero is = let h : 0 < 0 = is.some (omega arith) in absurd (omega arith)
first_of_run (x ∷ rows) (r ∷ run) zero is = let b : x ∷ take (length run) rows ≡ r ∷ run = is.begins in cc
first_of_run (x ∷ rows) run (suc k) is = first_of_run rows run k (record { begins = is.begins; few = is.few; some = λ h. is.some (omega arith) })

-- the same, as `partition_point` finds it
abbrev pub BeginBefore : List Chunk → ℕ → ℕ → Type 0
BeginBefore chunks place n = IsPartitionPoint (λ c. leb (first_of c) place ≡ true) (λ c. leb (first_of c) place ≡ false) chunks n

pub begins_before : (chunks : List Chunk) (place n : ℕ) (c : Chunk) → BeginBefore chunks place n → (n ≡ 0 → ⊥) → c ≡ get_or chunks (n - 1) c → c.first ≤ place
begins_before chunks place zero c point some is = absurd (some refl)
begins_before chunks place (suc i) c point some is =
    let under : (get_or chunks (suc i - 1) c).first ≤ place = leb-true _ place (point.0 (suc i - 1) c (omega arith) (omega arith)) in
    subst (λ (b : Chunk). b.first ≤ place) (sym is) under

pub run_in : (chunks : List Chunk) (place n : ℕ) (c : Chunk) (run : List (List Value)) → ArePlaced 0 chunks → BeginBefore chunks place n → (n ≡ 0 → ⊥) → n ≤ length chunks
    → c ≡ get_or chunks (n - 1) c → run ≡ drop (place - c.first) (rows_in c) → IsRun (rows_in_chunks chunks) place run
run_in chunks place zero c run placed point some inside is rest = absurd (some refl)
run_in chunks place (suc i) c run placed point some inside is rest =
    let index : suc i - 1 ≡ i = omega arith in
    let found : get_or chunks i c ≡ c = ap (λ (k : ℕ). get_or chunks k c) (sym index) ∙ sym is in
    let same : place - 0 ≡ place = omega arith in
    let at = run_at 0 chunks place i c placed (omega arith) point (omega arith) in
    let here = subst (λ (b : Chunk). IsRun (rows_in_chunks chunks) (place - 0) (drop (place - b.first) (rows_in b))) found at in
    subst (λ (k : ℕ). IsRun (rows_in_chunks chunks) k run) same (subst (λ (r : List (List Value)). IsRun (rows_in_chunks chunks) (place - 0) r) (sym rest) here)

take_within : (xs ys zs : List (List Value)) → take (length xs) ys ≡ xs → take (length xs) (ys ++ zs) ≡ xs
take_within [] ys zs is = refl
take_within (x ∷ xs) [] zs is = cc
take_within (x ∷ xs) (y ∷ ys) zs is =
    let first : y ≡ x = cc in
    let rest : take (length xs) ys ≡ xs = cc in
    rw (first, take_within xs ys zs rest) refl

drop_within : (k : ℕ) (xs ys : List (List Value)) → k ≤ length xs → drop k (xs ++ ys) ≡ drop k xs ++ ys
drop_within zero xs ys h = refl
drop_within (suc k) [] ys h = absurd (omega arith)
drop_within (suc k) (x ∷ xs) ys h = drop_within k xs ys (omega arith)

-- a run in rows that have more after them
pub run_in_front : (front last run : List (List Value)) (place : ℕ) → place < length front → IsRun front place run → IsRun (front ++ last) place run
run_in_front front last run place inside is = record {
  begins = ap (take (length run)) (drop_within place front last (omega arith)) ∙ take_within run (drop place front) last is.begins;
  few = is.few;
  some = λ h. is.some inside;
}

-- the rest of the last rows is a run
pub run_in_last : (front last run : List (List Value)) (place : ℕ) → length last ≤ 256 → length front ≤ place → run ≡ drop (place - length front) last → IsRun (front ++ last) place run
run_in_last front last run place few past is =
    let same : length front + (place - length front) ≡ place = omega arith in
    let nil : last ++ [] ≡ last = append-nil last in
    let here = subst (λ (rows : List (List Value)). IsRun rows (place - length front) (drop (place - length front) last)) nil (run_here last [] (place - length front) few (λ h. refl)) in
    subst (λ (k : ℕ). IsRun (front ++ last) k run) same (run_behind front last run (place - length front) (subst (λ (r : List (List Value)). IsRun last (place - length front) r) (sym is) here))

-- what is left of the rows from a place on, by the run there
pub run_on : (rows run : List (List Value)) (k : ℕ) → IsRun rows k run → run ++ drop (k + length run) rows ≡ drop k rows
run_on rows run k is =
    ap (λ (r : List (List Value)). run ++ r) (sym (drop-drop (length run) k rows)) ∙ ap (λ (r : List (List Value)). r ++ drop (length run) (drop k rows)) (sym is.begins)
    ∙ take-append-drop (length run) (drop k rows)

-- a run stands within the rows
pub run_inside : (rows run : List (List Value)) (k : ℕ) → IsRun rows k run → 0 < length run → k + length run ≤ length rows
run_inside rows run k is some =
    let whole : length (drop k rows) ≡ length run + length (drop (k + length run) rows) = ap length (sym (run_on rows run k is)) ∙ length-append run (drop (k + length run) rows) in
    let rest : length (drop k rows) ≡ length rows - k = length-drop k rows in
    omega arith

pub none_left : (run : List (List Value)) → length run ≡ 0 → run ≡ []
none_left [] h = refl
none_left (r ∷ run) h = absurd (omega arith)
