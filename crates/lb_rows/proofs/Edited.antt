-- Rows that are edited piece by piece: row after row, and chunk after chunk.
use Rattle.std.proofs.Common.{◌≡◌, refl, ap, sym, ◌∙◌, ℕ, zero, suc, ◌+◌, ◌<◌, ◌≤◌, ◌^◌, true, false, cond, List, [], ◌∷◌, ◌++◌, length, take, get_or, arith, subst}
use Rattle.std.proofs.lemmas.List.{append-nil, append_assoc, length-append, length-take-le, take_more}
use Rattle.lb_base.specs.declared.value.Value.{Value}
use Rattle.lb_rows.specs.declared.chunk.Chunk.{Chunk}
use Rattle.lb_rows.specs.declared.edit.ChangedRow.{ChangedRow}
use Rattle.lb_rows.specs.Chunks.{rows_in, rows_in_chunks, ArePlaced}
use Rattle.lb_rows.specs.Edits.{rows_changed_from, changed_row, rows_remaining_from, is_one_of}
use Rattle.lb_rows.proofs.Placed.{rows_push}

-- an edit of rows, the first of which has the given place, goes piece by piece, and adds no row
pub record IsEdit (f : ℕ → List (List Value) → List (List Value)) : Type 0 where
  pub none : (at : ℕ) → f at [] ≡ []
  pub pieces : (at : ℕ) (xs ys : List (List Value)) → f at (xs ++ ys) ≡ f at xs ++ f (at + length xs) ys
  pub short : (at : ℕ) (xs : List (List Value)) → length (f at xs) ≤ length xs

abbrev pub kept_from : ℕ → List (List Value) → List (List Value)
kept_from at rows = rows

pub kept_is_edit : IsEdit kept_from
kept_is_edit = record { none = λ at. refl; pieces = λ at xs ys. refl; short = λ at xs. omega arith }

changed_pieces : (changes : List ChangedRow) (at : ℕ) (xs ys : List (List Value)) → rows_changed_from changes at (xs ++ ys) ≡ rows_changed_from changes at xs ++ rows_changed_from changes (at + length xs) ys
changed_pieces changes at [] ys = let same : at ≡ at + 0 = omega arith in ap (λ (n : ℕ). rows_changed_from changes n ys) same
changed_pieces changes at (x ∷ xs) ys =
    let same : suc at + length xs ≡ at + suc (length xs) = omega arith in
    ap (λ (rows : List (List Value)). changed_row changes at x ∷ rows)
    (changed_pieces changes (suc at) xs ys ∙ ap (λ (n : ℕ). rows_changed_from changes (suc at) xs ++ rows_changed_from changes n ys) same)

changed_short : (changes : List ChangedRow) (at : ℕ) (xs : List (List Value)) → length (rows_changed_from changes at xs) ≤ length xs
changed_short changes at [] = omega arith
changed_short changes at (x ∷ xs) = let rest : length (rows_changed_from changes (suc at) xs) ≤ length xs = changed_short changes (suc at) xs in omega arith

pub changed_is_edit : (changes : List ChangedRow) → IsEdit (rows_changed_from changes)
changed_is_edit changes = record { none = λ at. refl; pieces = changed_pieces changes; short = changed_short changes }

left_pieces : (places : List ℕ) (at : ℕ) (xs ys : List (List Value)) → rows_remaining_from places at (xs ++ ys) ≡ rows_remaining_from places at xs ++ rows_remaining_from places (at + length xs) ys
left_pieces places at [] ys = let same : at ≡ at + 0 = omega arith in ap (λ (n : ℕ). rows_remaining_from places n ys) same
left_pieces places at (x ∷ xs) ys =
    let same : suc at + length xs ≡ at + suc (length xs) = omega arith in
    let rest : rows_remaining_from places (suc at) (xs ++ ys) ≡ rows_remaining_from places (suc at) xs ++ rows_remaining_from places (at + suc (length xs)) ys =
    left_pieces places (suc at) xs ys ∙ ap (λ (n : ℕ). rows_remaining_from places (suc at) xs ++ rows_remaining_from places n ys) same in
    elim (is_one_of places at) as (λ b. cond b (rows_remaining_from places (suc at) (xs ++ ys)) (x ∷ rows_remaining_from places (suc at) (xs ++ ys))
    ≡ cond b (rows_remaining_from places (suc at) xs) (x ∷ rows_remaining_from places (suc at) xs) ++ rows_remaining_from places (at + suc (length xs)) ys) [
      | true ↦ rest
      | false ↦ ap (λ (rows : List (List Value)). x ∷ rows) rest
    ]

left_short : (places : List ℕ) (at : ℕ) (xs : List (List Value)) → length (rows_remaining_from places at xs) ≤ length xs
left_short places at [] = omega arith
left_short places at (x ∷ xs) =
    let rest : length (rows_remaining_from places (suc at) xs) ≤ length xs = left_short places (suc at) xs in
    elim (is_one_of places at) as (λ b. length (cond b (rows_remaining_from places (suc at) xs) (x ∷ rows_remaining_from places (suc at) xs)) ≤ suc (length xs)) [
      | true ↦ omega arith
      | false ↦ omega arith
    ]

pub left_is_edit : (places : List ℕ) → IsEdit (rows_remaining_from places)
left_is_edit places = record { none = λ at. refl; pieces = left_pieces places; short = left_short places }

-- where a chunk stands among all rows
pub record StandsAt (chunks : List Chunk) (at i : ℕ) (c : Chunk) : Type 0 where
  pub first : c.first ≡ at + length (rows_in_chunks (take i chunks))
  pub few : length (rows_in c) ≤ 256
  pub inside : length (rows_in_chunks (take i chunks)) + length (rows_in c) ≤ length (rows_in_chunks chunks)
  pub next : rows_in_chunks (take (i + 1) chunks) ≡ rows_in_chunks (take i chunks) ++ rows_in c

stands_here : (at : ℕ) (chunks : List Chunk) (i : ℕ) (d : Chunk) → ArePlaced at chunks → i < length chunks
    → ((get_or chunks i d).first ≡ at + length (rows_in_chunks (take i chunks))) × (length (rows_in (get_or chunks i d)) ≤ 256)
    × (length (rows_in_chunks (take i chunks)) + length (rows_in (get_or chunks i d)) ≤ length (rows_in_chunks chunks))
stands_here at [] i d placed inside = absurd (omega arith)
stands_here at (c ∷ chunks) zero d placed inside =
    let longer : length (rows_in c ++ rows_in_chunks chunks) ≡ length (rows_in c) + length (rows_in_chunks chunks) = length-append (rows_in c) (rows_in_chunks chunks) in
    let same : at ≡ at + 0 = omega arith in
    (placed.0 ∙ same, placed.1, omega arith)
stands_here at (c ∷ chunks) (suc i) d placed inside =
    let longer : length (rows_in c ++ rows_in_chunks chunks) ≡ length (rows_in c) + length (rows_in_chunks chunks) = length-append (rows_in c) (rows_in_chunks chunks) in
    let behind : length (rows_in c ++ rows_in_chunks (take i chunks)) ≡ length (rows_in c) + length (rows_in_chunks (take i chunks)) = length-append (rows_in c) (rows_in_chunks (take i chunks)) in
    let rest = stands_here (at + length (rows_in c)) chunks i d placed.2 (omega arith) in
    let here : (get_or chunks i d).first ≡ at + length (rows_in c) + length (rows_in_chunks (take i chunks)) = rest.0 in
    let fits : length (rows_in_chunks (take i chunks)) + length (rows_in (get_or chunks i d)) ≤ length (rows_in_chunks chunks) = rest.2 in
    (omega arith, rest.1, omega arith)

pub stands_at : (chunks : List Chunk) (i : ℕ) (c : Chunk) → ArePlaced 0 chunks → i < length chunks → c ≡ get_or chunks i c → StandsAt chunks 0 i c
stands_at chunks i c placed inside is =
    let here = stands_here 0 chunks i c placed inside in
    record {
      first = ap (λ (b : Chunk). b.first) is ∙ here.0;
      few = subst (λ (b : Chunk). length (rows_in b) ≤ 256) (sym is) here.1;
      inside = subst (λ (b : Chunk). length (rows_in_chunks (take i chunks)) + length (rows_in b) ≤ length (rows_in_chunks chunks)) (sym is) here.2;
      next = ap rows_in_chunks (take_more chunks i c inside ∙ ap (λ (b : Chunk). take i chunks ++ b ∷ []) (sym is)) ∙ rows_push (take i chunks) c;
    }

module _ (f : ℕ → List (List Value) → List (List Value)) (edit : IsEdit f) where
  -- nothing is edited yet
  pub at_first : (old : List (List Value)) (at : ℕ) → old ≡ old ++ f at []
  at_first old at = sym (append-nil old) ∙ ap (λ (rows : List (List Value)). old ++ rows) (sym (edit.none at))

  -- one more row
  pub next_row : (old now new rows : List (List Value)) (at i place : ℕ) (row : List Value) → i < length rows → row ≡ get_or rows i row → place ≡ at + i
      → now ≡ old ++ f at (take i rows) → new ≡ now ++ f place (row ∷ []) → new ≡ old ++ f at (take (i + 1) rows)
  next_row old now new rows at i place row inside is there so_far more =
      let taken : length (take i rows) ≡ i = length-take-le i rows (omega arith) in
      let further : take (i + 1) rows ≡ take i rows ++ row ∷ [] = take_more rows i row inside ∙ ap (λ (r : List Value). take i rows ++ r ∷ []) (sym is) in
      let joined : f at (take i rows ++ row ∷ []) ≡ f at (take i rows) ++ f place (row ∷ []) =
      edit.pieces at (take i rows) (row ∷ []) ∙ ap (λ (n : ℕ). f at (take i rows) ++ f n (row ∷ [])) (ap (λ (n : ℕ). at + n) taken ∙ sym there) in
      more ∙ ap (λ (rs : List (List Value)). rs ++ f place (row ∷ [])) so_far ∙ append_assoc old (f at (take i rows)) (f place (row ∷ []))
      ∙ ap (λ (rs : List (List Value)). old ++ rs) (sym (ap (f at) further ∙ joined))

  -- there is room for one more row
  pub room_for_row : (old now rows : List (List Value)) (at i : ℕ) → i < length rows → length old + length rows < 2 ^ 32 → now ≡ old ++ f at (take i rows) → length now + 1 < 2 ^ 32
  room_for_row old now rows at i inside fits so_far =
      let taken : length (take i rows) ≡ i = length-take-le i rows (omega arith) in
      let short : length (f at (take i rows)) ≤ length (take i rows) = edit.short at (take i rows) in
      let whole : length now ≡ length old + length (f at (take i rows)) = ap length so_far ∙ length-append old (f at (take i rows)) in
      omega arith

  -- one more chunk
  pub next_chunk : (old now new : List (List Value)) (chunks : List Chunk) (i : ℕ) (c : Chunk) → StandsAt chunks 0 i c
      → now ≡ old ++ f 0 (rows_in_chunks (take i chunks)) → new ≡ now ++ f c.first (rows_in c) → new ≡ old ++ f 0 (rows_in_chunks (take (i + 1) chunks))
  next_chunk old now new chunks i c stands so_far more =
      let before : List (List Value) = rows_in_chunks (take i chunks) in
      let joined : f 0 (rows_in_chunks (take (i + 1) chunks)) ≡ f 0 before ++ f c.first (rows_in c) =
      ap (f 0) stands.next ∙ edit.pieces 0 before (rows_in c) ∙ ap (λ (n : ℕ). f 0 before ++ f n (rows_in c)) (sym stands.first) in
      more ∙ ap (λ (rs : List (List Value)). rs ++ f c.first (rows_in c)) so_far ∙ append_assoc old (f 0 before) (f c.first (rows_in c)) ∙ ap (λ (rs : List (List Value)). old ++ rs) (sym joined)

  -- there is room for the rows of one more chunk
  pub room_for_chunk : (old now : List (List Value)) (chunks : List Chunk) (i : ℕ) (c : Chunk) → StandsAt chunks 0 i c → length old + length (rows_in_chunks chunks) < 2 ^ 32
      → now ≡ old ++ f 0 (rows_in_chunks (take i chunks)) → length now + length (rows_in c) < 2 ^ 32
  room_for_chunk old now chunks i c stands fits so_far =
      let before : List (List Value) = rows_in_chunks (take i chunks) in
      let short : length (f 0 before) ≤ length before = edit.short 0 before in
      let inside : length before + length (rows_in c) ≤ length (rows_in_chunks chunks) = stands.inside in
      let whole : length now ≡ length old + length (f 0 before) = ap length so_far ∙ length-append old (f 0 before) in
      omega arith

-- the places of a chunk's rows are below the count of all rows
pub inside_all : (chunks : List Chunk) (i : ℕ) (c : Chunk) → StandsAt chunks 0 i c → length (rows_in_chunks chunks) < 2 ^ 32 → c.first + length (rows_in c) < 2 ^ 32
inside_all chunks i c stands fits =
    let first : c.first ≡ 0 + length (rows_in_chunks (take i chunks)) = stands.first in
    let inside : length (rows_in_chunks (take i chunks)) + length (rows_in c) ≤ length (rows_in_chunks chunks) = stands.inside in
    omega arith

module _ (f : ℕ → List (List Value) → List (List Value)) (edit : IsEdit f) where
  -- the front rows are edited, and there is room for the last ones
  pub room_behind : (old now rows front last : List (List Value)) → old ≡ [] → now ≡ old ++ f 0 rows → rows ≡ front → length front + length last < 2 ^ 32 → length now + length last < 2 ^ 32
  room_behind old now rows front last none is same fits =
      let short : length (f 0 front) ≤ length front = edit.short 0 front in
      let whole : length now ≡ length (f 0 front) = ap length (is ∙ ap (λ (xs : List (List Value)). xs ++ f 0 rows) none ∙ ap (f 0) same) in
      omega arith

  -- the last rows are edited too
  pub all_edited : (old now rows front last : List (List Value)) (first : ℕ) → old ≡ [] → now ≡ old ++ f 0 rows → rows ≡ front → first ≡ length front → now ++ f first last ≡ f 0 (front ++ last)
  all_edited old now rows front last first none is same at =
      let start : now ≡ f 0 front = is ∙ ap (λ (xs : List (List Value)). xs ++ f 0 rows) none ∙ ap (f 0) same in
      let place : first ≡ 0 + length front = let zeroth : length front ≡ 0 + length front = omega arith in at ∙ zeroth in
      ap (λ (xs : List (List Value)). xs ++ f first last) start ∙ ap (λ (n : ℕ). f 0 front ++ f n last) place ∙ sym (edit.pieces 0 front last)

  -- there is room for all of the last rows
  pub room_for_all : (old now rows last : List (List Value)) (first : ℕ) → now ≡ old ++ f first rows → rows ≡ last → length old + length last < 2 ^ 32 → length now < 2 ^ 32
  room_for_all old now rows last first is same fits =
      let short : length (f first rows) ≤ length rows = edit.short first rows in
      let count : length rows ≡ length last = ap length same in
      let whole : length now ≡ length old + length (f first rows) = ap length is ∙ length-append old (f first rows) in
      omega arith
