-- Rows that no edit touches stay as they are.
use Rattle.std.proofs.Common.{◌≡◌, refl, ap, sym, ℕ, suc, ◌+◌, ◌<◌, ◌≤◌, Bool, true, false, cond, ◌||◌, List, [], ◌∷◌, length, Option, Some, None, Bor, eqb, arith}
use Rattle.std.specs.Prelude.{find}
use Rattle.std.specs.List.{list_any}
use Rattle.std.specs.Option.{is_some, option_copied}
use Rattle.std.proofs.lemmas.Bool.{eqb-true, le-leb, lt-ltb}
use Rattle.lb_base.specs.declared.value.Value.{Value}
use Rattle.lb_rows.specs.declared.edit.ChangedRow.{ChangedRow}
use Rattle.lb_rows.specs.Edits.{rows_changed_from, changed_row, is_one_of, is_change_at, rows_remaining_from, new_or}
use Rattle.lb_rows.specs.Within.{is_change_within, is_within}

is_inside : (first end place n : ℕ) → first ≤ place → place < end → eqb n place ≡ true → is_within first end n ≡ true
is_inside first end place n low high is =
    let same : n ≡ place = eqb-true n place is in
    rw (le-leb first n (omega arith), lt-ltb n end (omega arith)) refl

-- where no change is within, none is at a place within
unchanged_at : (changes : List ChangedRow) (first end place : ℕ) → find (is_change_within first end) changes ≡ None → first ≤ place → place < end → find (is_change_at place) changes ≡ None
unchanged_at [] first end place none low high = refl
unchanged_at (c ∷ changes) first end place none low high =
    elim (eqb c.place place) as (λ b. eqb c.place place ≡ b → cond b (Some c) (find (is_change_at place) changes) ≡ None) [
      | true ↦ λ e. let there : cond true (Some c) (find (is_change_within first end) changes) ≡ None = rw (is_inside first end place c.place low high e) at none in cc
      | false ↦ λ e. unchanged_at changes first end place (rest (is_change_within first end c) none) low high
    ] refl
  where
    rest : (b : Bool) → cond b (Some c) (find (is_change_within first end) changes) ≡ None → find (is_change_within first end) changes ≡ None
    rest true e = cc
    rest false e = e

unchanged_below : (changes : List ChangedRow) (first end at : ℕ) (rows : List (List Value)) → find (is_change_within first end) changes ≡ None → first ≤ at → at + length rows ≤ end → rows_changed_from changes at rows ≡ rows
unchanged_below changes first end at [] none low high = refl
unchanged_below changes first end at (row ∷ rows) none low high =
    let here : changed_row changes at row ≡ row = ap (new_or row) (unchanged_at changes first end at none low (omega arith)) in
    let rest : rows_changed_from changes (suc at) rows ≡ rows = unchanged_below changes first end (suc at) rows none (omega arith) (omega arith) in
    rw (here, rest) refl

pub unchanged : (changes : List ChangedRow) (first end len : ℕ) (rows : List (List Value)) → None ≡ find (is_change_within first end) changes → end ≡ first + len → len ≡ length rows → rows_changed_from changes first rows ≡ rows
unchanged changes first end len rows none ends is = unchanged_below changes first end first rows (sym none) (omega arith) (omega arith)

-- where no place is within, none within is among them
left_at : (places : List ℕ) (first end place : ℕ) → list_any (is_within first end) places ≡ false → first ≤ place → place < end → is_one_of places place ≡ false
left_at [] first end place none low high = refl
left_at (p ∷ places) first end place none low high =
    elim (eqb p place) as (λ b. eqb p place ≡ b → b || is_one_of places place ≡ false) [
      | true ↦ λ e. let there : true || list_any (is_within first end) places ≡ false = rw (is_inside first end place p low high e) at none in cc
      | false ↦ λ e. left_at places first end place (rest (is_within first end p) none) low high
    ] refl
  where
    rest : (b : Bool) → b || list_any (is_within first end) places ≡ false → list_any (is_within first end) places ≡ false
    rest true e = cc
    rest false e = e

left_below : (places : List ℕ) (first end at : ℕ) (rows : List (List Value)) → list_any (is_within first end) places ≡ false → first ≤ at → at + length rows ≤ end → rows_remaining_from places at rows ≡ rows
left_below places first end at [] none low high = refl
left_below places first end at (row ∷ rows) none low high =
    let here : is_one_of places at ≡ false = left_at places first end at none low (omega arith) in
    let rest : rows_remaining_from places (suc at) rows ≡ rows = left_below places first end (suc at) rows none (omega arith) (omega arith) in
    rw (here, rest) refl

pub all_left : (places : List ℕ) (first end len : ℕ) (rows : List (List Value)) → list_any (is_within first end) places ≡ false → end ≡ first + len → len ≡ length rows → rows_remaining_from places first rows ≡ rows
all_left places first end len rows none ends is = left_below places first end first rows none (omega arith) (omega arith)

pub none_there : {X : Type 0} (o : Option (Bor X)) → is_some o ≡ false → None ≡ option_copied o
none_there None h = refl
none_there (Some x) h = cc
