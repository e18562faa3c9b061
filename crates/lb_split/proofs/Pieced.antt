-- The pieces from one offset on, and from the next.
use Rattle.std.proofs.Common.{Bool, true, false, cond, ◌≡◌, ℕ, zero, suc, ◌+◌, ◌-◌, ◌<◌, ◌≤◌, ◌⊎◌, inl, inr, List, [], ◌∷◌, length, drop, Some, None, refl, sym, ap, subst, ◌∙◌, add-zero, arith, length-drop}
use Rattle.std.proofs.lemmas.List.{drop-drop}
use Rattle.std.proofs.Math.Dec.{eqb}
use Rattle.std.proofs.lemmas.Bool.{eq-eqb}
use Rattle.std.specs.Prelude.{min, ◌==◌, ◌&&◌, ◌||◌}
use Rattle.lb_split.specs.declared.scan.Place.{Place}
use Rattle.lb_split.specs.declared.scan.Place.TheVariants.{Open}
use Rattle.lb_split.specs.Lexing.{begins, behind, passed_len, is_gap, is_inside, gap_len, statement_len, is_blank, white_len, is_quit, line_len, next_line, next_header_line}
use Rattle.lb_split.specs.Pieces.{statement_of, piece_kind, piece_at, taken, with_some, pieces_in, pieces_from, before, first_of, resumed, start_of, IsWithin}
use Rattle.lb_split.specs.declared.piece.Piece.{Piece}
use Rattle.lb_split.specs.declared.piece.Piece.TheVariants as pieces
use Rattle.lb_split.specs.declared.scan.PieceKind.{PieceKind}
use Rattle.lb_split.specs.declared.scan.PieceKind.TheVariants as piece_kinds
use Rattle.lb_split.proofs.Scanned.{line_then_next, next_some, line_some, white_blank}

le_or : (n m : ℕ) → (n ≤ m) ⊎ (m < n)
le_or n m = grind arith

pieces_none : (text : List ℕ) (at skip : ℕ) → length text ≤ skip → pieces_in text at skip ≡ []
pieces_none [] at skip h = refl
pieces_none (b ∷ bs) at zero h = absurd (omega arith)
pieces_none (b ∷ bs) at (suc k) h = pieces_none bs (at + 1) k (omega arith)

-- passing over some bytes
pieces_skip : (text : List ℕ) (at k : ℕ) → pieces_in text at k ≡ pieces_in (drop k text) (at + k) 0
pieces_skip [] at zero = refl
pieces_skip [] at (suc k) = refl
pieces_skip (b ∷ bs) at zero = ap (λ (a : ℕ). pieces_in (b ∷ bs) a 0) (sym (add-zero at))
pieces_skip (b ∷ bs) at (suc k) =
    let e : at + 1 + k ≡ at + suc k = omega arith in
    pieces_skip bs (at + 1) k ∙ ap (λ (a : ℕ). pieces_in (drop k bs) a 0) e

skip_one : (b : ℕ) (bs : List ℕ) (at n : ℕ) → 1 ≤ n → pieces_in (b ∷ bs) at n ≡ pieces_in bs (at + 1) (n - 1)
skip_one b bs at zero h = absurd (omega arith)
skip_one b bs at (suc n) h = let e : n ≡ suc n - 1 = omega arith in ap (pieces_in bs (at + 1)) e

first_true : (h b q : Bool) → cond h piece_kinds.Header (cond b piece_kinds.Blank (cond q piece_kinds.Quit piece_kinds.Statement)) ≡ piece_kinds.Header → h ≡ true
first_true true b q e = refl
first_true false true q e = absurd cc
first_true false false true e = absurd cc
first_true false false false e = absurd cc

blank_true : (h b q : Bool) → cond h piece_kinds.Header (cond b piece_kinds.Blank (cond q piece_kinds.Quit piece_kinds.Statement)) ≡ piece_kinds.Quit → b ≡ false
blank_true true b q e = absurd cc
blank_true false true q e = absurd cc
blank_true false false q e = refl

blank_true' : (h b q : Bool) → cond h piece_kinds.Header (cond b piece_kinds.Blank (cond q piece_kinds.Quit piece_kinds.Statement)) ≡ piece_kinds.Statement → b ≡ false
blank_true' true b q e = absurd cc
blank_true' false true q e = absurd cc
blank_true' false false q e = refl

pub header_there : (text : List ℕ) → piece_kind text ≡ piece_kinds.Header → begins 64 (drop (gap_len text) text) ≡ true
header_there text e = first_true _ (is_blank (statement_of text)) (is_quit (statement_of text)) e

pub quit_there : (text : List ℕ) → piece_kind text ≡ piece_kinds.Quit → is_blank (statement_of text) ≡ false
quit_there text e = blank_true (begins 64 (drop (gap_len text) text)) _ (is_quit (statement_of text)) e

pub statement_there : (text : List ℕ) → piece_kind text ≡ piece_kinds.Statement → is_blank (statement_of text) ≡ false
statement_there text e = blank_true' (begins 64 (drop (gap_len text) text)) _ (is_quit (statement_of text)) e

-- a statement that isn't blank goes on after its white space
pub beyond_white : (text : List ℕ) → is_blank (statement_of text) ≡ false → white_len text < statement_len text
beyond_white text h = lt_by (statement_len text) (white_len text) (white_blank (statement_len text) text)
  where
    blank_then : gap_len (statement_of text) ≡ length (statement_of text) → ⊥
    blank_then e = let t = eq-eqb (gap_len (statement_of text)) (length (statement_of text)) e in absurd (grind (arith, h, t))

    lt_by : (n w : ℕ) → (n ≤ w → gap_len (statement_of text) ≡ length (statement_of text)) → w < n
    lt_by n w f = elim (le_or n w) [ inl le ↦ absurd (blank_then (f le)) | inr lt ↦ lt ]

taken_some : (o : PieceKind) (text : List ℕ) → piece_kind text ≡ o → 1 ≤ taken o text
taken_some piece_kinds.Header text e = omega (arith, next_some (drop (gap_len text) text) (header_there text e))
taken_some piece_kinds.Blank text e = omega arith
taken_some piece_kinds.Quit text e = omega (arith, beyond_white text (quit_there text e))
taken_some piece_kinds.Statement text e = omega arith

step_cons : (b : ℕ) (bs : List ℕ) (at : ℕ) (o : PieceKind) → piece_kind (b ∷ bs) ≡ o
    → pieces_in (b ∷ bs) at 0 ≡ with_some (piece_at o at (b ∷ bs)) (pieces_in (b ∷ bs) at (taken o (b ∷ bs)))
step_cons b bs at o e =
    ap (λ (x : PieceKind). with_some (piece_at x at (b ∷ bs)) (pieces_in bs (at + 1) (taken x (b ∷ bs) - 1))) e
    ∙ ap (with_some (piece_at o at (b ∷ bs))) (sym (skip_one b bs at (taken o (b ∷ bs)) (taken_some o (b ∷ bs) e)))

step_some : (text : List ℕ) (at : ℕ) (o : PieceKind) → 1 ≤ length text → piece_kind text ≡ o
    → pieces_in text at 0 ≡ with_some (piece_at o at text) (pieces_in text at (taken o text))
step_some [] at o lt e = absurd (omega arith)
step_some (b ∷ bs) at o lt e = step_cons b bs at o e

-- at an offset of the bytes
at_offset : (bytes : List ℕ) (at n : ℕ) → pieces_in (drop at bytes) at n ≡ pieces_from bytes (at + n)
at_offset bytes at n =
    let e : 0 + (at + n) ≡ at + n = omega arith in
    pieces_skip (drop at bytes) at n ∙ ap (λ (t : List ℕ). pieces_in t (at + n) 0) (drop-drop n at bytes)
    ∙ sym (pieces_skip bytes 0 (at + n) ∙ ap (λ (a : ℕ). pieces_in (drop (at + n) bytes) a 0) e)

pub step : (bytes : List ℕ) (at : ℕ) (o : PieceKind) → at < length bytes → piece_kind (drop at bytes) ≡ o
    → pieces_from bytes at ≡ with_some (piece_at o at (drop at bytes)) (pieces_from bytes (at + taken o (drop at bytes)))
step bytes at o lt e =
    let zero : at + 0 ≡ at = omega arith in
    ap (pieces_from bytes) (sym zero) ∙ sym (at_offset bytes at 0)
    ∙ step_some (drop at bytes) at o (omega (arith, length-drop at bytes)) e
    ∙ ap (with_some (piece_at o at (drop at bytes))) (at_offset bytes at (taken o (drop at bytes)))

pieces_min : (bytes : List ℕ) (n : ℕ) → pieces_from bytes (min n (length bytes)) ≡ pieces_from bytes n
pieces_min bytes n = elim (le_or n (length bytes)) [
  | inl le ↦ let e : min n (length bytes) ≡ n = omega arith in ap (pieces_from bytes) e
  | inr lt ↦ let e : min n (length bytes) ≡ length bytes = omega arith in
      ap (pieces_from bytes) e ∙ pieces_none bytes 0 (length bytes) (omega arith) ∙ sym (pieces_none bytes 0 n (omega arith))
]

pub blank_step : (bytes : List ℕ) (at : ℕ) (text : List ℕ) → text ≡ drop at bytes → at < length bytes → None ≡ piece_at (piece_kind text) at text
    → pieces_from bytes at ≡ pieces_from bytes (min (at + statement_len text + 1) (length bytes))
blank_step bytes at text t lt e = blank_by (piece_kind text) refl e
  where
    blank_by : (o : PieceKind) → piece_kind text ≡ o → None ≡ piece_at o at text → pieces_from bytes at ≡ pieces_from bytes (min (at + statement_len text + 1) (length bytes))
    blank_by piece_kinds.Header f e = absurd cc
    blank_by piece_kinds.Quit f e = absurd cc
    blank_by piece_kinds.Statement f e = absurd cc
    blank_by piece_kinds.Blank f e =
        let k : at + (statement_len (drop at bytes) + 1) ≡ at + statement_len text + 1 = rw t (omega arith) in
        step bytes at piece_kinds.Blank lt (ap piece_kind (sym t) ∙ f) ∙ ap (pieces_from bytes) k ∙ sym (pieces_min bytes (at + statement_len text + 1))

pub header_end : (bytes : List ℕ) (at g : ℕ) → (let t = drop g (drop at bytes) in at + g + line_len t + next_line (drop (at + g + line_len t) bytes) ≡ at + (g + next_line t))
header_end bytes at g =
    let t : List ℕ = drop g (drop at bytes) in
    let e : drop (at + g + line_len (drop g (drop at bytes))) bytes ≡ drop (line_len (drop g (drop at bytes))) (drop g (drop at bytes)) =
    sym (drop-drop (line_len (drop g (drop at bytes))) (at + g) bytes) ∙ ap (drop (line_len (drop g (drop at bytes)))) (sym (drop-drop g at bytes)) in
    rw e (omega (arith, line_then_next (drop g (drop at bytes))))

quit_end : (bytes : List ℕ) (at n : ℕ) → at + n + next_header_line (drop (at + n) bytes) ≡ at + (n + next_header_line (drop n (drop at bytes)))
quit_end bytes at n = rw (drop-drop n at bytes) (omega arith)

found_by : (bytes : List ℕ) (at : ℕ) (o : PieceKind) (p : Piece) → Some p ≡ piece_at o at (drop at bytes)
    → with_some (piece_at o at (drop at bytes)) (pieces_from bytes (at + taken o (drop at bytes))) ≡ before p (pieces_from bytes (resumed bytes p))
found_by bytes at piece_kinds.Blank p e = absurd cc
found_by bytes at piece_kinds.Header p e =
    let q : p ≡ pieces.Header (at + gap_len (drop at bytes)) (at + gap_len (drop at bytes) + line_len (drop (gap_len (drop at bytes)) (drop at bytes))) = cc in
    rw q (ap (λ (n : ℕ). pieces.Header (at + gap_len (drop at bytes)) (at + gap_len (drop at bytes) + line_len (drop (gap_len (drop at bytes)) (drop at bytes))) ∷ pieces_from bytes n) (sym (header_end bytes at (gap_len (drop at bytes)))))
found_by bytes at piece_kinds.Quit p e =
    let q : p ≡ pieces.Quit (at + white_len (drop at bytes)) (at + statement_len (drop at bytes)) = cc in
    rw q (ap (λ (n : ℕ). pieces.Quit (at + white_len (drop at bytes)) (at + statement_len (drop at bytes)) ∷ pieces_from bytes n) (sym (quit_end bytes at (statement_len (drop at bytes)))))
found_by bytes at piece_kinds.Statement p e =
    let q : p ≡ pieces.Statement (at + white_len (drop at bytes)) (at + statement_len (drop at bytes)) = cc in
    let k : at + (statement_len (drop at bytes) + 1) ≡ at + statement_len (drop at bytes) + 1 = omega arith in
    rw q (ap (λ (ps : List Piece). pieces.Statement (at + white_len (drop at bytes)) (at + statement_len (drop at bytes)) ∷ ps)
    (ap (pieces_from bytes) k ∙ sym (pieces_min bytes (at + statement_len (drop at bytes) + 1))))

pub found_step : (bytes : List ℕ) (at : ℕ) (text : List ℕ) (p : Piece) → text ≡ drop at bytes → at < length bytes → Some p ≡ piece_at (piece_kind text) at text
    → pieces_from bytes at ≡ before p (pieces_from bytes (resumed bytes p))
found_step bytes at text p t lt e =
    let e2 : Some p ≡ piece_at (piece_kind (drop at bytes)) at (drop at bytes) = subst (λ (x : List ℕ). Some p ≡ piece_at (piece_kind x) at x) t e in
    step bytes at (piece_kind (drop at bytes)) lt refl ∙ found_by bytes at (piece_kind (drop at bytes)) p e2

pub first_before : (p : Piece) (ps : List Piece) → first_of (before p ps) ≡ p
first_before (pieces.Header from to) ps = refl
first_before (pieces.Statement from to) ps = refl
first_before (pieces.Quit from to) ps = refl
first_before pieces.End ps = refl

pub nothing_left : (bytes : List ℕ) (at : ℕ) → length bytes ≤ at → pieces_from bytes at ≡ []
nothing_left bytes at le = pieces_none bytes 0 at le

-- what is found stands in the bytes
pub passed_within : (test : Place → ℕ → Bool) (p : Place) (text : List ℕ) → passed_len test p text ≤ length text
passed_within test p [] = omega arith
passed_within test p (b ∷ bs) = within_by (test (behind p b bs) b) (passed_len test (behind p b bs) bs) (length bs) (passed_within test (behind p b bs) bs)
  where
    within_by : (e : Bool) (m n : ℕ) → m ≤ n → cond e (m + 1) 0 ≤ suc n
    within_by true m n h = omega arith
    within_by false m n h = omega arith

line_within : (t : List ℕ) → line_len t ≤ length t
line_within [] = omega arith
line_within (b ∷ bs) = within_by (b == 10 || b == 13 && begins 10 bs) (line_len bs) (length bs) (line_within bs)
  where
    within_by : (e : Bool) (m n : ℕ) → m ≤ n → cond e 0 (m + 1) ≤ suc n
    within_by true m n h = omega arith
    within_by false m n h = omega arith

within_by : (bytes : List ℕ) (at : ℕ) (o : PieceKind) (p : Piece) → at < length bytes → piece_kind (drop at bytes) ≡ o
    → Some p ≡ piece_at o at (drop at bytes) → (at ≤ start_of bytes p) × IsWithin bytes p
within_by bytes at piece_kinds.Blank p lt f e = absurd cc
within_by bytes at piece_kinds.Header p lt f e =
    let q : p ≡ pieces.Header (at + gap_len (drop at bytes)) (at + gap_len (drop at bytes) + line_len (drop (gap_len (drop at bytes)) (drop at bytes))) = cc in
    let some = line_some (drop (gap_len (drop at bytes)) (drop at bytes)) (header_there (drop at bytes) f) in
    let in_line = line_within (drop (gap_len (drop at bytes)) (drop at bytes)) in
    let in_text = passed_within is_gap Open (drop at bytes) in
    let len = length-drop at bytes in
    let len2 = length-drop (gap_len (drop at bytes)) (drop at bytes) in
    rw q (omega arith, (omega (arith, some), omega (arith, lt, in_line, in_text, len, len2)))
within_by bytes at piece_kinds.Quit p lt f e =
    let q : p ≡ pieces.Quit (at + white_len (drop at bytes)) (at + statement_len (drop at bytes)) = cc in
    let some = beyond_white (drop at bytes) (quit_there (drop at bytes) f) in
    let in_text = passed_within is_inside Open (drop at bytes) in
    let len = length-drop at bytes in
    rw q (omega arith, (omega (arith, some), omega (arith, lt, in_text, len)))
within_by bytes at piece_kinds.Statement p lt f e =
    let q : p ≡ pieces.Statement (at + white_len (drop at bytes)) (at + statement_len (drop at bytes)) = cc in
    let some = beyond_white (drop at bytes) (statement_there (drop at bytes) f) in
    let in_text = passed_within is_inside Open (drop at bytes) in
    let len = length-drop at bytes in
    rw q (omega arith, (omega (arith, some), omega (arith, lt, in_text, len)))

pub found_within : (bytes : List ℕ) (at : ℕ) (text : List ℕ) (p : Piece) → text ≡ drop at bytes → at < length bytes
    → Some p ≡ piece_at (piece_kind text) at text → (at ≤ start_of bytes p) × IsWithin bytes p
found_within bytes at text p t lt e =
    within_by bytes at (piece_kind (drop at bytes)) p lt refl (subst (λ (x : List ℕ). Some p ≡ piece_at (piece_kind x) at x) t e)
