-- Pieces of an input that gets longer: a piece that has ended stays, with whatever bytes come after it.
use Rattle.std.proofs.Common.{Bool, true, false, cond, ◌≡◌, ℕ, zero, suc, ◌+◌, ◌<◌, ◌≤◌, ◌⊎◌, inl, inr, List, [], ◌∷◌, ◌++◌, length, take, drop, Option, Some, None, refl, sym, ap, subst, ◌∙◌, arith, length-drop}
use Rattle.std.specs.Prelude.{min, ◌==◌, ◌&&◌, ◌||◌, not}
use Rattle.std.specs.List.{prefix_len}
use Rattle.std.proofs.lemmas.Bool.Decides.{nat_tests}
use Rattle.std.proofs.lemmas.List.{drop-append-le, take-append-le, length-append}
use Rattle.lb_split.specs.Lexing.{is_white, begins, behind, passed_len, is_gap, is_inside, gap_len, statement_len, is_blank, white_len, is_quit, line_len, next_line, next_header_line}
use Rattle.lb_split.specs.Pieces.{statement_of, piece_kind, piece_at, taken, with_some, pieces_from, first_of, resumed, HasEnded, GoesOnThere}
use Rattle.lb_split.specs.declared.piece.Piece.{Piece}
use Rattle.lb_split.specs.declared.piece.Piece.TheVariants as pieces
use Rattle.lb_split.specs.declared.scan.PieceKind.{PieceKind}
use Rattle.lb_split.specs.declared.scan.PieceKind.TheVariants as piece_kinds
use Rattle.lb_split.specs.declared.scan.Place.{Place}
use Rattle.lb_split.specs.declared.scan.Place.TheVariants.{Open, Quoted, Comment}
use Rattle.lb_split.proofs.Scanned.{passed_cons, passed_stop}
use Rattle.lb_split.proofs.Pieced.{step, nothing_left, header_there, beyond_white, quit_there, statement_there, header_end}

-- ---- up to a `;`

-- at a `;` that ends a statement, the place doesn't depend on what follows
ends_there : (p : Place) (b : ℕ) (rest other : List ℕ) → is_inside (behind p b rest) b ≡ false → behind p b other ≡ behind p b rest
ends_there Open b rest other h = go (b == 39) (b == 45) refl refl h
  where
    go : (q d : Bool) → (b == 39) ≡ q → (b == 45) ≡ d → is_inside (cond q Quoted (cond (d && begins 45 rest) Comment Open)) b ≡ false
        → cond q Quoted (cond (d && begins 45 other) Comment Open) ≡ cond q Quoted (cond (d && begins 45 rest) Comment Open)
    go true d e f k = refl
    go false false e f k = refl
    go false true e f k = absurd (dash (begins 45 rest) k)
      where
        dash : (m : Bool) → is_inside (cond m Comment Open) b ≡ false → ⊥
        dash true x = absurd cc
        dash false x = absurd (grind (arith, nat_tests, f, x))
ends_there Quoted b rest other h = refl
ends_there Comment b rest other h = refl

-- a gap stops at such a `;`
no_gap : (p : Place) (b : ℕ) → is_inside p b ≡ false → is_gap p b ≡ false
no_gap Open b h = grind (arith, nat_tests, h)
no_gap Quoted b h = refl
no_gap Comment b h = absurd cc

-- before a byte that is there, the place doesn't depend on those after it
same_place : (p : Place) (b c : ℕ) (cs ds : List ℕ) → behind p b (c ∷ ds) ≡ behind p b (c ∷ cs)
same_place Open b c cs ds = refl
same_place Quoted b c cs ds = refl
same_place Comment b c cs ds = refl

stops_still : (test : Place → ℕ → Bool) (p : Place) (b c : ℕ) (cs more : List ℕ) → test (behind p b (c ∷ cs)) b ≡ false → passed_len test p (b ∷ (c ∷ (cs ++ more))) ≡ passed_len test p (b ∷ (c ∷ cs))
stops_still test p b c cs more e =
    let now : test (behind p b (c ∷ (cs ++ more))) b ≡ false = ap (λ (q : Place). test q b) (same_place p b c cs (cs ++ more)) ∙ e in
    passed_stop test p b (c ∷ (cs ++ more)) now ∙ sym (passed_stop test p b (c ∷ cs) e)

goes_on_still : (test : Place → ℕ → Bool) (p : Place) (b c : ℕ) (cs more : List ℕ) → test (behind p b (c ∷ cs)) b ≡ true
    → passed_len test (behind p b (c ∷ cs)) (c ∷ (cs ++ more)) ≡ passed_len test (behind p b (c ∷ cs)) (c ∷ cs) → passed_len test p (b ∷ (c ∷ (cs ++ more))) ≡ passed_len test p (b ∷ (c ∷ cs))
goes_on_still test p b c cs more e rest =
    let same = same_place p b c cs (cs ++ more) in
    let now : test (behind p b (c ∷ (cs ++ more))) b ≡ true = ap (λ (q : Place). test q b) same ∙ e in
    passed_cons test p b (c ∷ (cs ++ more)) now ∙ ap (λ (q : Place). passed_len test q (c ∷ (cs ++ more)) + 1) same ∙ ap (λ (n : ℕ). n + 1) rest ∙ sym (passed_cons test p b (c ∷ cs) e)

-- what is passed before the `;`, and how much of it is a gap, is the same with more bytes
inside_stays : (p : Place) (bs more : List ℕ) → passed_len is_inside p bs < length bs
    → (passed_len is_inside p (bs ++ more) ≡ passed_len is_inside p bs) × (passed_len is_gap p (bs ++ more) ≡ passed_len is_gap p bs)
inside_stays p [] more h = absurd (omega (arith, h))
inside_stays p (b ∷ []) more h = go (is_inside (behind p b []) b) refl h
  where
    go : (e : Bool) → is_inside (behind p b []) b ≡ e → cond e (0 + 1) 0 < 1
        → (passed_len is_inside p (b ∷ more) ≡ passed_len is_inside p (b ∷ [])) × (passed_len is_gap p (b ∷ more) ≡ passed_len is_gap p (b ∷ []))
    go true e k = absurd (omega (arith, k))
    go false e k =
        let same : behind p b more ≡ behind p b [] = ends_there p b [] more e in
        let no : is_gap (behind p b []) b ≡ false = no_gap (behind p b []) b e in
        (rw (same, e) refl, rw (same, no) refl)
inside_stays p (b ∷ (c ∷ cs)) more h = go (is_inside (behind p b (c ∷ cs)) b) (is_gap (behind p b (c ∷ cs)) b) refl refl (λ k. inside_stays (behind p b (c ∷ cs)) (c ∷ cs) more k) h
  where
    go : (e g : Bool) → is_inside (behind p b (c ∷ cs)) b ≡ e → is_gap (behind p b (c ∷ cs)) b ≡ g
        → (passed_len is_inside (behind p b (c ∷ cs)) (c ∷ cs) < length (c ∷ cs)
        → (passed_len is_inside (behind p b (c ∷ cs)) (c ∷ (cs ++ more)) ≡ passed_len is_inside (behind p b (c ∷ cs)) (c ∷ cs))
        × (passed_len is_gap (behind p b (c ∷ cs)) (c ∷ (cs ++ more)) ≡ passed_len is_gap (behind p b (c ∷ cs)) (c ∷ cs)))
        → cond e (passed_len is_inside (behind p b (c ∷ cs)) (c ∷ cs) + 1) 0 < suc (length (c ∷ cs))
        → (passed_len is_inside p (b ∷ (c ∷ (cs ++ more))) ≡ passed_len is_inside p (b ∷ (c ∷ cs))) × (passed_len is_gap p (b ∷ (c ∷ (cs ++ more))) ≡ passed_len is_gap p (b ∷ (c ∷ cs)))
    go false g e f then k = (stops_still is_inside p b c cs more e, stops_still is_gap p b c cs more (no_gap (behind p b (c ∷ cs)) b e))
    go true false e f then k = let rest = then (omega (arith, k)) in (goes_on_still is_inside p b c cs more e rest.0, stops_still is_gap p b c cs more f)
    go true true e f then k = let rest = then (omega (arith, k)) in (goes_on_still is_inside p b c cs more e rest.0, goes_on_still is_gap p b c cs more f rest.1)

-- ---- up to an `@`

at_sign : (b : ℕ) → (b == 64) ≡ true → b ≡ 64
at_sign b h = grind (arith, nat_tests)

no_gap_at : (p : Place) (rest other : List ℕ) → is_gap (behind p 64 rest) 64 ≡ false → is_gap (behind p 64 other) 64 ≡ false
no_gap_at Open rest other h = refl
no_gap_at Quoted rest other h = refl
no_gap_at Comment rest other h = h

gap_stays : (p : Place) (bs more : List ℕ) → begins 64 (drop (passed_len is_gap p bs) bs) ≡ true → passed_len is_gap p (bs ++ more) ≡ passed_len is_gap p bs
gap_stays p [] more h = absurd cc
gap_stays p (b ∷ bs) more h = go bs (is_gap (behind p b bs) b) refl (λ k. gap_stays (behind p b bs) bs more k) h
  where
    there : (cs : List ℕ) → is_gap (behind p b cs) b ≡ false → b ≡ 64 → is_gap (behind p b (cs ++ more)) b ≡ false
    there cs e same = rw same (no_gap_at p cs (cs ++ more) (rw same at e))

    go : (cs : List ℕ) (g : Bool) → is_gap (behind p b cs) b ≡ g
        → (begins 64 (drop (passed_len is_gap (behind p b cs) cs) cs) ≡ true → passed_len is_gap (behind p b cs) (cs ++ more) ≡ passed_len is_gap (behind p b cs) cs)
        → begins 64 (drop (cond g (passed_len is_gap (behind p b cs) cs + 1) 0) (b ∷ cs)) ≡ true
        → passed_len is_gap p (b ∷ (cs ++ more)) ≡ passed_len is_gap p (b ∷ cs)
    go cs false e then k = passed_stop is_gap p b (cs ++ more) (there cs e (at_sign b k)) ∙ sym (passed_stop is_gap p b cs e)
    go [] true e then k = absurd cc
    go (c ∷ cs) true e then k =
        let n : ℕ = passed_len is_gap (behind p b (c ∷ cs)) (c ∷ cs) in
        let one : n + 1 ≡ suc n = omega arith in
        let rest : begins 64 (drop n (c ∷ cs)) ≡ true = (rw one at k) in
        goes_on_still is_gap p b c cs more e (then rest)

begins_more : (b : ℕ) (t more : List ℕ) → begins b t ≡ true → begins b (t ++ more) ≡ true
begins_more b [] more h = absurd cc
begins_more b (x ∷ t) more h = h

-- ---- a line, and white space

line_stays : (bs more : List ℕ) → line_len bs < length bs → (line_len (bs ++ more) ≡ line_len bs) × (next_line (bs ++ more) ≡ next_line bs)
line_stays [] more h = absurd (omega (arith, h))
line_stays (b ∷ []) more h = go (b == 10) (b == 13) refl h
  where
    go : (l c : Bool) → (b == 10) ≡ l → cond (l || c && false) 0 (0 + 1) < 1
        → (line_len (b ∷ more) ≡ line_len (b ∷ [])) × (next_line (b ∷ more) ≡ next_line (b ∷ []))
    go true c e k = (rw e refl, rw e refl)
    go false true e k = absurd (omega (arith, k))
    go false false e k = absurd (omega (arith, k))
line_stays (b ∷ (c ∷ cs)) more h = go (b == 10) (b == 13 && c == 10) refl refl (λ k. line_stays (c ∷ cs) more k) h
  where
    lf : (b == 13 && c == 10) ≡ true → (c == 10) ≡ true
    lf x = both (b == 13) (c == 10) x
      where
        both : (m n : Bool) → (m && n) ≡ true → n ≡ true
        both true n y = y
        both false n y = absurd cc

    go : (l r : Bool) → (b == 10) ≡ l → (b == 13 && c == 10) ≡ r
        → (line_len (c ∷ cs) < length (c ∷ cs) → (line_len (c ∷ (cs ++ more)) ≡ line_len (c ∷ cs)) × (next_line (c ∷ (cs ++ more)) ≡ next_line (c ∷ cs)))
        → cond (l || r) 0 (line_len (c ∷ cs) + 1) < suc (length (c ∷ cs))
        → (line_len (b ∷ (c ∷ (cs ++ more))) ≡ line_len (b ∷ (c ∷ cs))) × (next_line (b ∷ (c ∷ (cs ++ more))) ≡ next_line (b ∷ (c ∷ cs)))
    go true r e f then k = (rw e refl, rw e refl)
    go false true e f then k = (rw (e, f) refl, rw (e, lf f) refl)
    go false false e f then k =
        let rest = then (omega (arith, k)) in
        (rw (e, f) (ap (λ (n : ℕ). n + 1) rest.0), rw e (ap (λ (n : ℕ). n + 1) rest.1))

white_stays : (bs more : List ℕ) → prefix_len is_white bs < length bs → prefix_len is_white (bs ++ more) ≡ prefix_len is_white bs
white_stays [] more h = absurd (omega (arith, h))
white_stays (b ∷ bs) more h = go (is_white b) refl (λ k. white_stays bs more k) h
  where
    go : (w : Bool) → is_white b ≡ w → (prefix_len is_white bs < length bs → prefix_len is_white (bs ++ more) ≡ prefix_len is_white bs) → cond w (1 + prefix_len is_white bs) 0 < suc (length bs) → prefix_len is_white (b ∷ (bs ++ more)) ≡ prefix_len is_white (b ∷ bs)
    go false e then k = rw e refl
    go true e then k = rw e (ap (λ (n : ℕ). 1 + n) (then (omega (arith, k))))

-- ---- what begins at the start of a statement

lt_or : (n m : ℕ) → (n < m) ⊎ (m ≤ n)
lt_or n m = grind arith

part_of : (text more : List ℕ) → statement_len text < length text → statement_of (text ++ more) ≡ statement_of text
part_of text more h =
    let same = (inside_stays Open text more h).0 in
    ap (λ (n : ℕ). take n (text ++ more)) same ∙ take-append-le (statement_len text) text more (omega (arith, h))

some_more : (t more : List ℕ) → 0 < length t → begins 64 (t ++ more) ≡ begins 64 t
some_more [] more k = absurd (omega (arith, k))
some_more (x ∷ t) more k = refl

gap_short : (p : Place) (bs : List ℕ) → passed_len is_inside p bs < length bs → passed_len is_gap p bs < length bs
gap_short p [] k = absurd (omega (arith, k))
gap_short p (b ∷ bs) k = go (is_inside (behind p b bs) b) (is_gap (behind p b bs) b) refl refl (λ h. gap_short (behind p b bs) bs h) k
  where
    go : (e g : Bool) → is_inside (behind p b bs) b ≡ e → is_gap (behind p b bs) b ≡ g → (passed_len is_inside (behind p b bs) bs < length bs → passed_len is_gap (behind p b bs) bs < length bs)
        → cond e (passed_len is_inside (behind p b bs) bs + 1) 0 < suc (length bs) → passed_len is_gap p (b ∷ bs) < suc (length bs)
    go false g x y then z = rw (no_gap (behind p b bs) b x) (omega arith)
    go true false x y then z = rw y (omega arith)
    go true true x y then z = rw y (omega (arith, then (omega (arith, z))))

header_stays : (text more : List ℕ) → statement_len text < length text → begins 64 (drop (gap_len (text ++ more)) (text ++ more)) ≡ begins 64 (drop (gap_len text) text)
header_stays text more h =
    let same : gap_len (text ++ more) ≡ gap_len text = (inside_stays Open text more h).1 in
    let short : gap_len text < length text = gap_short Open text h in
    ap (λ (n : ℕ). begins 64 (drop n (text ++ more))) same ∙ ap (begins 64) (drop-append-le (gap_len text) text more (omega (arith, short)))
    ∙ some_more (drop (gap_len text) text) more (omega (arith, short, length-drop (gap_len text) text))

kind_stays : (text more : List ℕ) → statement_len text < length text → piece_kind (text ++ more) ≡ piece_kind text
kind_stays text more h =
    ap (λ (b : Bool). cond b piece_kinds.Header (cond (is_blank (statement_of (text ++ more))) piece_kinds.Blank (cond (is_quit (statement_of (text ++ more))) piece_kinds.Quit piece_kinds.Statement))) (header_stays text more h)
    ∙ ap (λ (t : List ℕ). cond (begins 64 (drop (gap_len text) text)) piece_kinds.Header (cond (is_blank t) piece_kinds.Blank (cond (is_quit t) piece_kinds.Quit piece_kinds.Statement))) (part_of text more h)

header_kind : (text : List ℕ) → begins 64 (drop (gap_len text) text) ≡ true → piece_kind text ≡ piece_kinds.Header
header_kind text h = rw h refl

-- ---- the piece that begins there

Stays : List ℕ → List ℕ → ℕ → Type 0
Stays bytes more at = HasEnded bytes (first_of (pieces_from bytes at)) → (first_of (pieces_from (bytes ++ more) at) ≡ first_of (pieces_from bytes at)) × GoesOnThere bytes (bytes ++ more) (first_of (pieces_from bytes at))

rest_of : (bytes more : List ℕ) (at : ℕ) → at < length bytes → drop at (bytes ++ more) ≡ drop at bytes ++ more
rest_of bytes more at lt = drop-append-le at bytes more (omega (arith, lt))

longer : (bytes more : List ℕ) (at : ℕ) → at < length bytes → at < length (bytes ++ more)
longer bytes more at lt = omega (arith, lt, length-append bytes more)

within_white : (text : List ℕ) → is_blank (statement_of text) ≡ false → statement_len text < length text → white_len text < length text
within_white text h lt = omega (arith, beyond_white text h, lt)

blank_stays : (bytes more : List ℕ) (at : ℕ) → at < length bytes → piece_kind (drop at bytes) ≡ piece_kinds.Blank
    → Stays bytes more (at + (statement_len (drop at bytes) + 1)) → Stays bytes more at
unfolding Stays
blank_stays bytes more at lt kind rest ended =
    let text : List ℕ = drop at bytes in
    let n : ℕ = statement_len text in
    let here : pieces_from bytes at ≡ pieces_from bytes (at + (n + 1)) = step bytes at piece_kinds.Blank lt kind in
    let ended_next : HasEnded bytes (first_of (pieces_from bytes (at + (n + 1)))) = subst (λ (ps : List Piece). HasEnded bytes (first_of ps)) here ended in
    let short : n < length text = elim (lt_or n (length text)) [
      | inl k ↦ k
      | inr k ↦ absurd (subst (λ (ps : List Piece). HasEnded bytes (first_of ps)) (nothing_left bytes (at + (n + 1)) (omega (arith, k, length-drop at bytes))) ended_next)
    ] in
    let kind_now : piece_kind (drop at (bytes ++ more)) ≡ piece_kinds.Blank = ap piece_kind (rest_of bytes more at lt) ∙ kind_stays text more short ∙ kind in
    let len_now : statement_len (drop at (bytes ++ more)) ≡ n = ap statement_len (rest_of bytes more at lt) ∙ (inside_stays Open text more short).0 in
    let there : pieces_from (bytes ++ more) at ≡ pieces_from (bytes ++ more) (at + (n + 1)) =
    step (bytes ++ more) at piece_kinds.Blank (longer bytes more at lt) kind_now ∙ ap (λ (m : ℕ). pieces_from (bytes ++ more) (at + (m + 1))) len_now in
    let next = rest ended_next in (
      ap first_of there ∙ next.0 ∙ sym (ap first_of here),
      subst (λ (ps : List Piece). GoesOnThere bytes (bytes ++ more) (first_of ps)) (sym here) next.1,
    )

statement_stays : (bytes more : List ℕ) (at : ℕ) → at < length bytes → piece_kind (drop at bytes) ≡ piece_kinds.Statement → Stays bytes more at
unfolding Stays
statement_stays bytes more at lt kind ended =
    let text : List ℕ = drop at bytes in
    let n : ℕ = statement_len text in
    let here : first_of (pieces_from bytes at) ≡ pieces.Statement (at + white_len text) (at + n) = ap first_of (step bytes at piece_kinds.Statement lt kind) in
    let to : at + n < length bytes = subst (λ (p : Piece). HasEnded bytes p) here ended in
    let short : n < length text = omega (arith, to, length-drop at bytes) in
    let kind_now : piece_kind (drop at (bytes ++ more)) ≡ piece_kinds.Statement = ap piece_kind (rest_of bytes more at lt) ∙ kind_stays text more short ∙ kind in
    let len_now : statement_len (drop at (bytes ++ more)) ≡ n = ap statement_len (rest_of bytes more at lt) ∙ (inside_stays Open text more short).0 in
    let white_now : white_len (drop at (bytes ++ more)) ≡ white_len text = ap white_len (rest_of bytes more at lt) ∙ white_stays text more (within_white text (statement_there text kind) short) in
    let there : first_of (pieces_from (bytes ++ more) at) ≡ pieces.Statement (at + white_len text) (at + n) =
    ap first_of (step (bytes ++ more) at piece_kinds.Statement (longer bytes more at lt) kind_now)
    ∙ ap (λ (m : ℕ). pieces.Statement (at + m) (at + statement_len (drop at (bytes ++ more)))) white_now ∙ ap (λ (m : ℕ). pieces.Statement (at + white_len text) (at + m)) len_now in
    let resumes : min (at + n + 1) (length (bytes ++ more)) ≡ min (at + n + 1) (length bytes) = omega (arith, to, length-append bytes more) in
    (there ∙ sym here, subst (λ (p : Piece). GoesOnThere bytes (bytes ++ more) p) (sym here) resumes)

-- a line that begins with `@` stays the first one
mark_stays : (xs more : List ℕ) → next_header_line xs < length xs → next_header_line (xs ++ more) ≡ next_header_line xs
mark_stays [] more lt = absurd (omega (arith, lt))
mark_stays (b ∷ []) more lt = absurd (alone (b == 10) lt)
  where
    alone : (m : Bool) → cond (m && false) 1 (0 + 1) < 1 → ⊥
    alone true lt = absurd (omega (arith, lt))
    alone false lt = absurd (omega (arith, lt))
mark_stays (b ∷ c ∷ cs) more lt = go (b == 10 && c == 64) (λ later. mark_stays (c ∷ cs) more later) lt
  where
    go : (m : Bool) → (next_header_line (c ∷ cs) < length (c ∷ cs) → next_header_line ((c ∷ cs) ++ more) ≡ next_header_line (c ∷ cs)) → cond m 1 (next_header_line (c ∷ cs) + 1) < length (b ∷ c ∷ cs)
        → cond m 1 (next_header_line ((c ∷ cs) ++ more) + 1) ≡ cond m 1 (next_header_line (c ∷ cs) + 1)
    go true stays lt = refl
    go false stays lt = ap (λ (n : ℕ). n + 1) (stays (omega (arith, lt)))

quit_stays : (bytes more : List ℕ) (at : ℕ) → at < length bytes → piece_kind (drop at bytes) ≡ piece_kinds.Quit → Stays bytes more at
unfolding Stays
quit_stays bytes more at lt kind ended =
    let text : List ℕ = drop at bytes in
    let n : ℕ = statement_len text in
    let here : first_of (pieces_from bytes at) ≡ pieces.Quit (at + white_len text) (at + n) = ap first_of (step bytes at piece_kinds.Quit lt kind) in
    let to : at + n < length bytes = subst (λ (p : Piece). HasEnded bytes p) here ended in
    let short : n < length text = omega (arith, to, length-drop at bytes) in
    let kind_now : piece_kind (drop at (bytes ++ more)) ≡ piece_kinds.Quit = ap piece_kind (rest_of bytes more at lt) ∙ kind_stays text more short ∙ kind in
    let len_now : statement_len (drop at (bytes ++ more)) ≡ n = ap statement_len (rest_of bytes more at lt) ∙ (inside_stays Open text more short).0 in
    let white_now : white_len (drop at (bytes ++ more)) ≡ white_len text = ap white_len (rest_of bytes more at lt) ∙ white_stays text more (within_white text (quit_there text kind) short) in
    let there : first_of (pieces_from (bytes ++ more) at) ≡ pieces.Quit (at + white_len text) (at + n) =
    ap first_of (step (bytes ++ more) at piece_kinds.Quit (longer bytes more at lt) kind_now)
    ∙ ap (λ (m : ℕ). pieces.Quit (at + m) (at + statement_len (drop at (bytes ++ more)))) white_now ∙ ap (λ (m : ℕ). pieces.Quit (at + white_len text) (at + m)) len_now in
    let resumes : at + n + next_header_line (drop (at + n) bytes) < length bytes → at + n + next_header_line (drop (at + n) (bytes ++ more)) ≡ at + n + next_header_line (drop (at + n) bytes) =
    λ lt_mark.
    ap (λ (t : List ℕ). at + n + next_header_line t) (rest_of bytes more (at + n) to)
    ∙ ap (λ (m : ℕ). at + n + m) (mark_stays (drop (at + n) bytes) more (omega (arith, lt_mark, length-drop (at + n) bytes))) in
    (there ∙ sym here, subst (λ (p : Piece). GoesOnThere bytes (bytes ++ more) p) (sym here) resumes)

header_stays_whole : (bytes more : List ℕ) (at : ℕ) → at < length bytes → piece_kind (drop at bytes) ≡ piece_kinds.Header → Stays bytes more at
unfolding Stays
header_stays_whole bytes more at lt kind ended =
    let text : List ℕ = drop at bytes in
    let g : ℕ = gap_len text in
    let line : List ℕ = drop g text in
    let p : Piece = pieces.Header (at + g) (at + g + line_len line) in
    let here : first_of (pieces_from bytes at) ≡ p = ap first_of (step bytes at piece_kinds.Header lt kind) in
    let to : at + g + line_len line < length bytes = subst (λ (q : Piece). HasEnded bytes q) here ended in
    let short : line_len line < length line = omega (arith, to, length-drop at bytes, length-drop g text) in
    let mark : begins 64 line ≡ true = header_there text kind in
    let gap_now : gap_len (text ++ more) ≡ g = gap_stays Open text more mark in
    let line_now : drop g (text ++ more) ≡ line ++ more = drop-append-le g text more (omega (arith, to, length-drop at bytes)) in
    let mark_now : begins 64 (drop (gap_len (text ++ more)) (text ++ more)) ≡ true =
    ap (λ (n : ℕ). begins 64 (drop n (text ++ more))) gap_now ∙ ap (begins 64) line_now ∙ begins_more 64 line more mark in
    let kind_now : piece_kind (drop at (bytes ++ more)) ≡ piece_kinds.Header = ap piece_kind (rest_of bytes more at lt) ∙ header_kind (text ++ more) mark_now in
    let stays = line_stays line more short in
    let there : first_of (pieces_from (bytes ++ more) at) ≡ p =
    ap first_of (step (bytes ++ more) at piece_kinds.Header (longer bytes more at lt) kind_now)
    ∙ ap (λ (t : List ℕ). pieces.Header (at + gap_len t) (at + gap_len t + line_len (drop (gap_len t) t))) (rest_of bytes more at lt)
    ∙ ap (λ (n : ℕ). pieces.Header (at + n) (at + n + line_len (drop n (text ++ more)))) gap_now
    ∙ ap (λ (t : List ℕ). pieces.Header (at + g) (at + g + line_len t)) line_now
    ∙ ap (λ (n : ℕ). pieces.Header (at + g) (at + g + n)) stays.0 in
    let old_end : at + g + line_len line + next_line (drop (at + g + line_len line) bytes) ≡ at + (g + next_line line) = header_end bytes at g in
    let rest_now : drop g (drop at (bytes ++ more)) ≡ line ++ more = ap (drop g) (rest_of bytes more at lt) ∙ line_now in
    let new_end : at + g + line_len line + next_line (drop (at + g + line_len line) (bytes ++ more)) ≡ at + (g + next_line line) =
    ap (λ (n : ℕ). at + g + n + next_line (drop (at + g + n) (bytes ++ more))) (sym (ap line_len rest_now ∙ stays.0)) ∙ header_end (bytes ++ more) at g ∙ ap (λ (t : List ℕ). at + (g + next_line t)) rest_now ∙ ap (λ (n : ℕ). at + (g + n)) stays.1 in
    (there ∙ sym here, subst (λ (q : Piece). GoesOnThere bytes (bytes ++ more) q) (sym here) (new_end ∙ sym old_end))

-- ---- from an offset on

piece_stays : (fuel : ℕ) (bytes more : List ℕ) (at : ℕ) → length bytes ≤ at + fuel → Stays bytes more at
unfolding Stays
piece_stays zero bytes more at le ended = absurd (subst (λ (ps : List Piece). HasEnded bytes (first_of ps)) (nothing_left bytes at (omega (arith, le))) ended)
piece_stays (suc fuel) bytes more at le ended = elim (lt_or at (length bytes)) [
  | inl lt ↦ go (piece_kind (drop at bytes)) refl lt (piece_stays fuel bytes more (at + (statement_len (drop at bytes) + 1)) (omega (arith, le)))
  | inr k ↦ absurd (subst (λ (ps : List Piece). HasEnded bytes (first_of ps)) (nothing_left bytes at k) ended)
]
  where
    go : (k : PieceKind) → piece_kind (drop at bytes) ≡ k → at < length bytes → Stays bytes more (at + (statement_len (drop at bytes) + 1))
        → (first_of (pieces_from (bytes ++ more) at) ≡ first_of (pieces_from bytes at)) × GoesOnThere bytes (bytes ++ more) (first_of (pieces_from bytes at))
    go piece_kinds.Header e lt then = header_stays_whole bytes more at lt e ended
    go piece_kinds.Quit e lt then = quit_stays bytes more at lt e ended
    go piece_kinds.Statement e lt then = statement_stays bytes more at lt e ended
    go piece_kinds.Blank e lt then = blank_stays bytes more at lt e then ended

pub first_stays : (bytes more : List ℕ) (at : ℕ) → HasEnded bytes (first_of (pieces_from bytes at)) → first_of (pieces_from (bytes ++ more) at) ≡ first_of (pieces_from bytes at)
unfolding Stays
first_stays bytes more at ended = (piece_stays (length bytes) bytes more at (omega arith) ended).0

pub next_stays : (bytes more : List ℕ) (at : ℕ) → HasEnded bytes (first_of (pieces_from bytes at)) → GoesOnThere bytes (bytes ++ more) (first_of (pieces_from bytes at))
unfolding Stays
next_stays bytes more at ended = (piece_stays (length bytes) bytes more at (omega arith) ended).1
