-- Blanks and comments, and pieces of a text up to a byte.
use Rattle.std.proofs.Common.{Bool, true, false, cond, ◌&&◌, ◌||◌, ◌==◌, not, ◌⊎◌, inl, inr, ◌≡◌, ◌≢◌, ℕ, suc, ◌≤◌, ◌<◌, List, [], ◌∷◌, ◌++◌, length, get_or, Option, Some, None, refl, sym, ap, subst, ◌∙◌, append_assoc, arith}
use Rattle.std.specs.List.{list_all}
use Rattle.std.specs.Option.{MatchOption}
use Rattle.std.specs.Prelude.{nat_lt}
use Rattle.std.proofs.Math.Utf8.{encode}
use Rattle.std.proofs.lemmas.Str.{char_from_byte}
use Rattle.std.proofs.lemmas.Bool.Decides.{nat_tests}
use Rattle.lb_tok.specs.Lexing.{is_blank, is_line, is_quoteless, begins, begins_gap, Piece, a_blank, a_comment, GapOf, Gap}
use Rattle.lb_tok.specs.Scanning.{past_gap, past_gap_in, quoted_from}

nil : (a : List ℕ) → a ++ [] ≡ a
nil [] = refl
nil (x ∷ a) = ap (λ (u : List ℕ). x ∷ u) (nil a)

pub both : (a b : Bool) → (a && b) ≡ true → (a ≡ true) × (b ≡ true)
both true true e = (refl, refl)
both true false e = absurd cc
both false b e = absurd cc

pub is_not : (b n : ℕ) → b ≢ n → (b == n) ≡ false
is_not b n h = grind (arith, nat_tests)

pub is_same : (b n : ℕ) → (b == n) ≡ true → b ≡ n
is_same b n h = grind (arith, nat_tests)

untrue : (b : Bool) → not b ≡ true → b ≡ false
untrue true e = absurd cc
untrue false e = refl

-- a list without the byte n, by its places
pub without : (n : ℕ) (xs : List ℕ) → ((i : ℕ) → i < length xs → get_or xs i 0 ≢ n) → list_all (λ b. not (b == n)) xs ≡ true
without n [] h = refl
without n (x ∷ xs) h = go (x == n) (is_not x n (h 0 (omega arith))) (without n xs (λ i lt. h (suc i) (omega arith)))
  where
    go : (b : Bool) → b ≡ false → list_all (λ b. not (b == n)) xs ≡ true → (not b && list_all (λ b. not (b == n)) xs) ≡ true
    go true e f = absurd cc
    go false e f = f

-- the rest of a line, and then what follows
pub past_line : (xs ys : List ℕ) → is_line xs ≡ true → past_gap_in true (xs ++ 10 ∷ ys) ≡ past_gap_in false ys
past_line [] ys e = refl
past_line (x ∷ xs) ys e =
    let p = both (not (x == 10)) (is_line xs) e in
    ap (λ (b : Bool). cond b (past_gap_in false (xs ++ 10 ∷ ys)) (past_gap_in true (xs ++ 10 ∷ ys))) (untrue (x == 10) p.0) ∙ past_line xs ys p.1

pub past_last_line : (xs : List ℕ) → is_line xs ≡ true → past_gap_in true xs ≡ []
past_last_line [] e = refl
past_last_line (x ∷ xs) e =
    let p = both (not (x == 10)) (is_line xs) e in
    ap (λ (b : Bool). cond b (past_gap_in false xs) (past_gap_in true xs)) (untrue (x == 10) p.0) ∙ past_last_line xs p.1

pub line_passed : (text piece after : List ℕ) → text ≡ piece ++ 10 ∷ after → is_line piece ≡ true → past_gap_in true text ≡ past_gap_in false after
line_passed text piece after e h = ap (λ (u : List ℕ). past_gap_in true u) e ∙ past_line piece after h

-- a blank, a comment, or neither
pub past_blank : (all bs : List ℕ) (b : ℕ) → all ≡ b ∷ bs → is_blank b ≡ true → past_gap all ≡ past_gap bs
unfolding past_gap
past_blank all bs b e h = ap (λ (u : List ℕ). past_gap_in false u) e ∙ ap (λ (v : Bool). cond v (past_gap_in false bs) (cond (b == 45 && begins (λ c. c == 45) bs) (past_gap_in true bs) (b ∷ bs))) h

pub past_dashes : (all bs : List ℕ) (b : ℕ) → all ≡ b ∷ bs → is_blank b ≡ false → (b == 45 && begins (λ c. c == 45) bs) ≡ true → past_gap all ≡ past_gap_in true bs
unfolding past_gap
past_dashes all bs b e h g =
    ap (λ (u : List ℕ). past_gap_in false u) e ∙ ap (λ (v : Bool). cond v (past_gap_in false bs) (cond (b == 45 && begins (λ c. c == 45) bs) (past_gap_in true bs) (b ∷ bs))) h
    ∙ ap (λ (v : Bool). cond v (past_gap_in true bs) (b ∷ bs)) g

pub past_comment : (all bs out : List ℕ) (b : ℕ) → all ≡ b ∷ bs → is_blank b ≡ false → (b == 45 && begins (λ c. c == 45) bs) ≡ true → past_gap_in true bs ≡ past_gap_in false out → past_gap all ≡ past_gap out
unfolding past_gap
past_comment all bs out b e h g k = past_dashes all bs b e h g ∙ k

pub past_none : (all bs : List ℕ) (b : ℕ) → all ≡ b ∷ bs → is_blank b ≡ false → (b == 45 && begins (λ c. c == 45) bs) ≡ false → past_gap all ≡ all
unfolding past_gap
past_none all bs b e h g =
    ap (λ (u : List ℕ). past_gap_in false u) e ∙ ap (λ (v : Bool). cond v (past_gap_in false bs) (cond (b == 45 && begins (λ c. c == 45) bs) (past_gap_in true bs) (b ∷ bs))) h
    ∙ ap (λ (v : Bool). cond v (past_gap_in true bs) (b ∷ bs)) g ∙ sym e

pub high_no_blank : (b : ℕ) → 128 ≤ b → is_blank b ≡ false
high_no_blank b h = grind (arith, nat_tests)

pub high_no_dash : (b : ℕ) → 128 ≤ b → (b == 45) ≡ false
high_no_dash b h = grind (arith, nat_tests)

-- nothing is passed where the first byte is not ASCII
pub past_high : (all : List ℕ) → ((b : ℕ) (bs : List ℕ) → all ≡ b ∷ bs → 128 ≤ b) → past_gap all ≡ all
unfolding past_gap
past_high [] h = refl
past_high (b ∷ bs) h = let le = h b bs refl in past_none (b ∷ bs) bs b refl (high_no_blank b le) (ap (λ (v : Bool). v && begins (λ c. c == 45) bs) (high_no_dash b le))

-- quotes

pub quoted_past : (front xs ys : List ℕ) → is_quoteless xs ≡ true → quoted_from front (xs ++ 39 ∷ ys) ≡ quoted_from (front ++ xs) (39 ∷ ys)
unfolding quoted_from
quoted_past front [] ys e = ap (λ (u : List ℕ). quoted_from u (39 ∷ ys)) (sym (nil front))
quoted_past front (x ∷ xs) ys e = let p = both (not (x == 39)) (is_quoteless xs) e in go xs (untrue (x == 39) p.0) (quoted_past (front ++ x ∷ []) xs ys p.1)
  where
    go : (zs : List ℕ) → (x == 39) ≡ false → quoted_from (front ++ x ∷ []) (zs ++ 39 ∷ ys) ≡ quoted_from ((front ++ x ∷ []) ++ zs) (39 ∷ ys) → quoted_from front (x ∷ (zs ++ 39 ∷ ys)) ≡ quoted_from (front ++ x ∷ zs) (39 ∷ ys)
    go [] h f = ap (λ (b : Bool). cond b (quoted_from (front ++ 39 ∷ []) ys) (quoted_from (front ++ x ∷ []) (39 ∷ ys))) h ∙ f ∙ ap (λ (u : List ℕ). quoted_from u (39 ∷ ys)) (append_assoc front (x ∷ []) [])
    go (z ∷ zs) h f = ap (λ (b : Bool). cond b (cond (z == 39) (quoted_from (front ++ 39 ∷ []) (zs ++ 39 ∷ ys)) (Some (front, z ∷ (zs ++ 39 ∷ ys)))) (quoted_from (front ++ x ∷ []) (z ∷ (zs ++ 39 ∷ ys)))) h ∙ f
        ∙ ap (λ (u : List ℕ). quoted_from u (39 ∷ ys)) (append_assoc front (x ∷ []) (z ∷ zs))

pub quoted_none : (front xs : List ℕ) → is_quoteless xs ≡ true → quoted_from front xs ≡ None
unfolding quoted_from
quoted_none front [] e = refl
quoted_none front (x ∷ []) e = let p = both (not (x == 39)) true e in ap (λ (b : Bool). cond b (Some (front, [])) None) (untrue (x == 39) p.0)
quoted_none front (x ∷ y ∷ xs) e =
    let p = both (not (x == 39)) (is_quoteless (y ∷ xs)) e in
    ap (λ (b : Bool). cond b (cond (y == 39) (quoted_from (front ++ 39 ∷ []) xs) (Some (front, y ∷ xs))) (quoted_from (front ++ x ∷ []) (y ∷ xs))) (untrue (x == 39) p.0) ∙ quoted_none (front ++ x ∷ []) (y ∷ xs) p.1

-- a quote that is not doubled ends the text
pub quoted_ends : (front after : List ℕ) → ((rest : List ℕ) → after ≡ 39 ∷ rest → ⊥) → quoted_from front (39 ∷ after) ≡ Some (front, after)
unfolding quoted_from
quoted_ends front [] h = refl
quoted_ends front (c ∷ bs) h = ap (λ (b : Bool). cond b (quoted_from (front ++ 39 ∷ []) bs) (Some (front, c ∷ bs))) (is_not c 39 (λ e. h bs (ap (λ (u : ℕ). u ∷ bs) e)))

pub quoted_doubled : (front more : List ℕ) → quoted_from front (39 ∷ 39 ∷ more) ≡ quoted_from (front ++ 39 ∷ []) more
unfolding quoted_from
quoted_doubled front more = refl

-- one piece of a text and its quote
pub quoted_piece : (front rest piece after : List ℕ) → rest ≡ piece ++ 39 ∷ after → is_quoteless piece ≡ true → quoted_from front rest ≡ quoted_from (front ++ piece) (39 ∷ after)
quoted_piece front rest piece after e h = ap (λ (u : List ℕ). quoted_from front u) e ∙ quoted_past front piece after h

-- a piece and a doubled quote, or the last piece
pub quoted_twice : (front rest piece after more one two : List ℕ) (all : Option (List ℕ × List ℕ)) → rest ≡ piece ++ 39 ∷ after → is_quoteless piece ≡ true → after ≡ 39 ∷ more → one ≡ front ++ piece → two ≡ one ++ 39 ∷ []
    → quoted_from front rest ≡ all → quoted_from two more ≡ all
quoted_twice front rest piece after more one two all e h d f g so_far =
    ap (λ (u : List ℕ). quoted_from u more) (g ∙ ap (λ (u : List ℕ). u ++ 39 ∷ []) f) ∙ sym (quoted_doubled (front ++ piece) more) ∙ ap (λ (u : List ℕ). quoted_from (front ++ piece) (39 ∷ u)) (sym d) ∙ sym (quoted_piece front rest piece after e h) ∙ so_far

pub quoted_last : (front rest piece after one : List ℕ) (all : Option (List ℕ × List ℕ)) → rest ≡ piece ++ 39 ∷ after → is_quoteless piece ≡ true → ((more : List ℕ) → after ≡ 39 ∷ more → ⊥) → one ≡ front ++ piece
    → quoted_from front rest ≡ all → Some (one, after) ≡ all
quoted_last front rest piece after one all e h d f so_far =
    ap (λ (u : List ℕ). Some (u, after)) f ∙ sym (quoted_ends (front ++ piece) after d) ∙ sym (quoted_piece front rest piece after e h) ∙ so_far

-- what is passed is a gap

abbrev InLine : List ℕ → Type 0
InLine bs = ((line : List ℕ) × (gap : List ℕ) × (is_line line ≡ true) × Gap gap (past_gap_in true bs) × (bs ≡ line ++ 10 ∷ (gap ++ past_gap_in true bs))) ⊎ ((is_line bs ≡ true) × (past_gap_in true bs ≡ []))

abbrev Found : Bool → List ℕ → Type 0
Found true bs = InLine bs
Found false bs = (gap : List ℕ) × Gap gap (past_gap_in false bs) × (bs ≡ gap ++ past_gap_in false bs)

either_dash : (b : ℕ) (bs : List ℕ) → (b == 45 && begins (λ c. c == 45) bs) ≡ true → (rest : List ℕ) × (b ≡ 45) × (bs ≡ 45 ∷ rest)
either_dash b [] e = let p = both (b == 45) false e in absurd (no p.1)
  where
    no : false ≡ true → ⊥
    no e = cc
either_dash b (c ∷ bs) e = let p = both (b == 45) (c == 45) e in (bs, is_same b 45 p.0, ap (λ (n : ℕ). n ∷ bs) (is_same c 45 p.1))

found : (c : Bool) (bs : List ℕ) → Found c bs
found true [] = inr (refl, refl)
found false [] = ([], ([], inl refl), refl)
found true (b ∷ bs) = go (b == 10) refl (found true bs) (found false bs)
  where
    line_more : (x : Bool) (ls : Bool) → x ≡ false → ls ≡ true → (not x && ls) ≡ true
    line_more true ls e h = absurd cc
    line_more false ls e h = h

    at_end : (x : Bool) → x ≡ true → cond x (past_gap_in false bs) (past_gap_in true bs) ≡ past_gap_in false bs
    at_end x e = ap (λ (v : Bool). cond v (past_gap_in false bs) (past_gap_in true bs)) e

    within : (x : Bool) → x ≡ false → cond x (past_gap_in false bs) (past_gap_in true bs) ≡ past_gap_in true bs
    within x e = ap (λ (v : Bool). cond v (past_gap_in false bs) (past_gap_in true bs)) e

    go : (x : Bool) → (b == 10) ≡ x → InLine bs → Found false bs → InLine (b ∷ bs)
    go true e h f =
        let k = sym (at_end (b == 10) e) in
        inl ([], f.0, refl, subst (λ (u : List ℕ). Gap f.0 u) k f.1, ap (λ (n : ℕ). n ∷ bs) (is_same b 10 e) ∙ ap (λ (u : List ℕ). 10 ∷ u) (f.2 ∙ ap (λ (u : List ℕ). f.0 ++ u) k))
    go false e (inl h) f =
        let k = sym (within (b == 10) e) in
        inl (b ∷ h.0, h.1, line_more (b == 10) (is_line h.0) e h.2, subst (λ (u : List ℕ). Gap h.1 u) k h.3, ap (λ (u : List ℕ). b ∷ u) (h.4 ∙ ap (λ (u : List ℕ). h.0 ++ 10 ∷ (h.1 ++ u)) k))
    go false e (inr h) f = inr (line_more (b == 10) (is_line bs) e h.0, within (b == 10) e ∙ h.1)
found false (b ∷ bs) = go (is_blank b) refl (b == 45 && begins (λ c. c == 45) bs) refl (found false bs) (found true bs)
  where
    go : (x : Bool) → is_blank b ≡ x → (y : Bool) → (b == 45 && begins (λ c. c == 45) bs) ≡ y → Found false bs → InLine bs → Found false (b ∷ bs)
    go true e y h f g =
        let k : past_gap_in false bs ≡ past_gap_in false (b ∷ bs) = sym (ap (λ (v : Bool). cond v (past_gap_in false bs) (cond (b == 45 && begins (λ c. c == 45) bs) (past_gap_in true bs) (b ∷ bs))) e) in
        let q = f.1 in
        (b ∷ f.0, (a_blank b ∷ q.0, (f.0, e, subst (λ (u : List ℕ). GapOf q.0 f.0 u) k q.1, refl)), ap (λ (u : List ℕ). b ∷ u) (f.2 ∙ ap (λ (u : List ℕ). f.0 ++ u) k))
    go false e true h f g =
        let k : past_gap_in true bs ≡ past_gap_in false (b ∷ bs) = sym (ap (λ (v : Bool). cond v (past_gap_in false bs) (cond (b == 45 && begins (λ c. c == 45) bs) (past_gap_in true bs) (b ∷ bs))) e ∙ ap (λ (v : Bool). cond v (past_gap_in true bs) (b ∷ bs)) h) in
        let d = either_dash b bs h in
        commented k d.1 d.0 d.2 g
      where
        commented : past_gap_in true bs ≡ past_gap_in false (b ∷ bs) → b ≡ 45 → (rest : List ℕ) → bs ≡ 45 ∷ rest → InLine bs → Found false (b ∷ bs)
        commented k d rest r (inl ([], gap, l, q, w)) = absurd (no (sym r ∙ w))
          where
            no : ◌≡◌ {A = List ℕ} (45 ∷ rest) (10 ∷ (gap ++ past_gap_in true bs)) → ⊥
            no z = cc
        commented k d rest r (inl (x ∷ line, gap, l, q, w)) =
            let z : ◌≡◌ {A = List ℕ} (45 ∷ rest) (x ∷ (line ++ 10 ∷ (gap ++ past_gap_in true bs))) = sym r ∙ w in
            let x45 : x ≡ 45 = cc in
            let p = both (not (x == 10)) (is_line line) l in
            let whole : b ∷ bs ≡ 45 ∷ 45 ∷ (line ++ 10 ∷ (gap ++ past_gap_in false (b ∷ bs))) =
            ap (λ (n : ℕ). n ∷ bs) d ∙ ap (λ (u : List ℕ). 45 ∷ u) (w ∙ ap (λ (n : ℕ). n ∷ (line ++ 10 ∷ (gap ++ past_gap_in true bs))) x45 ∙ ap (λ (u : List ℕ). 45 ∷ (line ++ 10 ∷ (gap ++ u))) k) in
            (45 ∷ 45 ∷ (line ++ 10 ∷ gap), (a_comment line ∷ q.0, (gap, p.1, subst (λ (u : List ℕ). GapOf q.0 gap u) k q.1, refl)), whole ∙ ap (λ (u : List ℕ). 45 ∷ 45 ∷ u) (sym (append_assoc line (10 ∷ gap) (past_gap_in false (b ∷ bs)))))
        commented k d rest r (inr w) =
            let line = both (not (45 == 10)) (is_line rest) (subst (λ (u : List ℕ). is_line u ≡ true) r w.0) in
            let none : past_gap_in false (b ∷ bs) ≡ [] = sym k ∙ w.1 in
            (45 ∷ 45 ∷ rest, ([], inr (none, rest, line.1, refl)), ap (λ (n : ℕ). n ∷ bs) d ∙ ap (λ (u : List ℕ). 45 ∷ u) r ∙ sym (nil (45 ∷ 45 ∷ rest)) ∙ ap (λ (u : List ℕ). (45 ∷ 45 ∷ rest) ++ u) (sym none))
    go false e false h f g =
        let k : b ∷ bs ≡ past_gap_in false (b ∷ bs) = sym (ap (λ (v : Bool). cond v (past_gap_in false bs) (cond (b == 45 && begins (λ c. c == 45) bs) (past_gap_in true bs) (b ∷ bs))) e ∙ ap (λ (v : Bool). cond v (past_gap_in true bs) (b ∷ bs)) h) in
        ([], ([], inl refl), k)

-- what is passed in front is a gap
pub gap_of : (bs : List ℕ) → (gap : List ℕ) × Gap gap (past_gap bs) × (bs ≡ gap ++ past_gap bs)
unfolding past_gap
gap_of bs = found false bs

or_false : (a b : Bool) → (a || b) ≡ false → (a ≡ false) × (b ≡ false)
or_false true b e = absurd cc
or_false false b e = (refl, e)

-- nothing is passed where no gap begins
pub past_fixed : (rest : List ℕ) → begins_gap rest ≡ false → past_gap rest ≡ rest
unfolding past_gap
past_fixed [] e = refl
past_fixed (b ∷ bs) e = let p = or_false (is_blank b) _ e in past_none (b ∷ bs) bs b refl p.0 p.1

-- a gap is passed
pub past_of : (ps : List Piece) (gap rest : List ℕ) → GapOf ps gap rest → begins_gap rest ≡ false → past_gap (gap ++ rest) ≡ rest
unfolding past_gap
past_of [] gap rest (inl e) h = ap (λ (u : List ℕ). past_gap_in false (u ++ rest)) e ∙ past_fixed rest h
past_of [] gap rest (inr e) h =
    ap (λ (u : List ℕ). past_gap_in false (u ++ rest)) e.3 ∙ ap (λ (u : List ℕ). past_gap_in true (e.1 ++ u)) e.0 ∙ ap (λ (u : List ℕ). past_gap_in true u) (nil e.1) ∙ past_last_line e.1 e.2 ∙ sym e.0
past_of (a_blank b ∷ ps) gap rest g h = past_blank (gap ++ rest) (g.0 ++ rest) b (ap (λ (u : List ℕ). u ++ rest) g.3) g.1 ∙ past_of ps g.0 rest g.2 h
past_of (a_comment line ∷ ps) gap rest g h =
    ap (λ (u : List ℕ). past_gap_in false (u ++ rest)) g.3 ∙ ap (λ (u : List ℕ). past_gap_in true u) (append_assoc line (10 ∷ g.0) rest) ∙ past_line line (g.0 ++ rest) g.1 ∙ past_of ps g.0 rest g.2 h

done : (c : Bool) (bs : List ℕ) → begins_gap (past_gap_in c bs) ≡ false
done c [] = refl
done true (b ∷ bs) = go (b == 10) (done false bs) (done true bs)
  where
    go : (x : Bool) → begins_gap (past_gap_in false bs) ≡ false → begins_gap (past_gap_in true bs) ≡ false → begins_gap (cond x (past_gap_in false bs) (past_gap_in true bs)) ≡ false
    go true f g = f
    go false f g = g
done false (b ∷ bs) = go (is_blank b) (b == 45 && begins (λ c. c == 45) bs) refl refl (done false bs) (done true bs)
  where
    neither : (x y : Bool) → x ≡ false → y ≡ false → (x || y) ≡ false
    neither true y e f = absurd cc
    neither false y e f = f

    go : (x y : Bool) → is_blank b ≡ x → (b == 45 && begins (λ c. c == 45) bs) ≡ y → begins_gap (past_gap_in false bs) ≡ false → begins_gap (past_gap_in true bs) ≡ false → begins_gap (cond x (past_gap_in false bs) (cond y (past_gap_in true bs) (b ∷ bs))) ≡ false
    go true y e h f g = f
    go false true e h f g = g
    go false false e h f g = neither _ _ e h

-- and no gap begins after it
pub gap_done : (bs : List ℕ) → begins_gap (past_gap bs) ≡ false
unfolding past_gap
gap_done bs = done false bs

-- ---- what std says of characters and pieces

pub matched : {T : Type 0} {A B : Type 0} {P Q : T → Type 0} (o : Option T) → (A → B) → ((x : T) → P x → Q x) → MatchOption o A P → MatchOption o B Q
matched None f g h = f h
matched (Some x) f g h = g x h

-- a character that is not ASCII begins with such a byte
pub high_first : (bs rest : List ℕ) (c b : ℕ) (us : List ℕ) → bs ≡ encode c ++ rest → 128 ≤ c → bs ≡ b ∷ us → 128 ≤ b
high_first bs rest c b us e h f = go (nat_lt b 128) refl
  where
    first : get_or bs 0 0 ≡ b
    first = ap (λ (u : List ℕ). get_or u 0 0) f

    go : (v : Bool) → nat_lt b 128 ≡ v → 128 ≤ b
    go false k = grind (arith, nat_tests)
    go true k =
        let small : b < 128 = grind (arith, nat_tests) in
        let filled : 0 < length bs = subst (λ (u : List ℕ). 0 < length u) (sym f) (omega arith) in
        let same : c ≡ get_or bs 0 0 = char_from_byte bs rest c e (omega (arith, first)) filled in
        absurd (omega (arith, first, same))
