-- What loops over the parts of a list print.
use Rattle.std.proofs.Common.{Bool, ◌≡◌, ℕ, ◌+◌, ◌<◌, List, [], ◌∷◌, ◌++◌, length, get_or, take, map, refl, sym, ap, ◌∙◌, append_assoc, arith, length-take-le}
use Rattle.std.specs.List.{flat_map}
use Rattle.std.proofs.lemmas.List.{take_more, append-nil}
use Rattle.std.proofs.lemmas.List.Concat.{flat_map-append}
use Rattle.lb_tree.specs.declared.query.Signed.{Signed}
use Rattle.lb_tok.specs.declared.kind.Kind.{Kind}
use Rattle.lb_tok.specs.Spacing.{Piece, mark, Layout, lay, laid}
use Rattle.lb_tok.specs.QueryPieces.{behind, separated, Phrase, at_least, sign_kind, signed, signed_part, sum_pieces, expr_phrase}
use Rattle.lb_tok.proofs.Layouts.{laid-append}
use Rattle.lb_tok.proofs.Opens.{signed_part-out}
use Rattle.lb_page.specs.Separator.{separator}

-- one part more

behind_and : (k : Kind) (xs : List (List Piece)) (x : List Piece) → behind k (xs ++ x ∷ []) ≡ behind k xs ++ (mark k ∷ x)
behind_and k [] x = ap (λ (ps : List Piece). mark k ∷ ps) (append-nil x)
behind_and k (y ∷ ys) x = ap (λ (ps : List Piece). mark k ∷ (y ++ ps)) (behind_and k ys x) ∙ ap (λ (ps : List Piece). mark k ∷ ps) (sym (append_assoc y (behind k ys) (mark k ∷ x)))

separated_and : (k : Kind) (xs : List (List Piece)) (x : List Piece) → separated k (xs ++ x ∷ []) ≡ separated k xs ++ (separator k (length xs) ++ x)
separated_and k [] x = append-nil x
separated_and k (y ∷ ys) x = ap (λ (ps : List Piece). y ++ ps) (behind_and k ys x) ∙ sym (append_assoc y (behind k ys) (mark k ∷ x))

map_and : {A B : Type 0} (f : A → B) (xs : List A) (x : A) → map f (xs ++ x ∷ []) ≡ map f xs ++ f x ∷ []
map_and f [] x = refl
map_and f (y ∷ ys) x = ap (λ (zs : List _). f y ∷ zs) (map_and f ys x)

map_length : {A B : Type 0} (f : A → B) (xs : List A) → length (map f xs) ≡ length xs
map_length f [] = refl
map_length f (x ∷ xs) = grind (arith, map_length f xs)

-- what was printed, and one piece list more
grown : (begun page two : Layout) (before more all : List Piece) → page ≡ laid begun before → two ≡ laid page more → all ≡ before ++ more → two ≡ laid begun all
grown begun page two before more all h k e = k ∙ ap (λ (l : Layout). laid l more) h ∙ sym (laid-append begun before more) ∙ ap (λ (ps : List Piece). laid begun ps) (sym e)

pub separated_more : {A : Type 0} (k : Kind) (f : A → List Piece) (begun page one two : Layout) (xs : List A) (i : ℕ) (x : A) → i < length xs → x ≡ get_or xs i x
    → page ≡ laid begun (separated k (map f (take i xs))) → one ≡ laid page (separator k i) → two ≡ laid one (f x) → two ≡ laid begun (separated k (map f (take (i + 1) xs)))
separated_more {A} k f begun page one two xs i x lt at h a b =
    let len : length (map f (take i xs)) ≡ i = map_length f (take i xs) ∙ length-take-le i xs (omega arith) in
    let step : two ≡ laid page (separator k i ++ f x) = b ∙ ap (λ (l : Layout). laid l (f x)) a ∙ sym (laid-append page (separator k i) (f x)) in
    let next : take (i + 1) xs ≡ take i xs ++ x ∷ [] = take_more xs i x lt ∙ ap (λ (y : A). take i xs ++ y ∷ []) (sym at) in
    let all : separated k (map f (take (i + 1) xs)) ≡ separated k (map f (take i xs)) ++ (separator k i ++ f x) =
    ap (λ (ys : List A). separated k (map f ys)) next ∙ ap (separated k) (map_and f (take i xs) x) ∙ separated_and k (map f (take i xs)) (f x)
    ∙ ap (λ (n : ℕ). separated k (map f (take i xs)) ++ (separator k n ++ f x)) len in
    grown begun page two (separated k (map f (take i xs))) (separator k i ++ f x) (separated k (map f (take (i + 1) xs))) h step all

pub flat_more : {A : Type 0} (f : A → List Piece) (begun page two : Layout) (xs : List A) (i : ℕ) (x : A) → i < length xs → x ≡ get_or xs i x
    → page ≡ laid begun (flat_map f (take i xs)) → two ≡ laid page (f x) → two ≡ laid begun (flat_map f (take (i + 1) xs))
flat_more {A} f begun page two xs i x lt at h b =
    let next : take (i + 1) xs ≡ take i xs ++ x ∷ [] = take_more xs i x lt ∙ ap (λ (y : A). take i xs ++ y ∷ []) (sym at) in
    let all : flat_map f (take (i + 1) xs) ≡ flat_map f (take i xs) ++ f x =
    ap (flat_map f) next ∙ flat_map-append f (take i xs) (x ∷ []) ∙ ap (λ (ps : List Piece). flat_map f (take i xs) ++ ps) (append_nil (f x)) in
    grown begun page two (flat_map f (take i xs)) (f x) (flat_map f (take (i + 1) xs)) h b all
  where
    append_nil : (ps : List Piece) → ps ++ [] ≡ ps
    append_nil [] = refl
    append_nil (p ∷ ps) = ap (λ (qs : List Piece). p ∷ qs) (append_nil ps)

pub behind_more : {A : Type 0} (k : Kind) (f : A → List Piece) (begun page two : Layout) (xs : List A) (i : ℕ) (x : A) → i < length xs → x ≡ get_or xs i x
    → page ≡ laid begun (behind k (map f (take i xs))) → two ≡ laid page (mark k ∷ f x) → two ≡ laid begun (behind k (map f (take (i + 1) xs)))
behind_more {A} k f begun page two xs i x lt at h b =
    let next : take (i + 1) xs ≡ take i xs ++ x ∷ [] = take_more xs i x lt ∙ ap (λ (y : A). take i xs ++ y ∷ []) (sym at) in
    let all : behind k (map f (take (i + 1) xs)) ≡ behind k (map f (take i xs)) ++ (mark k ∷ f x) =
    ap (λ (ys : List A). behind k (map f ys)) next ∙ ap (behind k) (map_and f (take i xs) x) ∙ behind_and k (map f (take i xs)) (f x) in
    grown begun page two (behind k (map f (take i xs))) (mark k ∷ f x) (behind k (map f (take (i + 1) xs))) h b all

pub map_more : {A : Type 0} (f : A → Piece) (begun page two : Layout) (xs : List A) (i : ℕ) (x : A) → i < length xs → x ≡ get_or xs i x
    → page ≡ laid begun (map f (take i xs)) → two ≡ lay page (f x) → two ≡ laid begun (map f (take (i + 1) xs))
map_more {A} f begun page two xs i x lt at h b =
    let next : take (i + 1) xs ≡ take i xs ++ x ∷ [] = take_more xs i x lt ∙ ap (λ (y : A). take i xs ++ y ∷ []) (sym at) in
    let all : map f (take (i + 1) xs) ≡ map f (take i xs) ++ f x ∷ [] = ap (map f) next ∙ map_and f (take i xs) x in
    grown begun page two (map f (take i xs)) (f x ∷ []) (map f (take (i + 1) xs)) h b all

-- ---- sums

flat_and : (xs : List (Bool × Phrase)) (x : Bool × Phrase) → flat_map signed (xs ++ x ∷ []) ≡ flat_map signed xs ++ signed x
flat_and [] x = append-nil (signed x)
flat_and (y ∷ ys) x = ap (λ (ps : List Piece). signed y ++ ps) (flat_and ys x) ∙ sym (append_assoc (signed y) (flat_map signed ys) (signed x))

sum_and : (xs : List (Bool × Phrase)) (x : Bool × Phrase) → sum_pieces (xs ++ x ∷ []) ≡ sum_pieces xs ++ (separator (sign_kind x.0) (length xs) ++ at_least 1 x.1)
sum_and [] x = append-nil (at_least 1 x.1)
sum_and (y ∷ ys) x = ap (λ (ps : List Piece). at_least 1 y.1 ++ ps) (flat_and ys x) ∙ sym (append_assoc (at_least 1 y.1) (flat_map signed ys) (signed x))

pub sum_more : (begun page one two : Layout) (xs : List Signed) (i : ℕ) (x : Signed) → i < length xs → x ≡ get_or xs i x
    → page ≡ laid begun (sum_pieces (map signed_part (take i xs))) → one ≡ laid page (separator (sign_kind x.minus) i) → two ≡ laid one (at_least 1 (expr_phrase x.part)) → two ≡ laid begun (sum_pieces (map signed_part (take (i + 1) xs)))
sum_more begun page one two xs i x lt at h a b =
    let len : length (map signed_part (take i xs)) ≡ i = map_length signed_part (take i xs) ∙ length-take-le i xs (omega arith) in
    let step : two ≡ laid page (separator (sign_kind x.minus) i ++ at_least 1 (expr_phrase x.part)) = b ∙ ap (λ (l : Layout). laid l (at_least 1 (expr_phrase x.part))) a ∙ sym (laid-append page (separator (sign_kind x.minus) i) (at_least 1 (expr_phrase x.part))) in
    let next : take (i + 1) xs ≡ take i xs ++ x ∷ [] = take_more xs i x lt ∙ ap (λ (y : Signed). take i xs ++ y ∷ []) (sym at) in
    let all : sum_pieces (map signed_part (take (i + 1) xs)) ≡ sum_pieces (map signed_part (take i xs)) ++ (separator (sign_kind x.minus) i ++ at_least 1 (expr_phrase x.part)) =
    ap (λ (ys : List Signed). sum_pieces (map signed_part ys)) next ∙ ap sum_pieces (map_and signed_part (take i xs) x) ∙ sum_and (map signed_part (take i xs)) (signed_part x)
    ∙ ap (λ (n : ℕ). sum_pieces (map signed_part (take i xs)) ++ (separator (sign_kind (signed_part x).0) n ++ at_least 1 (signed_part x).1)) len
    ∙ ap (λ (z : Bool × Phrase). sum_pieces (map signed_part (take i xs)) ++ (separator (sign_kind z.0) i ++ at_least 1 z.1)) (signed_part-out x) in
    grown begun page two (sum_pieces (map signed_part (take i xs))) (separator (sign_kind x.minus) i ++ at_least 1 (expr_phrase x.part)) (sum_pieces (map signed_part (take (i + 1) xs))) h step all
