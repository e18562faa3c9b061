-- Texts with a separator between two.
use Rattle.std.proofs.Common.{◌≡◌, ℕ, ◌+◌, ◌<◌, List, [], ◌∷◌, ◌++◌, length, take, get_or, map, refl, ap, ◌∙◌, append_assoc, arith}
use Rattle.std.proofs.lemmas.List.{take_more, length-take-le}
use Rattle.lb_model.specs.Out.{joined_by}
use Rattle.lb_block.specs.Parts.{separator}

-- one text more
pub joined_and : (between : List ℕ) (xs : List (List ℕ)) (x : List ℕ) → joined_by between (xs ++ x ∷ []) ≡ joined_by between xs ++ (separator between (length xs) ++ x)
joined_and between [] x = refl
joined_and between (y ∷ []) x = append_assoc y between x
joined_and between (y ∷ z ∷ zs) x = rw (joined_and between (z ∷ zs) x) (simp append_assoc)

map_and : {A B : Type 0} (f : A → B) (xs : List A) (x : A) → map f (xs ++ x ∷ []) ≡ map f xs ++ f x ∷ []
map_and f [] x = refl
map_and f (y ∷ ys) x = ap (λ (zs : List _). f y ∷ zs) (map_and f ys x)

map_length : {A B : Type 0} (f : A → B) (xs : List A) → length (map f xs) ≡ length xs
map_length f [] = refl
map_length f (x ∷ xs) = grind (arith, map_length f xs)

pub mapped_and : {A : Type 0} (between : List ℕ) (f : A → List ℕ) (xs : List A) (x : A) → joined_by between (map f (xs ++ x ∷ [])) ≡ joined_by between (map f xs) ++ (separator between (length xs) ++ f x)
mapped_and between f xs x =
    ap (joined_by between) (map_and f xs x) ∙ joined_and between (map f xs) (f x) ∙ ap (λ (n : ℕ). joined_by between (map f xs) ++ (separator between n ++ f x)) (map_length f xs)

-- the text of a list, which a part more makes longer by a separator and that part
pub parts_more : {A : Type 0} (all : List A → List ℕ) (between : List ℕ) (f : A → List ℕ)
    → ((xs : List A) (x : A) → all (xs ++ x ∷ []) ≡ all xs ++ (separator between (length xs) ++ f x))
    → (begun out one two : List ℕ) (xs : List A) (i : ℕ) (x : A) → i < length xs → x ≡ get_or xs i x
    → out ≡ begun ++ all (take i xs) → one ≡ out ++ separator between i → two ≡ one ++ f x → two ≡ begun ++ all (take (i + 1) xs)
parts_more all between f and begun out one two xs i x lt at h a b =
    let len : length (take i xs) ≡ i = length-take-le i xs (omega arith) in
    let parts : all (take (i + 1) xs) ≡ all (take i xs) ++ (separator between i ++ f x) = rw (take_more xs i x lt, ← at) (and (take i xs) x ∙ ap (λ (k : ℕ). all (take i xs) ++ (separator between k ++ f x)) len) in
    rw (parts, b, a, h) (simp append_assoc)
