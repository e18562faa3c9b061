-- A list that is gone through item by item, where a function is taken of each.
use Rattle.std.proofs.Common.{◌≡◌, ℕ, ◌+◌, ◌<◌, ◌≤◌, List, [], ◌∷◌, ◌++◌, length, take, map, get_or, sym, ap, ◌∙◌, arith}
use Rattle.std.proofs.lemmas.List.{take-map, map_more, length-map}

-- after one item more, the function's value of it has come last
pub mapped_more : {A B : Type 0} (f : A → B) (xs : List A) (i : ℕ) (d : A) (value : B) → value ≡ f (get_or xs i d) → i < length xs → take (i + 1) (map f xs) ≡ take i (map f xs) ++ value ∷ []
mapped_more {A} {B} f xs i d value is lt =
    take-map f (i + 1) xs ∙ map_more f xs i d lt ∙ ap (λ (ys : List B). ys ++ f (get_or xs i d) ∷ []) (sym (take-map f i xs)) ∙ ap (λ (y : B). take i (map f xs) ++ y ∷ []) (sym is)

-- after all items, all values have come
pub mapped_all : {A B : Type 0} (f : A → B) (xs : List A) (i : ℕ) → length xs ≤ i → length (map f xs) ≤ i
mapped_all f xs i le = let h = length-map xs f in omega (arith, h, le)
