-- Words joined by blanks, and what one word more adds: for the loops that print groups and permissions.
use Rattle.std.proofs.Common.{◌≡◌, ℕ, ◌+◌, ◌<◌, List, [], ◌∷◌, ◌++◌, take, length, get_or, refl, sym, ap, ◌∙◌, append_assoc}
use Rattle.std.specs.Prelude.{codes}
use Rattle.std.proofs.lemmas.List.{append-nil, take_more}
use Rattle.lb_block.specs.Parts.{behind_blanks}

behind_more : (ts : List (List ℕ)) (t : List ℕ) → behind_blanks (ts ++ t ∷ []) ≡ behind_blanks ts ++ behind_blanks (t ∷ [])
behind_more [] t = refl
behind_more (u ∷ ts) t = ap (λ (r : List ℕ). codes " " ++ u ++ r) (behind_more ts t) ∙ sym (append_assoc (codes " " ++ u) (behind_blanks ts) (behind_blanks (t ∷ [])))

-- one name more after those of a loop
pub names_more : (first now next : List ℕ) (names : List (List ℕ)) (i : ℕ) (name : List ℕ) → i < length names → name ≡ get_or names i name → now ≡ first ++ behind_blanks (take i names)
    → next ≡ now ++ behind_blanks (name ∷ []) → next ≡ first ++ behind_blanks (take (i + 1) names)
names_more first now next names i name lt is so more =
    let one : take (i + 1) names ≡ take i names ++ name ∷ [] = take_more names i name lt ∙ ap (λ (n : List ℕ). take i names ++ n ∷ []) (sym is) in
    more ∙ ap (λ (t : List ℕ). t ++ behind_blanks (name ∷ [])) so ∙ append_assoc first (behind_blanks (take i names)) (behind_blanks (name ∷ []))
    ∙ ap (λ (t : List ℕ). first ++ t) (sym (behind_more (take i names) name)) ∙ ap (λ (ts : List (List ℕ)). first ++ behind_blanks ts) (sym one)
