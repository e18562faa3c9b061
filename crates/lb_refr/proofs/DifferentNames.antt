-- Whether the names of elements differ, told from the first element and the others.
use Rattle.std.proofs.Common.{◌≡◌, ℕ, Bool, true, false, not, ◌&&◌, ◌||◌, List, [], ◌∷◌, map, refl, sym, ap, subst, ◌∙◌}
use Rattle.std.specs.List.{list_any}
use Rattle.std.specs.Str.{bytes_eq}
use Rattle.lb_stmt.specs.declared.change.Element.{Element}
use Rattle.lb_model.specs.Small.{are_different}
use Rattle.lb_refr.specs.Shapes.{element_name}

among-map : (n : List ℕ) (es : List Element) → list_any (bytes_eq n) (map element_name es) ≡ list_any (λ e. bytes_eq n (element_name e)) es
among-map n [] = refl
among-map n (e ∷ es) = ap (λ (b : Bool). bytes_eq n (element_name e) || b) (among-map n es)

-- the name of the first is among the others or not, as b says
different_on : (es rest others : List Element) (first : Element) (n : List ℕ) (b : Bool)
    → are_different (map element_name es) ≡ are_different (map element_name rest) → rest ≡ first ∷ others → n ≡ element_name first
    → b ≡ list_any (λ e. bytes_eq n (element_name e)) others
    → are_different (map element_name es) ≡ (not b && are_different (map element_name others))
different_on es rest others first n b h i j k =
    let e : list_any (bytes_eq (element_name first)) (map element_name others) ≡ b =
    among-map (element_name first) others ∙ sym (subst (λ (m : List ℕ). b ≡ list_any (λ e. bytes_eq m (element_name e)) others) j k)
    in
    h ∙ (ap (λ (r : List Element). are_different (map element_name r)) i ∙ ap (λ (x : Bool). not x && are_different (map element_name others)) e)

pub repeated_on : (es rest others : List Element) (first : Element) (n : List ℕ) (b : Bool)
    → are_different (map element_name es) ≡ are_different (map element_name rest) → rest ≡ first ∷ others → n ≡ element_name first
    → b ≡ list_any (λ e. bytes_eq n (element_name e)) others → b ≡ true → false ≡ are_different (map element_name es)
repeated_on es rest others first n b h i j k l =
    sym (different_on es rest others first n b h i j k ∙ ap (λ (x : Bool). not x && are_different (map element_name others)) l)

pub different_so_far : (es rest others : List Element) (first : Element) (n : List ℕ) (b : Bool)
    → are_different (map element_name es) ≡ are_different (map element_name rest) → rest ≡ first ∷ others → n ≡ element_name first
    → b ≡ list_any (λ e. bytes_eq n (element_name e)) others → b ≡ false → are_different (map element_name es) ≡ are_different (map element_name others)
different_so_far es rest others first n b h i j k l =
    different_on es rest others first n b h i j k ∙ ap (λ (x : Bool). not x && are_different (map element_name others)) l
