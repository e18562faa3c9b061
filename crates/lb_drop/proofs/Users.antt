-- Users without privileges on a table.
use Rattle.std.proofs.Common.{ℕ, ◌≡◌, refl, ap, sym, ◌∙◌, true, false, cond, not, List, [], ◌∷◌, Some, map}
use Rattle.std.specs.Prelude.{find, is_some}
use Rattle.lb_cat.specs.Catalog.{User}
use Rattle.lb_cat.specs.Privileges.{has_grant_on, is_grant_on, without_grant}
use Rattle.lb_cat.specs.declared.catalog.Grant.{Grant}
use Rattle.lb_rows.specs.Lists.{without}
use Rattle.lb_first.specs.Changing.{changed_where}

-- without an entry nothing is taken
nothing_taken : (n : List ℕ) (gs : List Grant) → is_some (find (is_grant_on n) gs) ≡ false → without (is_grant_on n) gs ≡ gs
nothing_taken n [] h = refl
nothing_taken n (g ∷ gs) h =
    elim (is_grant_on n g) as (λ b. is_some (cond b (Some g) (find (is_grant_on n) gs)) ≡ false → cond (not b) (g ∷ without (is_grant_on n) gs) (without (is_grant_on n) gs) ≡ g ∷ gs) [
      | true ↦ λ i. absurd cc
      | false ↦ λ i. ap (λ (xs : List Grant). g ∷ xs) (nothing_taken n gs i)
    ] h

-- who has no privileges on the table stays without them
user_stays : (n : List ℕ) (u : User) → has_grant_on n u ≡ false → u ≡ without_grant n u
user_stays n u h = sym (ap (λ gs. record u { privileges = gs }) (nothing_taken n u.privileges h))

one_changed : (n : List ℕ) (u : User) → cond (has_grant_on n u) (without_grant n u) u ≡ without_grant n u
one_changed n u =
    elim (has_grant_on n u) as (λ b. has_grant_on n u ≡ b → cond b (without_grant n u) u ≡ without_grant n u) [
      | true ↦ λ h. refl
      | false ↦ λ h. user_stays n u h
    ] refl

-- so all users are without them, if those who have some lose them
pub all_without : (n : List ℕ) (us : List User) → changed_where (has_grant_on n) (without_grant n) us ≡ map (without_grant n) us
all_without n [] = refl
all_without n (u ∷ us) =
    ap (λ (v : User). v ∷ changed_where (has_grant_on n) (without_grant n) us) (one_changed n u)
    ∙ ap (λ (vs : List User). without_grant n u ∷ vs) (all_without n us)
