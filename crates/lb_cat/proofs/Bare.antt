-- Records without stamps are looked up, put and dropped as those with stamps.
use Rattle.std.proofs.Common.{◌≡◌, refl, ap, ◌∙◌, Bool, true, false, cond, not, ◌||◌, List, [], ◌∷◌, map, Option, None, Some, is_some}
use Rattle.std.specs.List.{list_any}
use Rattle.std.specs.Prelude.{find, option_map}
use Rattle.lb_rows.specs.Lists.{put, without}
use Rattle.lb_cat.specs.Catalog.{Table, Policy, Component, User, is_table, is_policy, is_component, is_user}
use Rattle.lb_cat.specs.Stamps.{Kept, bare, bare_table, bare_policy, bare_component, bare_user, TablesAreBare, PoliciesAreBare, ComponentsAreBare, UsersAreBare, RolesAreBare}

-- what a look-up gives, mapped twice
pub mapped_twice : {A B C : Type 0} (g : B → C) (f : A → B) (r : Option A) → option_map (λ x. g (f x)) r ≡ option_map g (option_map f r)
mapped_twice g f None = refl
mapped_twice g f (Some x) = refl

-- it finds something where one passes the test
pub found_any : {A B : Type 0} (f : A → B) (is : B → Bool) (r : Option A) (xs : List B) → option_map f r ≡ find is xs → is_some r ≡ list_any is xs
found_any {A = A} {B = B} f is r xs h = seen r ∙ ap is_some h ∙ passes xs
  where
    seen : (o : Option A) → is_some o ≡ is_some (option_map f o)
    seen None = refl
    seen (Some x) = refl

    passes : (ys : List B) → is_some (find is ys) ≡ list_any is ys
    passes [] = refl
    passes (y ∷ ys) =
        elim (is y) as (λ b. is_some (cond b (Some y) (find is ys)) ≡ b || list_any is ys) [
          | true ↦ refl
          | false ↦ passes ys
        ]

module _ {A B : Type 0} (f : A → B) (is : B → Bool) where
  pub find_mapped : (xs : List A) → find is (map f xs) ≡ option_map f (find (λ x. is (f x)) xs)
  find_mapped [] = refl
  find_mapped (x ∷ xs) =
      elim (is (f x)) as (λ b. cond b (Some (f x)) (find is (map f xs)) ≡ option_map f (cond b (Some x) (find (λ y. is (f y)) xs))) [
        | true ↦ refl
        | false ↦ find_mapped xs
      ]

  pub put_mapped : (r : A) (xs : List A) → map f (put (λ x. is (f x)) r xs) ≡ put is (f r) (map f xs)
  put_mapped r [] = refl
  put_mapped r (x ∷ xs) =
      elim (is (f x)) as (λ b. map f (cond b (r ∷ xs) (x ∷ put (λ y. is (f y)) r xs)) ≡ cond b (f r ∷ map f xs) (f x ∷ put is (f r) (map f xs))) [
        | true ↦ refl
        | false ↦ ap (λ (rest : List B). f x ∷ rest) (put_mapped r xs)
      ]

  pub without_mapped : (xs : List A) → map f (without (λ x. is (f x)) xs) ≡ without is (map f xs)
  without_mapped [] = refl
  without_mapped (x ∷ xs) =
      elim (is (f x)) as (λ b. map f (cond (not b) (x ∷ without (λ y. is (f y)) xs) (without (λ y. is (f y)) xs)) ≡ cond (not b) (f x ∷ without is (map f xs)) (without is (map f xs))) [
        | true ↦ without_mapped xs
        | false ↦ ap (λ (rest : List B). f x ∷ rest) (without_mapped xs)
      ]

pub tables_are_bare : (S : Kept) → TablesAreBare S
tables_are_bare S = record {
  found = λ n. find_mapped bare_table (is_table n) S.tables;
  put = λ t. ap (λ (ts : List Table). record (bare S) { tables = ts }) (put_mapped bare_table (is_table t.name) t S.tables);
  dropped = λ n. ap (λ (ts : List Table). record (bare S) { tables = ts }) (without_mapped bare_table (is_table n) S.tables);
}

pub policies_are_bare : (S : Kept) → PoliciesAreBare S
policies_are_bare S = record {
  found = λ n. find_mapped bare_policy (is_policy n) S.policies;
  put = λ p. ap (λ (ps : List Policy). record (bare S) { policies = ps }) (put_mapped bare_policy (is_policy p.name) p S.policies);
  dropped = λ n. ap (λ (ps : List Policy). record (bare S) { policies = ps }) (without_mapped bare_policy (is_policy n) S.policies);
}

pub components_are_bare : (S : Kept) → ComponentsAreBare S
components_are_bare S = record {
  found = λ n. find_mapped bare_component (is_component n) S.components;
  put = λ c. ap (λ (cs : List Component). record (bare S) { components = cs }) (put_mapped bare_component (is_component c.name) c S.components);
  dropped = λ n. ap (λ (cs : List Component). record (bare S) { components = cs }) (without_mapped bare_component (is_component n) S.components);
}

pub users_are_bare : (S : Kept) → UsersAreBare S
users_are_bare S = record {
  found = λ n. find_mapped bare_user (is_user n) S.users;
  put = λ u. ap (λ (us : List User). record (bare S) { users = us }) (put_mapped bare_user (is_user u.name) u S.users);
}

pub roles_are_bare : (S : Kept) → RolesAreBare S
roles_are_bare S = record { found = λ n. refl; put = λ r. refl; dropped = λ n. refl }
