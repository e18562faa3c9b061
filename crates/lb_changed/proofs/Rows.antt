-- The rows of all tables stay where no change touches them.
use Rattle.std.proofs.Common.{ℕ, ◌≡◌, refl, ap, ◌∙◌, Bool, true, false, cond, not, ◌||◌, List, [], ◌∷◌}
use Rattle.std.specs.List.{list_any}
use Rattle.lb_base.specs.declared.key.Key.{Key}
use Rattle.lb_base.specs.declared.key.Key.TheVariants as keys
use Rattle.lb_cat.specs.Keys.{has_key, same_key}
use Rattle.lb_rows.specs.Lists.{without}
use Rattle.lb_rows.specs.Tables.{Tables}
use Rattle.lb_changed.specs.Made.{is_rows, is_touched}

-- a key that is none of rows is no table's
other_kind : (n : List ℕ) (k : Key) → is_rows k ≡ false → same_key (keys.Rows n) k ≡ false
other_kind n (keys.Table m) h = refl
other_kind n (keys.Rows m) h = absurd cc
other_kind n (keys.Policy m) h = refl
other_kind n (keys.Component m) h = refl
other_kind n (keys.User m) h = refl

first_not : (a b : Bool) → (a || b) ≡ false → a ≡ false
first_not true b h = absurd cc
first_not false b h = refl

then_not : (a b : Bool) → (a || b) ≡ false → b ≡ false
then_not true b h = absurd cc
then_not false b h = h

none_touched : (n : List ℕ) (ks : List Key) → list_any is_rows ks ≡ false → has_key (keys.Rows n) ks ≡ false
none_touched n [] h = refl
none_touched n (k ∷ ks) h =
    ap (λ b. b || has_key (keys.Rows n) ks) (other_kind n k (first_not (is_rows k) (list_any is_rows ks) h))
    ∙ none_touched n ks (then_not (is_rows k) (list_any is_rows ks) h)

pub rows_stay : (ks : List Key) (T : Tables) → list_any is_rows ks ≡ false → without (is_touched ks) T ≡ T
rows_stay ks [] h = refl
rows_stay ks (v ∷ T) h =
    ap (λ b. cond (not b) (v ∷ without (is_touched ks) T) (without (is_touched ks) T)) (none_touched v.name ks h)
    ∙ ap (λ (xs : Tables). v ∷ xs) (rows_stay ks T h)
