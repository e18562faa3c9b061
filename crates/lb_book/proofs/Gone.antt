-- Rows that are removed under some keys, one key after another.
use Rattle.std.proofs.Common.{◌≡◌, refl, sym, ap, ◌∙◌, ℕ, true, false, cond, not, ◌||◌, List, [], ◌∷◌}
use Rattle.lb_base.specs.declared.key.Key.{Key}
use Rattle.lb_base.specs.declared.key.Key.TheVariants as keys
use Rattle.lb_cat.specs.Keys.{has_key, same_key}
use Rattle.lb_rows.specs.Lists.{without}
use Rattle.lb_rows.specs.Stamped.{Stamped}
use Rattle.lb_book.specs.Leaving.{is_touched_in}

-- under the first key, and then under the others
pub gone_more : (k : Key) (ks : List Key) (tables : List Stamped) → without (is_touched_in ks) (without (is_touched_in (k ∷ [])) tables) ≡ without (is_touched_in (k ∷ ks)) tables
gone_more k ks [] = refl
gone_more k ks (s ∷ tables) =
    elim (same_key (keys.Rows s.version.name) k) as (λ b. without (is_touched_in ks) (cond (not (b || false)) (s ∷ without (is_touched_in (k ∷ [])) tables) (without (is_touched_in (k ∷ [])) tables))
    ≡ cond (not (b || has_key (keys.Rows s.version.name) ks)) (s ∷ without (is_touched_in (k ∷ ks)) tables) (without (is_touched_in (k ∷ ks)) tables)) [
      | true ↦ gone_more k ks tables
      | false ↦ elim (is_touched_in ks s) as (λ b. cond (not b) (s ∷ without (is_touched_in ks) (without (is_touched_in (k ∷ [])) tables)) (without (is_touched_in ks) (without (is_touched_in (k ∷ [])) tables))
          ≡ cond (not b) (s ∷ without (is_touched_in (k ∷ ks)) tables) (without (is_touched_in (k ∷ ks)) tables)) [
            | true ↦ gone_more k ks tables
            | false ↦ ap (λ (xs : List Stamped). s ∷ xs) (gone_more k ks tables)
          ]
    ]

-- under no key
pub gone_none : (tables : List Stamped) → without (is_touched_in []) tables ≡ tables
gone_none [] = refl
gone_none (s ∷ tables) = ap (λ (xs : List Stamped). s ∷ xs) (gone_none tables)

-- under a key that is none of rows
gone_other : (k : Key) → ((n : List ℕ) → same_key (keys.Rows n) k ≡ false) → (tables : List Stamped) → tables ≡ without (is_touched_in (k ∷ [])) tables
gone_other k off [] = refl
gone_other k off (s ∷ tables) =
    ap (λ (xs : List Stamped). s ∷ xs) (gone_other k off tables)
    ∙ sym (ap (λ b. cond (not (b || false)) (s ∷ without (is_touched_in (k ∷ [])) tables) (without (is_touched_in (k ∷ [])) tables)) (off s.version.name))

pub gone_unless : (k : Key) → ((n : List ℕ) → k ≡ keys.Rows n → ⊥) → (tables : List Stamped) → tables ≡ without (is_touched_in (k ∷ [])) tables
gone_unless (keys.Table m) h tables = gone_other (keys.Table m) (λ n. refl) tables
gone_unless (keys.Rows m) h tables = absurd (h m refl)
gone_unless (keys.Policy m) h tables = gone_other (keys.Policy m) (λ n. refl) tables
gone_unless (keys.Component m) h tables = gone_other (keys.Component m) (λ n. refl) tables
gone_unless (keys.User m) h tables = gone_other (keys.User m) (λ n. refl) tables
