-- What a table leaves behind: the rows of the others, and the stamps of all that isn't touched.
use Rattle.std.proofs.Common.{ℕ, ◌≡◌, refl, ap, sym, ◌∙◌, Bool, true, false, cond, not, ◌||◌, List, [], ◌∷◌, map}
use Rattle.std.specs.Str.{bytes_eq}
use Rattle.std.proofs.lemmas.Slice.Eq.{bytes_eq-Decides}
use Rattle.lb_base.specs.declared.key.Key.{Key}
use Rattle.lb_base.specs.declared.key.Key.TheVariants as keys
use Rattle.lb_cat.specs.Catalog.{User}
use Rattle.lb_cat.specs.Keys.{has_key, same_key}
use Rattle.lb_cat.specs.Stamps.{record_key}
use Rattle.lb_rows.specs.Lists.{without}
use Rattle.lb_rows.specs.Tables.{Tables, is_version}
use Rattle.lb_alter.specs.ChangeTable.{user_key}
use Rattle.lb_changed.specs.Made.{is_touched}

no_rows : (m : List ℕ) (us : List User) → has_key (keys.Rows m) (map user_key us) ≡ false
no_rows m [] = refl
no_rows m (u ∷ us) = no_rows m us

rows_touched : (m n : List ℕ) (us : List User) → has_key (keys.Rows m) (keys.Table n ∷ keys.Rows n ∷ map user_key us) ≡ bytes_eq m n
rows_touched m n us = ap (λ b. bytes_eq m n || b) (no_rows m us) ∙ or_false (bytes_eq m n) where
  or_false : (b : Bool) → (b || false) ≡ b
  or_false true = refl
  or_false false = refl

-- the rows of the table alone are gone
pub rows_gone : (n : List ℕ) (us : List User) (T : Tables) → without (is_touched (keys.Table n ∷ keys.Rows n ∷ map user_key us)) T ≡ without (is_version n) T
rows_gone n us [] = refl
rows_gone n us (v ∷ T) =
    ap (λ b. cond (not b) (v ∷ without (is_touched (keys.Table n ∷ keys.Rows n ∷ map user_key us)) T) (without (is_touched (keys.Table n ∷ keys.Rows n ∷ map user_key us)) T)) (rows_touched v.name n us)
    ∙ ap (λ (left : Tables). cond (not (bytes_eq v.name n)) (v ∷ left) left) (rows_gone n us T)

swapped : (m n : List ℕ) (b : Bool) → (bytes_eq m n || b) ≡ false → bytes_eq n m ≡ false
swapped m n b h = elim (bytes_eq n m) as (λ c. bytes_eq n m ≡ c → c ≡ false) [
  | true ↦ λ i.
      let one : bytes_eq m n ≡ true = (bytes_eq-Decides m n).1 (sym ((bytes_eq-Decides n m).0 i)) in
      absurd cc
  | false ↦ λ i. refl
] refl

-- what isn't touched has another key than the table's record
pub untouched : (n : List ℕ) (us : List User) (k : Key) → has_key k (keys.Table n ∷ keys.Rows n ∷ map user_key us) ≡ false → same_key (keys.Table n) (record_key k) ≡ false
untouched n us (keys.Table m) h = swapped m n (has_key (keys.Table m) (map user_key us)) h
untouched n us (keys.Rows m) h = swapped m n (has_key (keys.Rows m) (map user_key us)) h
untouched n us (keys.Policy m) h = refl
untouched n us (keys.Component m) h = refl
untouched n us (keys.User m) h = refl
