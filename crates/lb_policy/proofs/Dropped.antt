-- A record that is dropped takes the stamp of its own key alone, and users without holdings of a dropped policy stay as they are.
use Rattle.std.proofs.Common.{ℕ, ◌≡◌, refl, ap, Bool, false, cond, List, [], ◌∷◌, map}
use Rattle.std.specs.Prelude.{if◌then◌else◌}
use Rattle.std.specs.List.{list_any}
use Rattle.std.specs.Str.{bytes_eq}
use Rattle.lb_base.specs.declared.key.Key.{Key}
use Rattle.lb_base.specs.declared.key.Key.TheVariants as keys
use Rattle.lb_cat.specs.Catalog.{User}
use Rattle.lb_cat.specs.Holdings.{has_holding_of, is_holding_of, without_holding}
use Rattle.lb_cat.specs.Keys.{has_key, same_key}
use Rattle.lb_cat.specs.Stamps.{Kept, look, record_key}
use Rattle.lb_alter.specs.ChangeTable.{user_key}
use Rattle.lb_alter.proofs.Untouched.{or_left, turned}
use Rattle.lb_changed.specs.Made.{is_rows}
use Rattle.lb_first.proofs.Changing.{nothing_taken}

stays : (K : Kept) (k : Key) (b : Bool) → b ≡ false → (if b then 0 else look K k) ≡ look K k
stays K k b h = ap (λ x. cond x 0 (look K k)) h

pub component_untouched : (K : Kept) (n : List ℕ) (k : Key) (rest : List Key) → has_key k (keys.Component n ∷ rest) ≡ false → (if same_key (keys.Component n) (record_key k) then 0 else look K k) ≡ look K k
component_untouched K n (keys.Table m) rest h = refl
component_untouched K n (keys.Rows m) rest h = refl
component_untouched K n (keys.Policy m) rest h = refl
component_untouched K n (keys.Component m) rest h = stays K (keys.Component m) (bytes_eq n m) (turned m n (or_left (bytes_eq m n) (has_key (keys.Component m) rest) h))
component_untouched K n (keys.User m) rest h = refl

pub policy_untouched : (K : Kept) (n : List ℕ) (k : Key) (rest : List Key) → has_key k (keys.Policy n ∷ rest) ≡ false → (if same_key (keys.Policy n) (record_key k) then 0 else look K k) ≡ look K k
policy_untouched K n (keys.Table m) rest h = refl
policy_untouched K n (keys.Rows m) rest h = refl
policy_untouched K n (keys.Policy m) rest h = stays K (keys.Policy m) (bytes_eq n m) (turned m n (or_left (bytes_eq m n) (has_key (keys.Policy m) rest) h))
policy_untouched K n (keys.Component m) rest h = refl
policy_untouched K n (keys.User m) rest h = refl

-- no key of a user is one of rows
pub no_rows : (us : List User) → list_any is_rows (map user_key us) ≡ false
no_rows [] = refl
no_rows (u ∷ us) = no_rows us

-- who holds nothing of the policy loses nothing
pub no_holding_lost : (n : List ℕ) (u : User) → has_holding_of n u ≡ false → without_holding n u ≡ u
no_holding_lost n u h = ap (λ hs. record u { held = hs }) (nothing_taken (is_holding_of n) u.held h)
