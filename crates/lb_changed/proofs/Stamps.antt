-- A record that is put with the stamp of the one before it leaves all stamps.
use Rattle.std.proofs.Common.{ℕ, ◌≡◌, refl, ap, ◌∙◌, true, false, cond, List}
use Rattle.std.specs.Prelude.{if◌then◌else◌}
use Rattle.std.proofs.lemmas.Slice.Eq.{bytes_eq-Decides}
use Rattle.lb_base.specs.declared.key.Key.{Key}
use Rattle.lb_base.specs.declared.key.Key.TheVariants as keys
use Rattle.lb_cat.specs.Keys.{same_key}
use Rattle.lb_cat.specs.Stamps.{Kept, look, record_key}
use Rattle.lb_changed.specs.Made.{StampsStay}

-- what is looked up under the record's key has the record's stamp
abbrev HasOneStamp : Kept → Key → Type 0
HasOneStamp K key = (k : Key) → same_key key (record_key k) ≡ true → look K key ≡ look K k

pub table_stamp : (K : Kept) (n : List ℕ) → HasOneStamp K (keys.Table n)
table_stamp K n (keys.Table m) h = ap (λ x. look K (keys.Table x)) ((bytes_eq-Decides n m).0 h)
table_stamp K n (keys.Rows m) h = ap (λ x. look K (keys.Table x)) ((bytes_eq-Decides n m).0 h)
table_stamp K n (keys.Policy m) h = absurd cc
table_stamp K n (keys.Component m) h = absurd cc
table_stamp K n (keys.User m) h = absurd cc

pub policy_stamp : (K : Kept) (n : List ℕ) → HasOneStamp K (keys.Policy n)
policy_stamp K n (keys.Table m) h = absurd cc
policy_stamp K n (keys.Rows m) h = absurd cc
policy_stamp K n (keys.Policy m) h = ap (λ x. look K (keys.Policy x)) ((bytes_eq-Decides n m).0 h)
policy_stamp K n (keys.Component m) h = absurd cc
policy_stamp K n (keys.User m) h = absurd cc

pub component_stamp : (K : Kept) (n : List ℕ) → HasOneStamp K (keys.Component n)
component_stamp K n (keys.Table m) h = absurd cc
component_stamp K n (keys.Rows m) h = absurd cc
component_stamp K n (keys.Policy m) h = absurd cc
component_stamp K n (keys.Component m) h = ap (λ x. look K (keys.Component x)) ((bytes_eq-Decides n m).0 h)
component_stamp K n (keys.User m) h = absurd cc

pub user_stamp : (K : Kept) (n : List ℕ) → HasOneStamp K (keys.User n)
user_stamp K n (keys.Table m) h = absurd cc
user_stamp K n (keys.Rows m) h = absurd cc
user_stamp K n (keys.Policy m) h = absurd cc
user_stamp K n (keys.Component m) h = absurd cc
user_stamp K n (keys.User m) h = ap (λ x. look K (keys.User x)) ((bytes_eq-Decides n m).0 h)

-- so all stamps stay where the record has the one that its key had
pub all_stay : (K L : Kept) (key : Key) (stamp : ℕ) → HasOneStamp K key → stamp ≡ look K key
    → ((k : Key) → look L k ≡ (if same_key key (record_key k) then stamp else look K k)) → StampsStay K L
all_stay K L key stamp one same after k =
    after k ∙ elim (same_key key (record_key k)) as (λ b. same_key key (record_key k) ≡ b → cond b stamp (look K k) ≡ look K k) [
      | true ↦ λ h. same ∙ one k h
      | false ↦ λ h. refl
    ] refl
