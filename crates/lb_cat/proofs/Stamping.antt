-- The stamps after a record was put or dropped.
use Rattle.std.proofs.Common.{◌≡◌, refl, sym, ap, ◌∙◌, ℕ, Bool, true, false, cond, not, if◌then◌else◌, List, [], ◌∷◌, None, Some, true≢false}
use Rattle.std.specs.Prelude.{find}
use Rattle.std.specs.Str.{bytes_eq}
use Rattle.lb_base.specs.declared.key.Key.TheVariants as keys
use Rattle.lb_rows.specs.Lists.{put, without}
use Rattle.lb_cat.specs.Keys.{same_key}
use Rattle.lb_cat.specs.Stamps.{Kept, stamp_or, look, record_key, with_kept_table, with_kept_policy, with_kept_component, with_kept_user, with_kept_role, without_kept_table, without_kept_policy, without_kept_component, without_kept_role, StampsFollow}
use Rattle.lb_cat.proofs.ByName.{same_name}

module _ {R : Type 0} (name : R → List ℕ) (stamp : R → ℕ) (m : List ℕ) where
  -- the stamp of the record named m
  abbrev pub stamp_in : List R → ℕ
  stamp_in rs = stamp_or stamp (find (λ r. bytes_eq (name r) m) rs)

  -- a record that is not the one put or dropped is found as before
  other : (n k : List ℕ) → bytes_eq k n ≡ false → bytes_eq k m ≡ true → bytes_eq n m ≡ false
  other n k differ found = by (bytes_eq n m) refl
    where
      by : (b : Bool) → bytes_eq n m ≡ b → b ≡ false
      by true h = absurd (true≢false (sym (ap (bytes_eq k) (same_name n m h) ∙ found) ∙ differ))
      by false h = refl

  pub stamp_after_put : (t : R) (rs : List R) → stamp_in (put (λ x. bytes_eq (name x) (name t)) t rs) ≡ (if bytes_eq (name t) m then stamp t else stamp_in rs)
  stamp_after_put t [] =
      elim (bytes_eq (name t) m) as (λ b. stamp_or stamp (cond b (Some t) None) ≡ (if b then stamp t else 0)) [
        | true ↦ refl
        | false ↦ refl
      ]
  stamp_after_put t (x ∷ rs) = by (bytes_eq (name x) (name t)) refl (stamp_after_put t rs)
    where
      there : (b : Bool) → stamp_or stamp (cond b (Some t) (find (λ r. bytes_eq (name r) m) rs)) ≡ (if b then stamp t else stamp_or stamp (cond b (Some x) (find (λ r. bytes_eq (name r) m) rs)))
      there true = refl
      there false = refl

      past : (b : Bool) → bytes_eq (name x) m ≡ b → bytes_eq (name x) (name t) ≡ false → stamp_in (put (λ y. bytes_eq (name y) (name t)) t rs) ≡ (if bytes_eq (name t) m then stamp t else stamp_in rs) → stamp_or stamp (cond b (Some x) (find (λ r. bytes_eq (name r) m) (put (λ y. bytes_eq (name y) (name t)) t rs))) ≡ (if bytes_eq (name t) m then stamp t else stamp_or stamp (cond b (Some x) (find (λ r. bytes_eq (name r) m) rs)))
      past true found differ rest = ap (λ c. if c then stamp t else stamp x) (sym (other (name t) (name x) differ found))
      past false found differ rest = rest

      by : (b : Bool) → bytes_eq (name x) (name t) ≡ b → stamp_in (put (λ y. bytes_eq (name y) (name t)) t rs) ≡ (if bytes_eq (name t) m then stamp t else stamp_in rs) → stamp_in (cond b (t ∷ rs) (x ∷ put (λ y. bytes_eq (name y) (name t)) t rs)) ≡ (if bytes_eq (name t) m then stamp t else stamp_in (x ∷ rs))
      by true h rest = there (bytes_eq (name t) m) ∙ ap (λ k. if bytes_eq (name t) m then stamp t else stamp_or stamp (cond (bytes_eq k m) (Some x) (find (λ r. bytes_eq (name r) m) rs))) (sym (same_name (name x) (name t) h))
      by false h rest = past (bytes_eq (name x) m) refl h rest

  pub stamp_after_drop : (n : List ℕ) (rs : List R) → stamp_in (without (λ x. bytes_eq (name x) n) rs) ≡ (if bytes_eq n m then 0 else stamp_in rs)
  stamp_after_drop n [] =
      elim (bytes_eq n m) as (λ b. ◌≡◌ {A = ℕ} 0 (if b then 0 else 0)) [
        | true ↦ refl
        | false ↦ refl
      ]
  stamp_after_drop n (x ∷ rs) = by (bytes_eq (name x) n) refl (stamp_after_drop n rs)
    where
      gone : (b : Bool) → (if b then 0 else stamp_in rs) ≡ (if b then 0 else stamp_or stamp (cond b (Some x) (find (λ r. bytes_eq (name r) m) rs)))
      gone true = refl
      gone false = refl

      past : (b : Bool) → bytes_eq (name x) m ≡ b → bytes_eq (name x) n ≡ false → stamp_in (without (λ y. bytes_eq (name y) n) rs) ≡ (if bytes_eq n m then 0 else stamp_in rs) → stamp_or stamp (cond b (Some x) (find (λ r. bytes_eq (name r) m) (without (λ y. bytes_eq (name y) n) rs))) ≡ (if bytes_eq n m then 0 else stamp_or stamp (cond b (Some x) (find (λ r. bytes_eq (name r) m) rs)))
      past true found differ rest = ap (λ c. if c then 0 else stamp x) (sym (other n (name x) differ found))
      past false found differ rest = rest

      by : (b : Bool) → bytes_eq (name x) n ≡ b → stamp_in (without (λ y. bytes_eq (name y) n) rs) ≡ (if bytes_eq n m then 0 else stamp_in rs) → stamp_in (cond (not b) (x ∷ without (λ y. bytes_eq (name y) n) rs) (without (λ y. bytes_eq (name y) n) rs)) ≡ (if bytes_eq n m then 0 else stamp_in (x ∷ rs))
      by true h rest = rest ∙ gone (bytes_eq n m) ∙ ap (λ k. if bytes_eq n m then 0 else stamp_or stamp (cond (bytes_eq k m) (Some x) (find (λ r. bytes_eq (name r) m) rs))) (sym (same_name (name x) n h))
      by false h rest = past (bytes_eq (name x) m) refl h rest

pub stamps_follow : (S : Kept) → StampsFollow S
stamps_follow S = record {
  put_table = λ t k. elim k as (λ k. look (with_kept_table t S) k ≡ (if same_key (keys.Table t.name) (record_key k) then t.stamp else look S k)) [
    | keys.Table m ↦ stamp_after_put (λ x. x.name) (λ x. x.stamp) m t S.tables
    | keys.Rows m ↦ stamp_after_put (λ x. x.name) (λ x. x.stamp) m t S.tables
    | keys.Policy m ↦ refl
    | keys.Component m ↦ refl
    | keys.User m ↦ refl
  ];
  put_policy = λ p k. elim k as (λ k. look (with_kept_policy p S) k ≡ (if same_key (keys.Policy p.name) (record_key k) then p.stamp else look S k)) [
    | keys.Table m ↦ refl
    | keys.Rows m ↦ refl
    | keys.Policy m ↦ stamp_after_put (λ x. x.name) (λ x. x.stamp) m p S.policies
    | keys.Component m ↦ refl
    | keys.User m ↦ refl
  ];
  put_component = λ c k. elim k as (λ k. look (with_kept_component c S) k ≡ (if same_key (keys.Component c.name) (record_key k) then c.stamp else look S k)) [
    | keys.Table m ↦ refl
    | keys.Rows m ↦ refl
    | keys.Policy m ↦ refl
    | keys.Component m ↦ stamp_after_put (λ x. x.name) (λ x. x.stamp) m c S.components
    | keys.User m ↦ refl
  ];
  put_user = λ u k. elim k as (λ k. look (with_kept_user u S) k ≡ (if same_key (keys.User u.name) (record_key k) then u.stamp else look S k)) [
    | keys.Table m ↦ refl
    | keys.Rows m ↦ refl
    | keys.Policy m ↦ refl
    | keys.Component m ↦ refl
    | keys.User m ↦ stamp_after_put (λ x. x.name) (λ x. x.stamp) m u S.users
  ];
  put_role = λ r k. elim k as (λ k. look (with_kept_role r S) k ≡ look S k) [
    | keys.Table m ↦ refl
    | keys.Rows m ↦ refl
    | keys.Policy m ↦ refl
    | keys.Component m ↦ refl
    | keys.User m ↦ refl
  ];
  drop_table = λ n k. elim k as (λ k. look (without_kept_table n S) k ≡ (if same_key (keys.Table n) (record_key k) then 0 else look S k)) [
    | keys.Table m ↦ stamp_after_drop (λ x. x.name) (λ x. x.stamp) m n S.tables
    | keys.Rows m ↦ stamp_after_drop (λ x. x.name) (λ x. x.stamp) m n S.tables
    | keys.Policy m ↦ refl
    | keys.Component m ↦ refl
    | keys.User m ↦ refl
  ];
  drop_policy = λ n k. elim k as (λ k. look (without_kept_policy n S) k ≡ (if same_key (keys.Policy n) (record_key k) then 0 else look S k)) [
    | keys.Table m ↦ refl
    | keys.Rows m ↦ refl
    | keys.Policy m ↦ stamp_after_drop (λ x. x.name) (λ x. x.stamp) m n S.policies
    | keys.Component m ↦ refl
    | keys.User m ↦ refl
  ];
  drop_component = λ n k. elim k as (λ k. look (without_kept_component n S) k ≡ (if same_key (keys.Component n) (record_key k) then 0 else look S k)) [
    | keys.Table m ↦ refl
    | keys.Rows m ↦ refl
    | keys.Policy m ↦ refl
    | keys.Component m ↦ stamp_after_drop (λ x. x.name) (λ x. x.stamp) m n S.components
    | keys.User m ↦ refl
  ];
  drop_role = λ n k. elim k as (λ k. look (without_kept_role n S) k ≡ look S k) [
    | keys.Table m ↦ refl
    | keys.Rows m ↦ refl
    | keys.Policy m ↦ refl
    | keys.Component m ↦ refl
    | keys.User m ↦ refl
  ];
}
