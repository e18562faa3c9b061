-- Grants to users leave a sound catalogue sound.
use Rattle.std.proofs.Common.{◌≡◌, refl, sym, ap, subst, ℕ, Bool, true, false, cond, not, List, [], ◌∷◌, map, Option, Some, None, Ok, is_some}
use Rattle.std.specs.Prelude.{find, filter, unwrap_or}
use Rattle.std.specs.List.{AllByRecursion}
use Rattle.std.specs.Str.{bytes_eq}
use Rattle.lb_label.specs.declared.exemption.Exempt.{Exempt}
use Rattle.lb_stmt.specs.declared.change.Access.{Access}
use Rattle.lb_stmt.specs.declared.change.LabelName.{LabelName}
use Rattle.lb_stmt.specs.declared.change.Exempted.{Exempted}
use Rattle.lb_stmt.specs.declared.change.Privilege.{Privilege}
use Rattle.lb_cat.specs.declared.catalog.Grant.{Grant}
use Rattle.lb_cat.specs.declared.catalog.Holding.{Holding}
use Rattle.lb_cat.specs.declared.catalog.LabelRec.{LabelRec}
use Rattle.lb_cat.specs.declared.catalog.Privileges.{Privileges}
use Rattle.lb_cat.specs.declared.refusal.Refusal.TheVariants as refusals
use Rattle.lb_cat.specs.declared.refusal.NeededPrivilege.TheVariants as needed
use Rattle.lb_rows.specs.Tables.{Tables}
use Rattle.lb_rows.specs.Lists.{put, without}
use Rattle.lb_cat.specs.Catalog.{Cat, Table, Policy, User, table_named, policy_named, label_named, is_among}
use Rattle.lb_cat.specs.Privileges.{is_grant_on, has_none, with_granted, privileges_on, with_privileges}
use Rattle.lb_cat.specs.Holdings.{is_holding_of, is_empty_holding, holding_of, no_holding, with_holding, holds_label, other_than, with_exemptions, without_exemptions}
use Rattle.lb_alter.specs.ChangeGrant.{user_or_new, reads, writes, held_refusal, if_granted, with_label, mismatch, grant_label, without_label, revoke_label, exempting, grant_exemption, revoke_exemption, with_user_privileges}
use Rattle.lb_alter.specs.ChangeTable.{has_label}
use Rattle.lb_alter.specs.Labelled.{IsPolicyLabel, HoldsLabels}
use Rattle.lb_alter.specs.Named.{AreDifferent, are_different, IfGiven, HasTable, HasPolicy, HoldsSomething, GrantsSomething}
use Rattle.lb_alter.specs.Refusing.{Changed, ◌>>◌, when, found, owner, secadm}
use Rattle.lb_cat.specs.OrRefused.{OrRefused, ◌>>=◌}
use Rattle.lb_alter.specs.Sound.{IsSound}
use Rattle.lb_alter.specs.Steady.{IsSteady}
use Rattle.lb_alter.specs.Stored.{StoredRules}
use Rattle.lb_alter.proofs.SoundUsers.{UserIsSound, LeavesSound, test_sound, grants_sound, revokes_sound, user_sound, all_put, all_filter, all_found, different_put, and_left, and_right, not_so, both}
use Rattle.lb_alter.proofs.Untouched.{or_left, or_right, named_there}

-- ---- lists

module _ {R : Type 0} (name : R → List ℕ) (test : R → Bool) where
  pub among_filter : (n : List ℕ) (xs : List R) → is_among (map name xs) n ≡ false → is_among (map name (filter test xs)) n ≡ false
  among_filter n [] h = refl
  among_filter n (x ∷ xs) h =
      elim (test x) as (λ b. is_among (map name (cond b (x ∷ filter test xs) (filter test xs))) n ≡ false) [
        | true ↦
            let off : bytes_eq (name x) n ≡ false = or_left (bytes_eq (name x) n) (is_among (map name xs) n) h in
            rw off (among_filter n xs (or_right (bytes_eq (name x) n) (is_among (map name xs) n) h))
        | false ↦ among_filter n xs (or_right (bytes_eq (name x) n) (is_among (map name xs) n) h)
      ]

  -- names stay different where records are taken away
  pub different_filter : (xs : List R) → AreDifferent (map name xs) → AreDifferent (map name (filter test xs))
  different_filter [] h = refl
  different_filter (x ∷ xs) h =
      elim (test x) as (λ b. are_different (map name (cond b (x ∷ filter test xs) (filter test xs))) ≡ true) [
        | true ↦ both _ _ (among_filter (name x) xs (not_so _ (and_left _ _ h))) (different_filter xs (and_right _ _ h))
        | false ↦ different_filter xs (and_right _ _ h)
      ]

module _ {R : Type 0} where
  -- an entry that is empty goes, another is put
  pub all_kept : (P : R → Type 0) (is : R → Bool) (r : R) (empty : Bool) (xs : List R) → AllByRecursion P xs → (empty ≡ false → P r) → AllByRecursion P (cond empty (without is xs) (put is r xs))
  all_kept P is r true xs h p = all_filter P (λ x. not (is x)) xs h
  all_kept P is r false xs h p = all_put P is r xs h (p refl)

  pub different_kept : (name : R → List ℕ) (r : R) (empty : Bool) (xs : List R) → AreDifferent (map name xs)
      → AreDifferent (map name (cond empty (without (λ x. bytes_eq (name x) (name r)) xs) (put (λ x. bytes_eq (name x) (name r)) r xs)))
  different_kept name r true xs h = different_filter name (λ x. not (bytes_eq (name x) (name r))) xs h
  different_kept name r false xs h = different_put name r xs h

-- ---- blocks

module _ (K : StoredRules) where
  pub found_then : {A : Type 0} (n : List ℕ) (o : Option A) (f : A → OrRefused Changed) → ((x : A) → o ≡ Some x → LeavesSound K (f x)) → LeavesSound K (found n o >>= f)
  found_then n None f h = record { sound = λ d e. absurd cc }
  found_then n (Some x) f h = h x refl

  owns : (user n : List ℕ) (o : Option Table) (f : Table → OrRefused Changed) → ((t : Table) → o ≡ Some t → LeavesSound K (f t))
      → LeavesSound K ((found n o >>= (λ t. when (not (bytes_eq t.owner user)) (refusals.Privilege needed.Control n) >> Ok t)) >>= f)
  owns user n None f h = record { sound = λ d e. absurd cc }
  owns user n (Some t) f h =
      elim (bytes_eq t.owner user) as (λ b. LeavesSound K ((when (not b) (refusals.Privilege needed.Control n) >> Ok t) >>= f)) [
        | true ↦ h t refl
        | false ↦ record { sound = λ d e. absurd cc }
      ]

  pub owner_then : (C : Cat) (user n : List ℕ) (f : Table → OrRefused Changed) → ((t : Table) → table_named C n ≡ Some t → LeavesSound K (f t)) → LeavesSound K (owner C user n >>= f)
  owner_then C user n f h = owns user n (table_named C n) f h

pub is_there : {A : Type 0} (o : Option A) (x : A) → o ≡ Some x → is_some o ≡ true
is_there o x e = ap is_some e

pub table_there : (C : Cat) (n : List ℕ) (t : Table) → table_named C n ≡ Some t → HasTable C t.name
table_there C n t e = subst (HasTable C) (sym (named_there (λ (x : Table). x.name) n C.tables t e)) (is_there (table_named C n) t e)

label_there : (o : Option Policy) (p : Policy) (l : List ℕ) (x : LabelRec) → o ≡ Some p → label_named p l ≡ Some x → has_label o l ≡ true
label_there o p l x e h = subst (λ (z : Option Policy). has_label z l ≡ true) (sym e) (is_there (label_named p l) x h)

module _ (K : StoredRules) (steady : IsSteady K) (C : Cat) (T : Tables) (s : IsSound K C) where
  -- ---- privileges

  pub with_privileges_sound : (n : List ℕ) (p : Privileges) → HasTable C n → (u : User) → UserIsSound C u → UserIsSound C (with_granted n p u)
  with_privileges_sound n p r u h =
      let g : Grant = record { table = n; privileges = p } in
      record {
        records = record { roles = h.records.roles; granted = all_kept (λ (x : Grant). HasTable C x.table) (is_grant_on n) g (has_none p) u.privileges h.records.granted (λ _. r); held = h.records.held };
        one = record { privileges = different_kept (λ (x : Grant). x.table) g (has_none p) u.privileges h.one.privileges; held = h.one.held };
        held = h.held;
        entries = record { privileges = all_kept GrantsSomething (is_grant_on n) g (has_none p) u.privileges h.entries.privileges (λ e. e); held = h.entries.held };
      }

  pub with_user_privileges_sound : (given : Bool) (rs : List Privilege) (n : List ℕ) → HasTable C n → (u : User) → UserIsSound C u → UserIsSound C (with_user_privileges given rs n u)
  with_user_privileges_sound given rs n r u h = with_privileges_sound n (with_privileges given rs (privileges_on n u)) r u h

  -- ---- holdings

  pub with_holding_sound : (x : Holding) → HasPolicy C x.policy → HoldsLabels C x → (u : User) → UserIsSound C u → UserIsSound C (with_holding x u)
  with_holding_sound x r l u h = record {
    records = record { roles = h.records.roles; granted = h.records.granted; held = all_kept (λ (y : Holding). HasPolicy C y.policy) (is_holding_of x.policy) x (is_empty_holding x) u.held h.records.held (λ _. r) };
    one = record { privileges = h.one.privileges; held = different_kept (λ (y : Holding). y.policy) x (is_empty_holding x) u.held h.one.held };
    held = all_kept (HoldsLabels C) (is_holding_of x.policy) x (is_empty_holding x) u.held h.held (λ _. l);
    entries = record { privileges = h.entries.privileges; held = all_kept HoldsSomething (is_holding_of x.policy) x (is_empty_holding x) u.held h.entries.held (λ e. e) };
  }

  -- a holding of the user is of the policy, and its labels are there
  pub holding_policy : (policy : List ℕ) (u : User) → (holding_of policy u).policy ≡ policy
  holding_policy policy u =
      elim (find (is_holding_of policy) u.held) as (λ o. find (is_holding_of policy) u.held ≡ o → (unwrap_or o (no_holding policy)).policy ≡ policy) [
        | None ↦ λ _. refl
        | Some x ↦ λ e. named_there (λ (y : Holding). y.policy) policy u.held x e
      ] refl

  pub holding_labels : (policy : List ℕ) (u : User) → UserIsSound C u → HoldsLabels C (holding_of policy u)
  holding_labels policy u h =
      elim (find (is_holding_of policy) u.held) as (λ o. find (is_holding_of policy) u.held ≡ o → HoldsLabels C (unwrap_or o (no_holding policy))) [
        | None ↦ λ _. record { read = tt; write = tt }
        | Some x ↦ λ e. all_found (HoldsLabels C) (is_holding_of policy) u.held x h.held e
      ] refl

  holding_there : (policy : List ℕ) (u : User) → HasPolicy C policy → HasPolicy C (holding_of policy u).policy
  holding_there policy u r = subst (HasPolicy C) (sym (holding_policy policy u)) r

  exempting_sound : (f : Exempted → Exempt → Exempt) (rule : Exempted) (policy : List ℕ) → HasPolicy C policy → (u : User) → UserIsSound C u → UserIsSound C (exempting f rule policy u)
  exempting_sound f rule policy r u h =
      let l : HoldsLabels C (holding_of policy u) = holding_labels policy u h in
      with_holding_sound (record (holding_of policy u) { exempt = f rule (holding_of policy u).exempt }) (holding_there policy u r) (record { read = l.read; write = l.write }) u h

  pub grant_exemption_sound : (user : List ℕ) (rule : Exempted) (policy n : List ℕ) → LeavesSound K (grant_exemption C T user rule policy n)
  grant_exemption_sound user rule policy n =
      test_sound K (secadm C user) _ (λ _. found_then K policy (policy_named C policy) _
      (λ p e. grants_sound K steady C T s n (exempting with_exemptions rule policy) (exempting_sound with_exemptions rule policy (is_there (policy_named C policy) p e))))

  pub revoke_exemption_sound : (user : List ℕ) (rule : Exempted) (policy n : List ℕ) → LeavesSound K (revoke_exemption C T user rule policy n)
  revoke_exemption_sound user rule policy n =
      test_sound K (secadm C user) _ (λ _. found_then K policy (policy_named C policy) _
      (λ p e. revokes_sound K steady C T s n (exempting without_exemptions rule policy) (exempting_sound without_exemptions rule policy (is_there (policy_named C policy) p e))))

  -- ---- labels

  granted_there : (P : List ℕ → Type 0) (given : Bool) (label : List ℕ) (held : Option (List ℕ)) → P label → IfGiven P held → IfGiven P (if_granted given label held)
  granted_there P true label held p h = p
  granted_there P false label held p h = h

  other_there : (P : List ℕ → Type 0) (label : List ℕ) (held : Option (List ℕ)) → IfGiven P held → IfGiven P (other_than label held)
  other_there P label None h = tt
  other_there P label (Some m) h =
      elim (bytes_eq m label) as (λ b. IfGiven P (cond b None (Some m))) [
        | true ↦ tt
        | false ↦ h
      ]

  pub grant_label_sound : (user : List ℕ) (l : LabelName) (n : List ℕ) (access : Access) → LeavesSound K (grant_label C T user l n access)
  grant_label_sound user l n access =
      test_sound K (secadm C user) _ (λ _. found_then K l.policy (policy_named C l.policy) _
      (λ p e. found_then K l.label (label_named p l.label) _
      (λ x i.
      let u : User = user_or_new C n in
      let h : Holding = holding_of l.policy u in
      let held : HoldsLabels C h = holding_labels l.policy u (user_sound K C n s) in
      let here : IsPolicyLabel C h.policy l.label = subst (λ (q : List ℕ). IsPolicyLabel C q l.label) (sym (holding_policy l.policy u)) (label_there (policy_named C l.policy) p l.label x e i) in
      test_sound K (held_refusal (reads access) l.label h.read) _ (λ _. test_sound K (held_refusal (writes access) l.label h.write) _ (λ _. test_sound K (mismatch p (with_label access l.label h)) _
      (λ _. grants_sound K steady C T s n (with_holding (with_label access l.label h))
      (with_holding_sound (with_label access l.label h) (holding_there l.policy u (is_there (policy_named C l.policy) p e))
      (record { read = granted_there (IsPolicyLabel C h.policy) (reads access) l.label h.read here held.read; write = granted_there (IsPolicyLabel C h.policy) (writes access) l.label h.write here held.write }))))))))

  pub revoke_label_sound : (user : List ℕ) (l : LabelName) (n : List ℕ) → LeavesSound K (revoke_label C T user l n)
  revoke_label_sound user l n =
      test_sound K (secadm C user) _ (λ _. found_then K l.policy (policy_named C l.policy) _
      (λ p e. found_then K l.label (label_named p l.label) _
      (λ x i.
      let u : User = user_or_new C n in
      let h : Holding = holding_of l.policy u in
      let held : HoldsLabels C h = holding_labels l.policy u (user_sound K C n s) in
      test_sound K (when (not (holds_label l.label h)) (refusals.Unknown l.label)) _
      (λ _. revokes_sound K steady C T s n (with_holding (without_label l.label h))
      (with_holding_sound (without_label l.label h) (holding_there l.policy u (is_there (policy_named C l.policy) p e))
      (record { read = other_there (IsPolicyLabel C h.policy) l.label h.read held.read; write = other_there (IsPolicyLabel C h.policy) l.label h.write held.write }))))))
