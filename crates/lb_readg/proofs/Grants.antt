-- The readers of GRANT and REVOKE are exact for their productions.
use Rattle.std.proofs.Common.{Bool, true, false, ◌⊎◌, inl, inr, ◌≡◌, ℕ, List, [], ◌++◌, refl, sym, ap, subst, ◌∙◌}
use Rattle.lb_stmt.specs.declared.change.Access.TheVariants as accesses
use Rattle.lb_base.specs.declared.rule.Rule.TheVariants as rules
use Rattle.lb_stmt.specs.declared.change.Exempted.TheVariants as exempted
use Rattle.lb_stmt.specs.declared.change.Privilege.{Privilege}
use Rattle.lb_stmt.specs.declared.change.Privilege.TheVariants as privileges
use Rattle.lb_stmt.specs.declared.change.Grantee.{Grantee}
use Rattle.lb_stmt.specs.declared.change.Grantee.TheVariants as grantees
use Rattle.lb_stmt.specs.declared.change.Change.{Change}
use Rattle.lb_stmt.specs.declared.change.Change.TheVariants as changes
use Rattle.lb_tok.specs.declared.kind.Kind.TheVariants as kinds
use Rattle.lb_tok.specs.declared.token.Token.{Token}
use Rattle.lb_tok.specs.Kinds.{Kinds, only, names}
use Rattle.lb_tok.specs.Form.{Below, Lang, Nothing, Seq, Either, Word, After, Made, Means, May, Listed}
use Rattle.lb_tok.specs.Grammar.{IsName}
use Rattle.lb_tok.specs.Changes.{Named, AfterNamed, IsUser, IsGrantee, IsLabelName, IsAccess, IsRule, IsRuleOf, IsRight, IsPrivilegesOn, IsGrant, IsRevoke}
use Rattle.lb_readt.proofs.Joined.{Within}
use Rattle.lb_readt.proofs.Combined.{IsReaderOf, give_reads, then_reads, same_reads, pick_reads, wide, made_reads, after_reads, means_reads, may_reads, listed_reads}
use Rattle.lb_readt.proofs.Tokens.{name_reads}
use Rattle.lb_readt.proofs.Languages.{nil, ends, made_is, made_of}
use Rattle.lb_readg.specs.Granting.{user_at, in_grantee, spelt_grantee_at, grantee_at, which_access_at, access_at, down_or_up_at, rule_at, rule_of_at, privilege_at, privileges_at, granted_on, third_on, second_to_on, second_on, first_on, grant_privileges_at, revoked_on, revoked_table_on, revoke_privileges_at, grant_label_at, grant_exemption_at, grant_role_at, grant_secadm_at, grant_at, revoke_label_at, revoke_exemption_at, revoke_role_at, revoke_secadm_at, revoke_at}
use Rattle.lb_readg.proofs.Names.{Ahead, Chosen, MayAfter, named_reads, ahead_reads, to_may, of_may}
use Rattle.lb_readg.proofs.LabelNames.{label_name_reads}

-- ---- users

user_reads : {b : Bool} {d : ℕ} → IsReaderOf b d user_at IsUser false (only kinds.User ++ names) []
unfolding user_at
user_reads = wide _ _ refl refl refl (then_reads (may_reads kinds.User refl) (λ _. name_reads) refl)

grantee_reads : {b : Bool} {d : ℕ} → IsReaderOf b d grantee_at IsGrantee false in_grantee []
unfolding grantee_at
grantee_reads = wide _ _ refl refl refl (pick_reads (means_reads kinds.Public grantees.Public refl) (made_reads grantees.User user_reads) refl)

-- PUBLIC | USER name
abbrev Spelt : Lang Grantee
Spelt = Either (Means kinds.Public grantees.Public) (After kinds.User (Made grantees.User IsName))

spelt_reads : {b : Bool} {d : ℕ} → IsReaderOf b d spelt_grantee_at Spelt false (only kinds.Public ++ only kinds.User) []
unfolding spelt_grantee_at
spelt_reads = wide _ _ refl refl refl (pick_reads (means_reads kinds.Public grantees.Public refl) (after_reads kinds.User refl (made_reads grantees.User name_reads)) refl)

to_grantee : Within Spelt IsGrantee
to_grantee s ts x (inl p) = inl p
to_grantee s ts x (inr p) =
    let m = made_of grantees.User IsName s p.1 x p.4 in
    inr (ts, [], m.0, (p.0, p.1, tt, inl p.3, m.1, p.5), (refl, m.2), sym (nil ts))

a_user : (s : Below) (ts : List Token) (n : List ℕ) → IsName s ts n → IsGrantee s ts (grantees.User n)
a_user s ts n p = inr (made_is grantees.User IsUser s ts n ([], ts, tt, inr (refl, refl), p, refl))

of_grantee : (s : Below) (ts : List Token) (x : Grantee) → IsGrantee s ts x → Spelt s ts x ⊎ ((n : List ℕ) × IsName s ts n × (x ≡ grantees.User n))
of_grantee s ts x (inl p) = inl (inl p)
of_grantee s ts x (inr p) = let m = made_of grantees.User IsUser s ts x p in go m.0 m.2 m.1 m.1.3
  where
    go : (n : List ℕ) → x ≡ grantees.User n → (u : IsUser s ts n) → May kinds.User s u.0 u.2 → Spelt s ts x ⊎ ((n : List ℕ) × IsName s ts n × (x ≡ grantees.User n))
    go n e u (inl w) = inl (inr (u.0, u.1, tt, w, (u.1, [], n, u.4, (refl, e), sym (nil u.1)), u.5))
    go n e u (inr w) = inr (n, subst (λ (v : List Token). IsName s v n) (sym (u.5 ∙ ap (λ (v : List Token). v ++ u.1) w.0)) u.4, e)

-- ---- rules and privileges

access_reads : {b : Bool} {d : ℕ} → IsReaderOf b d access_at IsAccess true (only kinds.For) (only kinds.For)
unfolding access_at which_access_at
access_reads = wide _ _ refl refl refl (pick_reads
    (after_reads kinds.For refl (then_reads (pick_reads (means_reads kinds.All accesses.All refl) (pick_reads (means_reads kinds.Read accesses.Read refl) (means_reads kinds.Write accesses.Write refl) refl) refl) (λ a. means_reads kinds.Access a refl) refl))
    (give_reads accesses.All) refl)

abbrev in_rule : Kinds
in_rule = only kinds.Db2LbacReadArray ++ only kinds.Db2LbacReadSet ++ only kinds.Db2LbacReadTree ++ only kinds.Db2LbacWriteArray ++ only kinds.Db2LbacWriteSet ++ only kinds.Db2LbacWriteTree ++ only kinds.All

rule_reads : {b : Bool} {d : ℕ} → IsReaderOf b d rule_at IsRule false in_rule []
unfolding rule_at down_or_up_at
rule_reads = wide _ _ refl refl refl (
    pick_reads (means_reads kinds.Db2LbacReadArray (exempted.Rule rules.ReadArray) refl)
    (pick_reads (means_reads kinds.Db2LbacReadSet (exempted.Rule rules.ReadSet) refl)
    (pick_reads (means_reads kinds.Db2LbacReadTree (exempted.Rule rules.ReadTree) refl)
    (pick_reads (after_reads kinds.Db2LbacWriteArray refl (pick_reads (means_reads kinds.WriteDown (exempted.Rule rules.WriteDown) refl) (means_reads kinds.WriteUp (exempted.Rule rules.WriteUp) refl) refl))
    (pick_reads (means_reads kinds.Db2LbacWriteSet (exempted.Rule rules.WriteSet) refl)
    (pick_reads (means_reads kinds.Db2LbacWriteTree (exempted.Rule rules.WriteTree) refl)
    (means_reads kinds.All exempted.All refl) refl) refl) refl) refl) refl) refl)

rule_of_reads : {b : Bool} {d : ℕ} → IsReaderOf b d rule_of_at IsRuleOf false (only kinds.On) []
unfolding rule_of_at
rule_of_reads = wide _ _ refl refl refl (after_reads kinds.On refl (after_reads kinds.Rule refl (then_reads rule_reads (λ r. after_reads kinds.For refl (made_reads (λ p. (r, p)) name_reads)) refl)))

abbrev in_right : Kinds
in_right = only kinds.Select ++ only kinds.Insert ++ only kinds.Update ++ only kinds.Delete

privilege_reads : {b : Bool} {d : ℕ} → IsReaderOf b d privilege_at IsRight false in_right []
unfolding privilege_at
privilege_reads = wide _ _ refl refl refl (pick_reads (means_reads kinds.Select privileges.Select refl) (pick_reads (means_reads kinds.Insert privileges.Insert refl) (pick_reads (means_reads kinds.Update privileges.Update refl) (means_reads kinds.Delete privileges.Delete refl) refl) refl) refl)

privileges_reads : {b : Bool} {d : ℕ} → IsReaderOf b d privileges_at (Listed IsRight) false in_right (only kinds.Comma)
unfolding privileges_at
privileges_reads = wide _ _ refl refl refl (listed_reads privilege_reads refl)

-- ---- GRANT privileges

-- after TO
abbrev Given : List Privilege → List ℕ → Lang Change
Given rs t = Made (changes.GrantPrivileges rs t) IsGrantee

-- after the table
abbrev GrantedOn : List Privilege → List ℕ → Lang Change
GrantedOn rs t = AfterNamed kinds.To (Given rs t)

granted_reads : {b : Bool} {d : ℕ} (rs : List Privilege) (t : List ℕ) → IsReaderOf b d (granted_on rs t) (GrantedOn rs t) false (only kinds.To) []
unfolding granted_on
granted_reads rs t = wide _ _ refl refl refl (then_reads (named_reads kinds.To refl) (λ _. made_reads (changes.GrantPrivileges rs t) grantee_reads) refl)

-- a user is all that follows
abbrev UserAlone : List Privilege → List ℕ → List ℕ → Lang Change
UserAlone rs t u = Nothing (changes.GrantPrivileges rs t (grantees.User u))

third_reads : {b : Bool} {d : ℕ} (rs : List Privilege) (t n : List ℕ) (p : Bool × List ℕ) → IsReaderOf b d (third_on rs t n p) (Chosen (Given rs n) (UserAlone rs t) p) true in_grantee in_grantee
unfolding third_on
third_reads rs t n (true, u) = wide _ _ refl refl refl (pick_reads (made_reads (changes.GrantPrivileges rs n) grantee_reads) (give_reads (changes.GrantPrivileges rs t (grantees.User u))) refl)
third_reads rs t n (false, u) = wide _ _ refl refl refl (give_reads (changes.GrantPrivileges rs t (grantees.User u)))

-- after TABLE TO
abbrev SecondTo : List Privilege → List ℕ → List ℕ → Lang Change
SecondTo rs t n = Either (Made (changes.GrantPrivileges rs t) Spelt) (Ahead kinds.To (Given rs n) (UserAlone rs t))

to_second : (rs : List Privilege) (t n : List ℕ) → Within (SecondTo rs t n) (Either (Given rs t) (GrantedOn rs n))
to_second rs t n s ts x (inl p) = let m = made_of (changes.GrantPrivileges rs t) Spelt s ts x p in inl (ts, [], m.0, to_grantee s ts m.0 m.1, (refl, m.2), sym (nil ts))
to_second rs t n s ts x (inr (inl p)) = inr p
to_second rs t n s ts x (inr (inr p)) = inl (ts, [], grantees.User p.2, a_user s ts p.2 (subst (λ (u : List Token). IsName s u p.2) (ends ts p.0 p.1 p.5 p.4.0) p.3), (refl, p.4.1), sym (nil ts))

of_second : (rs : List Privilege) (t n : List ℕ) → Within (Either (Given rs t) (GrantedOn rs n)) (SecondTo rs t n)
of_second rs t n s ts x (inr p) = inr (inl p)
of_second rs t n s ts x (inl p) = let m = made_of (changes.GrantPrivileges rs t) IsGrantee s ts x p in go m.0 m.2 (of_grantee s ts m.0 m.1)
  where
    go : (g : Grantee) → x ≡ changes.GrantPrivileges rs t g → Spelt s ts g ⊎ ((n : List ℕ) × IsName s ts n × (g ≡ grantees.User n)) → SecondTo rs t n s ts x
    go g e (inl q) = inl (ts, [], g, q, (refl, e), sym (nil ts))
    go g e (inr q) = inr (inr (ts, [], q.0, q.1, (refl, e ∙ ap (λ (h : Grantee). changes.GrantPrivileges rs t h) q.2), sym (nil ts)))

abbrev in_second : Kinds
in_second = in_grantee ++ only kinds.To

second_to_reads : {b : Bool} {d : ℕ} (rs : List Privilege) (t n : List ℕ) → IsReaderOf b d (second_to_on rs t n) (Either (Given rs t) (GrantedOn rs n)) false in_second in_grantee
unfolding second_to_on
second_to_reads rs t n = wide _ _ refl refl refl (same_reads (Either (Given rs t) (GrantedOn rs n)) (to_second rs t n) (of_second rs t n) (pick_reads (made_reads (changes.GrantPrivileges rs t) spelt_reads) (ahead_reads kinds.To (Given rs n) (UserAlone rs t) refl (third_reads rs t n) refl) refl))

second_reads : {b : Bool} {d : ℕ} (rs : List Privilege) (t : List ℕ) (p : Bool × List ℕ) → IsReaderOf b d (second_on rs t p) (Chosen (Given rs t) (GrantedOn rs) p) false in_second in_grantee
unfolding second_on
second_reads rs t (true, n) = second_to_reads rs t n
second_reads rs t (false, n) = wide _ _ refl refl refl (granted_reads rs n)

-- after TABLE, which may be the table
abbrev Second : List Privilege → List ℕ → Lang Change
Second rs t = Either (Seq IsName (GrantedOn rs)) (GrantedOn rs t)

swap_in : {A : Type 0} (P Q : Lang A) → Within (Either P Q) (Either Q P)
swap_in P Q s ts x (inl p) = inr p
swap_in P Q s ts x (inr p) = inl p

first_reads : {b : Bool} {d : ℕ} (rs : List Privilege) (p : Bool × List ℕ) → IsReaderOf b d (first_on rs p) (Chosen (Seq IsName (GrantedOn rs)) (GrantedOn rs) p) false names in_grantee
unfolding first_on
first_reads rs (true, t) = wide _ _ refl refl refl (same_reads (Second rs t) (swap_in (GrantedOn rs t) (Seq IsName (GrantedOn rs))) (swap_in (Seq IsName (GrantedOn rs)) (GrantedOn rs t)) (ahead_reads kinds.To (Given rs t) (GrantedOn rs) refl (second_reads rs t) refl))
first_reads rs (false, t) = wide _ _ refl refl refl (granted_reads rs t)

grant_privileges_reads : {b : Bool} {d : ℕ} → IsReaderOf b d grant_privileges_at (IsPrivilegesOn changes.GrantPrivileges (Named kinds.To)) false in_right in_grantee
unfolding grant_privileges_at
grant_privileges_reads = wide _ _ refl refl refl (then_reads privileges_reads (λ rs. after_reads kinds.On refl
    (same_reads (MayAfter kinds.Table (Seq IsName (GrantedOn rs))) (to_may kinds.Table (Seq IsName (GrantedOn rs))) (of_may kinds.Table (Seq IsName (GrantedOn rs))) (ahead_reads kinds.Table (Seq IsName (GrantedOn rs)) (GrantedOn rs) refl (first_reads rs) refl))) refl)

-- ---- REVOKE privileges

abbrev RevokedOn : List Privilege → List ℕ → Lang Change
RevokedOn rs t = After kinds.From (Made (changes.RevokePrivileges rs t) IsGrantee)

revoked_reads : {b : Bool} {d : ℕ} (rs : List Privilege) (t : List ℕ) → IsReaderOf b d (revoked_on rs t) (RevokedOn rs t) false (only kinds.From) []
unfolding revoked_on
revoked_reads rs t = after_reads kinds.From refl (made_reads (changes.RevokePrivileges rs t) grantee_reads)

revoked_table_reads : {b : Bool} {d : ℕ} (rs : List Privilege) (p : Bool × List ℕ) → IsReaderOf b d (revoked_table_on rs p) (Chosen (Seq IsName (RevokedOn rs)) (RevokedOn rs) p) false (names ++ only kinds.From) []
unfolding revoked_table_on
revoked_table_reads rs (true, t) = wide _ _ refl refl refl (pick_reads (then_reads name_reads (revoked_reads rs) refl) (revoked_reads rs t) refl)
revoked_table_reads rs (false, t) = wide _ _ refl refl refl (revoked_reads rs t)

revoke_privileges_reads : {b : Bool} {d : ℕ} → IsReaderOf b d revoke_privileges_at (IsPrivilegesOn changes.RevokePrivileges (Word kinds.From)) false in_right []
unfolding revoke_privileges_at
revoke_privileges_reads = wide _ _ refl refl refl (then_reads privileges_reads (λ rs. after_reads kinds.On refl
    (same_reads (MayAfter kinds.Table (Seq IsName (RevokedOn rs))) (to_may kinds.Table (Seq IsName (RevokedOn rs))) (of_may kinds.Table (Seq IsName (RevokedOn rs))) (ahead_reads kinds.Table (Seq IsName (RevokedOn rs)) (RevokedOn rs) refl (revoked_table_reads rs) refl))) refl)

-- ---- all grants

abbrev in_grant : Kinds
in_grant = only kinds.Security ++ only kinds.Exemption ++ only kinds.Role ++ only kinds.Secadm ++ in_right

abbrev pub after_grant : Kinds
after_grant = only kinds.For ++ in_grantee

abbrev GrantLabel : Lang Change
GrantLabel = After kinds.Label (Seq IsLabelName (λ l. After kinds.To (Seq IsUser (λ u. Made (changes.GrantLabel l u) IsAccess))))

grant_label_reads : {b : Bool} {d : ℕ} → IsReaderOf b d grant_label_at GrantLabel false (only kinds.Label) (only kinds.For)
unfolding grant_label_at
grant_label_reads = wide _ _ refl refl refl (after_reads kinds.Label refl (then_reads label_name_reads (λ l. after_reads kinds.To refl (then_reads user_reads (λ u. made_reads (changes.GrantLabel l u) access_reads) refl)) refl))

pub grant_reads : {b : Bool} {d : ℕ} → IsReaderOf b d grant_at IsGrant false in_grant after_grant
unfolding grant_at grant_exemption_at grant_role_at grant_secadm_at
grant_reads = wide _ _ refl refl refl (pick_reads (after_reads kinds.Security refl grant_label_reads)
    (pick_reads (after_reads kinds.Exemption refl (then_reads rule_of_reads (λ r. after_reads kinds.To refl (made_reads (changes.GrantExemption r.0 r.1) user_reads)) refl))
    (pick_reads (after_reads kinds.Role refl (then_reads name_reads (λ r. after_reads kinds.To refl (made_reads (changes.GrantRole r) user_reads)) refl))
    (pick_reads (after_reads kinds.Secadm refl (after_reads kinds.On refl (after_reads kinds.Database refl (after_reads kinds.To refl (made_reads changes.GrantSecadm user_reads)))))
    grant_privileges_reads refl) refl) refl) refl)

pub revoke_reads : {b : Bool} {d : ℕ} → IsReaderOf b d revoke_at IsRevoke false in_grant []
unfolding revoke_at revoke_label_at revoke_exemption_at revoke_role_at revoke_secadm_at
revoke_reads = wide _ _ refl refl refl (pick_reads (after_reads kinds.Security refl (after_reads kinds.Label refl (then_reads label_name_reads (λ l. after_reads kinds.From refl (made_reads (changes.RevokeLabel l) user_reads)) refl)))
    (pick_reads (after_reads kinds.Exemption refl (then_reads rule_of_reads (λ r. after_reads kinds.From refl (made_reads (changes.RevokeExemption r.0 r.1) user_reads)) refl))
    (pick_reads (after_reads kinds.Role refl (then_reads name_reads (λ r. after_reads kinds.From refl (made_reads (changes.RevokeRole r) user_reads)) refl))
    (pick_reads (after_reads kinds.Secadm refl (after_reads kinds.On refl (after_reads kinds.Database refl (after_reads kinds.From refl (made_reads changes.RevokeSecadm user_reads)))))
    revoke_privileges_reads refl) refl) refl) refl)
