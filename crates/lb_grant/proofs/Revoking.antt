-- The revoke of a label, step after step.
use Rattle.std.proofs.Common.{ℕ, ◌≡◌, ap, sym, subst, Bool, true, false, not, List, [], ◌∷◌, Option, None, Some, Ok, Err}
use Rattle.std.specs.Prelude.{Result, unwrap_or}
use Rattle.lb_base.specs.declared.key.Key.TheVariants as keys
use Rattle.lb_stmt.specs.declared.change.LabelName.{LabelName}
use Rattle.lb_cat.specs.declared.catalog.Holding.{Holding}
use Rattle.lb_cat.specs.declared.catalog.LabelRec.{LabelRec}
use Rattle.lb_cat.specs.declared.catalog.UserRec.{UserRec}
use Rattle.lb_cat.specs.declared.refusal.Refusal.{Refusal}
use Rattle.lb_cat.specs.declared.refusal.Refusal.TheVariants as refusals
use Rattle.lb_cat.specs.Catalog.{Cat, Policy, User, no_user, put_user, user_named}
use Rattle.lb_cat.specs.Holdings.{holding_of, holds_label, with_holding}
use Rattle.lb_cat.specs.OrRefused.{OrRefused, ◌>>=◌}
use Rattle.lb_cat.specs.Stamps.{Kept, bare, bare_user}
use Rattle.lb_rows.specs.Tables.{Tables}
use Rattle.lb_alter.specs.ChangeGrant.{revoke_label, taken_from, without_label}
use Rattle.lb_alter.specs.Refusing.{◌>>◌, Changed, done, secadm, the_label, the_policy, when}
use Rattle.lb_changed.specs.declared.changed.Changed.{Changed as Made}
use Rattle.lb_changed.specs.declared.stop.Stop.{Stop}
use Rattle.lb_changed.specs.declared.stop.Stop.TheVariants as stops
use Rattle.lb_changed.specs.Given.{IsRefused, StopsFor}
use Rattle.lb_changed.specs.Made.{Makes}
use Rattle.lb_grant.specs.Labelling.{label_revoked}
use Rattle.lb_changed.proofs.Steps.{makes_none}

-- the test and what is made, of a user who may have no record
abbrev pub revoked_from : Cat → Tables → LabelName → List ℕ → Option User → OrRefused Changed
revoked_from C T l n o =
    when (not (holds_label l.label (holding_of l.policy (unwrap_or o (no_user n))))) (refusals.Unknown l.label)
    >> done (taken_from C o (with_holding (without_label l.label (holding_of l.policy (unwrap_or o (no_user n)))))) T (keys.User n ∷ [])

-- once user, policy and label are right, the rest decides
pub revoke_goes_on : (K : Kept) (T : Tables) (result : Result Made Stop) (user : List ℕ) (l : LabelName) (n : List ℕ) (p : Policy) (x : LabelRec)
    → secadm (bare K) user ≡ None → the_policy (bare K) l.policy ≡ Ok p → the_label p l.label ≡ Ok x
    → Makes K T (revoked_from (bare K) T l n (user_named (bare K) n)) result → Makes K T (revoke_label (bare K) T user l n) result
revoke_goes_on K T result user l n p x may policy label h =
    let rest : OrRefused Changed = revoked_from (bare K) T l n (user_named (bare K) n) in
    subst (λ (t : Option Refusal). Makes K T (t >> (the_policy (bare K) l.policy >>= (λ (q : Policy). the_label q l.label >>= (λ (y : LabelRec). rest)))) result) (sym may)
    (subst (λ (g : OrRefused Policy). Makes K T (g >>= (λ (q : Policy). the_label q l.label >>= (λ (y : LabelRec). rest))) result) (sym policy)
    (subst (λ (g : OrRefused LabelRec). Makes K T (g >>= (λ (y : LabelRec). rest)) result) (sym label) h))

-- from a user who has a record
pub label_taken : (K : Kept) (T : Tables) (result : Result Made Stop) (l : LabelName) (n : List ℕ) (u : User) → Some u ≡ user_named (bare K) n → u.name ≡ n
    → Makes K T (label_revoked (bare K) T l u) result → Makes K T (revoked_from (bare K) T l n (user_named (bare K) n)) result
label_taken K T result l n u there name h =
    subst (λ (o : Option User). Makes K T (revoked_from (bare K) T l n o) result) there
    (subst (λ (m : List ℕ). Makes K T (when (not (holds_label l.label (holding_of l.policy u))) (refusals.Unknown l.label) >> done (put_user (with_holding (without_label l.label (holding_of l.policy u)) u) (bare K)) T (keys.User m ∷ [])) result) name h)

refused_so : (r : Refusal) (s : Stop) → StopsFor r s → IsRefused {A = Changed} (Err r) s
refused_so r (stops.Refused q) h = ap Err (sym h)
refused_so r stops.NoMemory h = tt

-- from one who has none
pub label_not_held : (K : Kept) (T : Tables) (l : LabelName) (n : List ℕ) (s : Stop) → None ≡ user_named (bare K) n → StopsFor (refusals.Unknown l.label) s
    → Makes K T (revoked_from (bare K) T l n (user_named (bare K) n)) (Err s)
label_not_held K T l n s none h =
    subst (λ (o : Option User). Makes K T (revoked_from (bare K) T l n o) (Err s)) none (makes_none K T (revoked_from (bare K) T l n None) s (refused_so (refusals.Unknown l.label) s h))

-- a label that is held goes
pub label_left : (K : Kept) (T : Tables) (result : Result Made Stop) (l : LabelName) (u v : UserRec) (held : Holding) → held ≡ holding_of l.policy (bare_user u) → holds_label l.label held ≡ true
    → bare_user v ≡ with_holding (without_label l.label held) (bare_user u) → v.name ≡ u.name
    → Makes K T (done (put_user (bare_user v) (bare K)) T (keys.User v.name ∷ [])) result → Makes K T (label_revoked (bare K) T l (bare_user u)) result
label_left K T result l u v held is holds same name h =
    subst (λ (x : Holding). Makes K T (when (not (holds_label l.label x)) (refusals.Unknown l.label) >> done (put_user (with_holding (without_label l.label x) (bare_user u)) (bare K)) T (keys.User u.name ∷ [])) result) is
    (subst (λ (b : Bool). Makes K T (when (not b) (refusals.Unknown l.label) >> done (put_user (with_holding (without_label l.label held) (bare_user u)) (bare K)) T (keys.User u.name ∷ [])) result) (sym holds)
    (subst (λ (m : List ℕ). Makes K T (done (put_user (with_holding (without_label l.label held) (bare_user u)) (bare K)) T (keys.User m ∷ [])) result) name
    (subst (λ (w : User). Makes K T (done (put_user w (bare K)) T (keys.User v.name ∷ [])) result) same h)))

-- one that isn't held is unknown
pub label_kept : (K : Kept) (T : Tables) (l : LabelName) (u : UserRec) (held : Holding) (s : Stop) → held ≡ holding_of l.policy (bare_user u) → holds_label l.label held ≡ false
    → StopsFor (refusals.Unknown l.label) s → Makes K T (label_revoked (bare K) T l (bare_user u)) (Err s)
label_kept K T l u held s is holds h =
    subst (λ (x : Holding). Makes K T (when (not (holds_label l.label x)) (refusals.Unknown l.label) >> done (put_user (with_holding (without_label l.label x) (bare_user u)) (bare K)) T (keys.User u.name ∷ [])) (Err s)) is
    (subst (λ (b : Bool). Makes K T (when (not b) (refusals.Unknown l.label) >> done (put_user (with_holding (without_label l.label held) (bare_user u)) (bare K)) T (keys.User u.name ∷ [])) (Err s)) (sym holds)
    (makes_none K T (Err (refusals.Unknown l.label)) s (refused_so (refusals.Unknown l.label) s h)))
