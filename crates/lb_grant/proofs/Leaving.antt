-- What is left of a user to whom something is granted, or from whom something is taken.
use Rattle.std.proofs.Common.{ℕ, ◌≡◌, subst, List, [], ◌∷◌, Option, None, Some}
use Rattle.std.specs.Prelude.{Result}
use Rattle.lb_base.specs.declared.key.Key.{Key}
use Rattle.lb_base.specs.declared.key.Key.TheVariants as keys
use Rattle.lb_cat.specs.declared.reply.Reply.TheVariants as replies
use Rattle.lb_cat.specs.declared.catalog.UserRec.{UserRec}
use Rattle.lb_cat.specs.Catalog.{Cat, User, user_named, put_user}
use Rattle.lb_cat.specs.Stamps.{Kept, bare, bare_user}
use Rattle.lb_rows.specs.Tables.{Tables}
use Rattle.lb_alter.specs.ChangeGrant.{grants, revokes, taken_from, user_or_new}
use Rattle.lb_alter.specs.Refusing.{done}
use Rattle.lb_changed.specs.declared.changed.Changed.{Changed as Made}
use Rattle.lb_changed.specs.declared.stop.Stop.{Stop}
use Rattle.lb_changed.specs.Made.{IsMade, Makes}

-- what is made, with the catalogue and the keys said another way
pub made_so : (K : Kept) (T : Tables) (C D : Cat) (ks ls : List Key) (made : Made) → C ≡ D → ks ≡ ls
    → IsMade K T (record { cat = C; tables = T; touched = ks; reply = replies.Done }) made → IsMade K T (record { cat = D; tables = T; touched = ls; reply = replies.Done }) made
made_so K T C D ks ls made same keys h =
    subst (λ (E : Cat). IsMade K T (record { cat = E; tables = T; touched = ls; reply = replies.Done }) made) same
    (subst (λ (js : List Key). IsMade K T (record { cat = C; tables = T; touched = js; reply = replies.Done }) made) keys h)

module _ (K : Kept) (T : Tables) (result : Result Made Stop) (n : List ℕ) (f : User → User) where
  -- the user is left with this record
  abbrev pub IsLeft : UserRec → Type 0
  IsLeft u = Makes K T (done (put_user (bare_user u) (bare K)) T (keys.User u.name ∷ [])) result

  left_so : (u : UserRec) (said : User) → bare_user u ≡ said → u.name ≡ n → IsLeft u → Makes K T (done (put_user said (bare K)) T (keys.User n ∷ [])) result
  left_so u said same name h =
      subst (λ (m : List ℕ). Makes K T (done (put_user said (bare K)) T (keys.User m ∷ [])) result) name
      (subst (λ (v : User). Makes K T (done (put_user v (bare K)) T (keys.User u.name ∷ [])) result) same h)

  -- after a grant
  pub granted : (u : UserRec) → bare_user u ≡ f (user_or_new (bare K) n) → u.name ≡ n → IsLeft u → Makes K T (grants (bare K) T n f) result
  granted u same name h = left_so u (f (user_or_new (bare K) n)) same name h

  -- after a revoke
  pub revoked : (u : UserRec) (old : User) → Some old ≡ user_named (bare K) n → bare_user u ≡ f old → u.name ≡ n → IsLeft u → Makes K T (revokes (bare K) T n f) result
  revoked u old there same name h = subst (λ (v : Option User). Makes K T (done (taken_from (bare K) v f) T (keys.User n ∷ [])) result) there (left_so u (f old) same name h)

  -- after a revoke from a name without record
  pub revoked_none : None ≡ user_named (bare K) n → Makes K T (done (bare K) T (keys.User n ∷ [])) result → Makes K T (revokes (bare K) T n f) result
  revoked_none none h = subst (λ (v : Option User). Makes K T (done (taken_from (bare K) v f) T (keys.User n ∷ [])) result) none h
