-- How a split divides own places: both parts are known of the history again, and the last own place may be given where it is its own root.
use Rattle.std.proofs.Common.{◌≡◌, ◌⊎◌, inl, inr, ⊎_elim, ℕ, zero, suc, ◌<◌, ◌≤◌, Bool, true, false, true≢false, nat_lt, cond, List, [], ◌∷◌, ◌++◌, length, Result, Ok, Err, IfOk, OnOk, refl, sym, ap, ◌∙◌, subst, arith}
use Rattle.std.specs.List.{Contains, filter}
use Rattle.std.proofs.lemmas.Bool.Decides.{nat_tests}
use mathlib.Core.Logic.{dite}
use native.Mathlib.Decide.{ℕ_discrete}
use Rattle.lb_turn.specs.declared.rule.Known.{Known}
use Rattle.lb_turn.specs.declared.pass.Pass.{Pass}
use Rattle.lb_turn.specs.Passes.{known_by, own_by}
use Rattle.lb_turn.specs.Known.{known, greatest, last_of, before_last, IsKnown, IsLastRoot, Divides}
use Rattle.lb_turn.proofs.Places.{not_in_none, in_one, is_one}

in_first : (x : ℕ) (xs : List ℕ) → Contains (x ∷ xs) x
in_first x xs = (0, omega arith, refl)

in_more : (x : ℕ) (xs : List ℕ) (y : ℕ) → Contains xs y → Contains (x ∷ xs) y
in_more x xs y c = (suc c.0, omega (arith, c.1), c.2)

in_either : (x : ℕ) (xs : List ℕ) (y : ℕ) → Contains (x ∷ xs) y → (x ≡ y) ⊎ Contains xs y
in_either x xs y (zero, lt, e) = inl e
in_either x xs y (suc k, lt, e) = inr (k, omega arith, e)

-- one element of what a filter keeps
kept_one : (f : ℕ → Bool) (x : ℕ) (xs : List ℕ) (p : ℕ) (b : Bool) → f x ≡ b → (Contains (filter f xs) p → Contains xs p × (f p ≡ true))
    → Contains (cond b (x ∷ filter f xs) (filter f xs)) p → Contains (x ∷ xs) p × (f p ≡ true)
kept_one f x xs p true e rest c = ⊎_elim
    (λ same. (subst (Contains (x ∷ xs)) same (in_first x xs), subst (λ q. f q ≡ true) same e))
    (λ more. let k = rest more in (in_more x xs p k.0, k.1))
    (in_either x (filter f xs) p c)
kept_one f x xs p false e rest c = let k = rest c in (in_more x xs p k.0, k.1)

in_filter : (f : ℕ → Bool) (xs : List ℕ) (p : ℕ) → Contains (filter f xs) p → Contains xs p × (f p ≡ true)
in_filter f [] p c = absurd (not_in_none p c)
in_filter f (x ∷ xs) p c = kept_one f x xs p (f x) refl (in_filter f xs p) c

keeps_one : (f : ℕ → Bool) (x : ℕ) (xs : List ℕ) (p : ℕ) (b : Bool) → f x ≡ b → f p ≡ true → (Contains xs p → Contains (filter f xs) p)
    → Contains (x ∷ xs) p → Contains (cond b (x ∷ filter f xs) (filter f xs)) p
keeps_one f x xs p true e passes rest c = ⊎_elim
    (λ same. subst (Contains (x ∷ filter f xs)) same (in_first x (filter f xs)))
    (λ more. in_more x (filter f xs) p (rest more))
    (in_either x xs p c)
keeps_one f x xs p false e passes rest c = ⊎_elim
    (λ same. absurd (true≢false (sym passes ∙ (ap f (sym same) ∙ e))))
    (λ more. rest more)
    (in_either x xs p c)

to_filter : (f : ℕ → Bool) (xs : List ℕ) (p : ℕ) → f p ≡ true → Contains xs p → Contains (filter f xs) p
to_filter f [] p passes c = c
to_filter f (x ∷ xs) p passes c = keeps_one f x xs p (f x) refl passes (to_filter f xs p passes) c

in_before : (own : List ℕ) (p : ℕ) → Contains (before_last own) p → Contains own p × (p < greatest own)
in_before own p c = let k = in_filter (λ q. nat_lt q (greatest own)) own p c in (k.0, let e : nat_lt p (greatest own) ≡ true = k.1 in grind (arith, nat_tests))

to_before : (own : List ℕ) (p : ℕ) → Contains own p → p < greatest own → Contains (before_last own) p
to_before own p c lt = to_filter (λ q. nat_lt q (greatest own)) own p (grind (arith, nat_tests)) c

at_most : (own : List ℕ) (p : ℕ) → Contains own p → p ≤ greatest own
at_most [] p c = absurd (not_in_none p c)
at_most (x ∷ xs) p c = ⊎_elim (λ same. omega arith) (λ more. let rest = at_most xs p more in omega arith) (in_either x xs p c)

-- the greatest of some places is one of them
max_in : (x : ℕ) (xs : List ℕ) → Contains (x ∷ xs) (greatest (x ∷ xs))
max_in x [] = let same : x ≡ greatest (x ∷ []) = omega arith in subst (Contains (x ∷ [])) same (in_first x [])
max_in x (y ∷ ys) =
    let rest = max_in y ys in
    dite (ℕ_discrete (greatest (x ∷ y ∷ ys)) x)
    (λ same. subst (Contains (x ∷ y ∷ ys)) (sym same) (in_first x (y ∷ ys)))
    (λ apart. let same : greatest (y ∷ ys) ≡ greatest (x ∷ y ∷ ys) = omega arith in in_more x (y ∷ ys) (greatest (x ∷ y ∷ ys)) (subst (Contains (y ∷ ys)) same rest))

in_last : (own : List ℕ) (p : ℕ) → Contains (last_of own) p → Contains own p × (p ≡ greatest own)
in_last [] p c = absurd (not_in_none p c)
in_last (x ∷ xs) p c =
    let same = is_one (greatest (x ∷ xs)) p c in
    (subst (Contains (x ∷ xs)) same (max_in x xs), sym same)

to_last : (own : List ℕ) (p : ℕ) → Contains own p → p ≡ greatest own → Contains (last_of own) p
to_last [] p c same = absurd (not_in_none p c)
to_last (x ∷ xs) p c same = subst (λ q. Contains (greatest (x ∷ xs) ∷ []) q) (sym same) (in_one (greatest (x ∷ xs)))

module _ {N : Type 0} (root : List N → ℕ → ℕ) where
  -- the last is given, which is its own root
  pub divides_last : ((log : List N) (place : ℕ) → root log place ≤ place) → (k : Known N) → IsLastRoot root k → Divides root k (before_last k.own) (last_of k.own)
  divides_last before k mine = record {
    each = λ p c. dite (ℕ_discrete p (greatest k.own))
        (λ same. inr (to_last k.own p c same))
        (λ apart. let le = at_most k.own p c in inl (to_before k.own p c (omega arith)));
    from_kept = λ p c. (in_before k.own p c).0;
    from_given = λ p c. (in_last k.own p c).0;
    apart = λ p a b. let lt = (in_before k.own p a).1 in let same = (in_last k.own p b).1 in omega arith;
    rooted = λ p c. (
      (λ given. subst (Contains (last_of k.own)) (sym (mine p given)) given),
      (λ given.
          let top = (in_last k.own (root k.seen p) given).1 in
          let low = before k.seen p in
          let le = at_most k.own p c in
          to_last k.own p c (omega arith)),
    );
  }

  -- the split's two passes, where there are two
  pub divided : {E : Type 0} (k l : Known N) → Divides root k (before_last k.own) (last_of k.own) → (r : Result (Pass N) E) → IfOk r (λ p. known_by p ≡ known k.seen (last_of k.own))
      → OnOk r (l ≡ known k.seen (before_last k.own)) → IfOk r (λ p. Divides root k l.own (own_by p))
  divided k l d (Ok p) given kept = subst (λ g. Divides root k l.own g) (sym (ap (λ x. x.own) given)) (subst (λ o. Divides root k o (last_of k.own)) (sym (ap (λ x. x.own) kept)) d)
  divided k l d (Err e) given kept = tt

  module _ (stays : (log more : List N) (place : ℕ) → place < length log → root (log ++ more) place ≡ root log place) where
    -- what was seen shows the root of an own place
    root_seen : (log : List N) (k : Known N) → IsKnown root log k → (p : ℕ) → Contains k.own p → root log p ≡ root k.seen p
    root_seen log k h p c = ap (λ l. root l p) (sym h.seen.1) ∙ stays k.seen h.seen.0 p (h.below p c)

    pub known_given : (log : List N) (k : Known N) (kept given : List ℕ) → IsKnown root log k → Divides root k kept given → IsKnown root log (known k.seen given)
    known_given log k kept given h d = record {
      seen = h.seen;
      below = λ p c. h.below p (d.from_given p c);
      own_by_root = λ p lt. (
        (λ c. let own = d.from_given p c in subst (Contains given) (sym (root_seen log k h p own)) ((d.rooted p own).0 c)),
        (λ c. let own = (h.own_by_root p lt).1 (d.from_given (root log p) c) in (d.rooted p own).1 (subst (Contains given) (root_seen log k h p own) c)),
      );
    }

    pub known_kept : (log : List N) (k : Known N) (kept given : List ℕ) → IsKnown root log k → Divides root k kept given → IsKnown root log (known k.seen kept)
    known_kept log k kept given h d = record {
      seen = h.seen;
      below = λ p c. h.below p (d.from_kept p c);
      own_by_root = λ p lt. (
        (λ c.
            let own = d.from_kept p c in
            ⊎_elim
            (λ mine. mine)
            (λ theirs. absurd (d.apart p c ((d.rooted p own).1 (subst (Contains given) (root_seen log k h p own) theirs))))
            (d.each (root log p) ((h.own_by_root p lt).0 own))),
        (λ c.
            let own = (h.own_by_root p lt).1 (d.from_kept (root log p) c) in
            ⊎_elim
            (λ mine. mine)
            (λ theirs. absurd (d.apart (root log p) c (subst (Contains given) (sym (root_seen log k h p own)) ((d.rooted p own).0 theirs))))
            (d.each p own)),
      );
    }

-- For callers: where the own places lie below a place, that one is the last once it is added.
greatest_added : (own : List ℕ) (place : ℕ) → ((p : ℕ) → Contains own p → p < place) → greatest (own ++ place ∷ []) ≡ place
greatest_added [] place lower = omega arith
greatest_added (x ∷ xs) place lower =
    let rest = greatest_added xs place (λ p c. lower p (in_more x xs p c)) in
    let low = lower x (in_first x xs) in
    omega arith

last_is : (own : List ℕ) (place : ℕ) → last_of (own ++ place ∷ []) ≡ greatest (own ++ place ∷ []) ∷ []
last_is [] place = refl
last_is (x ∷ xs) place = refl

pub last_added : (own : List ℕ) (place : ℕ) → ((p : ℕ) → Contains own p → p < place) → last_of (own ++ place ∷ []) ≡ place ∷ []
last_added own place lower = last_is own place ∙ ap (λ p. p ∷ []) (greatest_added own place lower)

-- all but the last pass
all_pass : (f : ℕ → Bool) (xs : List ℕ) (y : ℕ) → ((p : ℕ) → Contains xs p → f p ≡ true) → f y ≡ false → filter f (xs ++ y ∷ []) ≡ xs
all_pass f [] y all last = ap (λ b. cond b (y ∷ []) []) last
all_pass f (x ∷ xs) y all last =
    ap (λ b. cond b (x ∷ filter f (xs ++ y ∷ [])) (filter f (xs ++ y ∷ []))) (all x (in_first x xs)) ∙ ap (λ l. x ∷ l) (all_pass f xs y (λ p c. all p (in_more x xs p c)) last)

pub before_added : (own : List ℕ) (place : ℕ) → ((p : ℕ) → Contains own p → p < place) → before_last (own ++ place ∷ []) ≡ own
before_added own place lower =
    ap (λ top. filter (λ p. nat_lt p top) (own ++ place ∷ [])) (greatest_added own place lower)
    ∙ all_pass (λ p. nat_lt p place) own place (λ p c. let lt = lower p c in grind (arith, nat_tests)) (grind (arith, nat_tests))
