-- Seen lists and own places as a history grows: what each view knows stays true of it, for `proofs/Kept.antt`.
use Rattle.std.proofs.Common.{◌≡◌, ◌≢◌, ⊎_elim, ℕ, zero, suc, ◌+◌, ◌<◌, ◌≤◌, Bool, true, false, nat_lt, if◌then◌else◌, List, [], ◌∷◌, ◌++◌, length, refl, sym, ap, ◌∙◌, subst, arith, length-append, append-nil, append_assoc}
use Rattle.std.specs.List.{Contains}
use Rattle.std.proofs.lemmas.Bool.Decides.{nat_tests}
use Rattle.std.proofs.lemmas.List.Elements.{Contains-append_left, Contains-append_right, Contains-append_cases}
use mathlib.Core.List.{IsPrefix}
use mathlib.Core.Logic.{dite}
use native.Mathlib.Decide.{ℕ_discrete}
use Rattle.lb_turn.specs.declared.rule.Known.{Known}
use Rattle.lb_turn.specs.Known.{known, nothing, longer, united, IsKnown, Grows, Belongs}

pub not_in_none : (place : ℕ) → Contains [] place → ⊥
not_in_none place c = let none : c.0 < 0 = c.1 in omega arith

pub in_one : (place : ℕ) → Contains (place ∷ []) place
in_one place = (0, omega arith, refl)

pub is_one : (place other : ℕ) → Contains (place ∷ []) other → place ≡ other
is_one place other (zero, lt, e) = e
is_one place other (suc k, lt, e) = absurd (omega arith)

module _ {N : Type 0} where
  pub prefix_length : (xs ys : List N) → IsPrefix xs ys → length xs ≤ length ys
  prefix_length xs ys p = omega (arith, length-append xs p.0, ap length p.1)

  pub prefix_longer : (xs ys : List N) (e : N) → IsPrefix xs ys → IsPrefix xs (ys ++ e ∷ [])
  prefix_longer xs ys e p = (p.0 ++ e ∷ [], sym (append_assoc xs p.0 (e ∷ [])) ∙ ap (λ l. l ++ e ∷ []) p.1)

  -- a beginning that is as long is the whole
  pub prefix_same : (xs ys : List N) → IsPrefix xs ys → length ys ≤ length xs → ys ≡ xs
  prefix_same xs ys ([], e) le = sym e ∙ append-nil xs
  prefix_same xs ys (z ∷ zs, e) le = absurd (omega (arith, ap length e, length-append xs (z ∷ zs)))

  -- of two beginnings of one list the shorter begins the longer
  prefix_between : (xs ys r s : List N) → xs ++ r ≡ ys ++ s → length xs ≤ length ys → IsPrefix xs ys
  prefix_between [] ys r s e le = (ys, refl)
  prefix_between (x ∷ xs) [] r s e le = absurd (omega arith)
  prefix_between (x ∷ xs) (y ∷ ys) r s e le =
      let heads : x ≡ y = cc in
      let tails : xs ++ r ≡ ys ++ s = cc in
      let rest = prefix_between xs ys r s tails (omega arith) in
      (rest.0, (λ i. heads i ∷ rest.1 i))

  longer_left : (b : Bool) (xs ys : List N) → nat_lt (length xs) (length ys) ≡ b → length xs ≤ length (if b then ys else xs)
  longer_left true xs ys e = grind (arith, nat_tests)
  longer_left false xs ys e = omega arith

  longer_right : (b : Bool) (xs ys : List N) → nat_lt (length xs) (length ys) ≡ b → length ys ≤ length (if b then ys else xs)
  longer_right true xs ys e = omega arith
  longer_right false xs ys e = grind (arith, nat_tests)

  longer_begins : (b : Bool) (xs ys log : List N) → IsPrefix xs log → IsPrefix ys log → IsPrefix (if b then ys else xs) log
  longer_begins true xs ys log p q = q
  longer_begins false xs ys log p q = p

module _ {N : Type 0} (root : List N → ℕ → ℕ) where
  pub known_nothing : (log : List N) → IsKnown root log nothing
  known_nothing log = record {
    seen = (log, refl);
    below = λ place c. absurd (not_in_none place c);
    own_by_root = λ place lt. ((λ c. absurd (not_in_none place c)), (λ c. absurd (not_in_none (root log place) c)));
  }

  pub below_log : (log : List N) (k : Known N) → IsKnown root log k → (place : ℕ) → Contains k.own place → place < length log
  below_log log k h place c = omega (arith, h.below place c, prefix_length k.seen log h.seen)

  -- once the whole history is seen
  pub known_whole : (log : List N) (k : Known N) → IsKnown root log k → IsKnown root log (known log k.own)
  known_whole log k h = record { seen = ([], append-nil log); below = below_log log k h; own_by_root = h.own_by_root }

  -- a place that was added has no own root
  added_apart : (log : List N) (k : Known N) → IsKnown root log k → (place : ℕ) → length k.seen ≤ place → place < length log → Contains k.own (root log place) → ⊥
  added_apart log k h place beyond lt c = let mine = h.below place ((h.own_by_root place lt).1 c) in omega arith

  pub grows_whole : (log : List N) (k : Known N) → IsKnown root log k → Grows root k log
  grows_whole log k h = record { seen = h.seen; others = added_apart log k h }

module _ {N : Type 0} (root : List N → ℕ → ℕ) (before : (log : List N) (place : ℕ) → root log place ≤ place)
    (stays : (log more : List N) (place : ℕ) → place < length log → root (log ++ more) place ≡ root log place) where
  -- as the last, for a beginning of the history that is as long
  grows_between : (log ys : List N) (k : Known N) → IsKnown root log k → IsPrefix ys log → length k.seen ≤ length ys → Grows root k ys
  grows_between log ys k h p le = record {
    seen = prefix_between k.seen ys h.seen.0 p.0 (h.seen.1 ∙ sym p.1) le;
    others = λ place beyond lt c.
        let same : root log place ≡ root ys place = ap (λ l. root l place) (sym p.1) ∙ stays ys p.0 place lt in
        added_apart root log k h place beyond (omega (arith, prefix_length ys log p)) (subst (Contains k.own) (sym same) c);
  }

  longer_known : (log : List N) (k l : Known N) → IsKnown root log k → IsKnown root log l → IsPrefix (longer k.seen l.seen) log
  longer_known log k l h i = longer_begins (nat_lt (length k.seen) (length l.seen)) k.seen l.seen log h.seen i.seen

  pub grows_left : (log : List N) (k l : Known N) → IsKnown root log k → IsKnown root log l → Grows root k (united k l).seen
  grows_left log k l h i = grows_between log (united k l).seen k h (longer_known log k l h i) (longer_left (nat_lt (length k.seen) (length l.seen)) k.seen l.seen refl)

  pub grows_right : (log : List N) (k l : Known N) → IsKnown root log k → IsKnown root log l → Grows root l (united k l).seen
  grows_right log k l h i = grows_between log (united k l).seen l i (longer_known log k l h i) (longer_right (nat_lt (length k.seen) (length l.seen)) k.seen l.seen refl)

  in_both : (own own' : List ℕ) (a b : ℕ) → (Contains own a → Contains own b) → (Contains own' a → Contains own' b) → Contains (own ++ own') a → Contains (own ++ own') b
  in_both own own' a b f g c = ⊎_elim (λ x. Contains-append_left own own' b (f x)) (λ x. Contains-append_right own own' b (g x)) (Contains-append_cases own own' a c)

  pub known_united : (log : List N) (k l : Known N) → IsKnown root log k → IsKnown root log l → IsKnown root log (united k l)
  known_united log k l h i = record {
    seen = longer_known log k l h i;
    below = λ place c. ⊎_elim
        (λ x. omega (arith, h.below place x, longer_left (nat_lt (length k.seen) (length l.seen)) k.seen l.seen refl))
        (λ x. omega (arith, i.below place x, longer_right (nat_lt (length k.seen) (length l.seen)) k.seen l.seen refl))
        (Contains-append_cases k.own l.own place c);
    own_by_root = λ place lt. (
      in_both k.own l.own place (root log place) (h.own_by_root place lt).0 (i.own_by_root place lt).0,
      in_both k.own l.own (root log place) place (h.own_by_root place lt).1 (i.own_by_root place lt).1,
    );
  }

  last_place : (log : List N) (e : N) (place : ℕ) → place < length (log ++ e ∷ []) → place ≢ length log → place < length log
  last_place log e place lt apart = omega (arith, length-append log (e ∷ []), apart)

  -- what the recorder knows afterwards
  pub known_recorded : (log : List N) (e : N) (k : Known N) → IsKnown root log k → Belongs root k.own (log ++ e ∷ []) (length log)
      → IsKnown root (log ++ e ∷ []) (known (log ++ e ∷ []) (k.own ++ length log ∷ []))
  known_recorded log e k h belongs =
      let n = length log in
      let log' = log ++ e ∷ [] in
      let grown : length log' ≡ n + 1 = length-append log (e ∷ []) in
      let in_new : Contains (k.own ++ n ∷ []) n = Contains-append_right k.own (n ∷ []) n (in_one n) in record {
        seen = ([], append-nil log');
        below = λ place c. ⊎_elim
            (λ x. omega (arith, below_log root log k h place x, grown))
            (λ x. omega (arith, is_one n place x, grown))
            (Contains-append_cases k.own (n ∷ []) place c);
        own_by_root = λ place lt. dite (ℕ_discrete place n)
            (λ same. (
              (λ c. subst (λ p. Contains (k.own ++ n ∷ []) (root log' p)) (sym same) (⊎_elim
                  (λ own. subst (Contains (k.own ++ n ∷ [])) (sym own) in_new)
                  (λ other. Contains-append_left k.own (n ∷ []) (root log' n) other) belongs)),
              (λ c. subst (Contains (k.own ++ n ∷ [])) (sym same) in_new),
            ))
            (λ apart.
            let old : place < n = last_place log e place lt apart in
            let stay : root log' place ≡ root log place = stays log (e ∷ []) place old in (
              (λ c. ⊎_elim
                  (λ x. Contains-append_left k.own (n ∷ []) (root log' place) (subst (Contains k.own) (sym stay) ((h.own_by_root place old).0 x)))
                  (λ x. absurd (apart (sym (is_one n place x))))
                  (Contains-append_cases k.own (n ∷ []) place c)),
              (λ c. ⊎_elim
                  (λ x. Contains-append_left k.own (n ∷ []) place ((h.own_by_root place old).1 (subst (Contains k.own) stay x)))
                  (λ x. let here = is_one n (root log' place) x in let early = before log' place in absurd (omega arith))
                  (Contains-append_cases k.own (n ∷ []) (root log' place) c)),
            ));
      }

  -- what another knows once an entry was added that does not belong to it
  pub known_beside : (log : List N) (e : N) (k : Known N) → IsKnown root log k → (Contains k.own (root (log ++ e ∷ []) (length log)) → ⊥) → IsKnown root (log ++ e ∷ []) k
  known_beside log e k h foreign =
      let n = length log in
      let log' = log ++ e ∷ [] in record {
        seen = prefix_longer k.seen log e h.seen;
        below = h.below;
        own_by_root = λ place lt. dite (ℕ_discrete place n)
            (λ same. (
              (λ c. let low = below_log root log k h place c in absurd (omega arith)),
              (λ c. absurd (foreign (subst (λ p. Contains k.own (root log' p)) same c))),
            ))
            (λ apart.
            let old : place < n = last_place log e place lt apart in
            let stay : root log' place ≡ root log place = stays log (e ∷ []) place old in (
              (λ c. subst (Contains k.own) (sym stay) ((h.own_by_root place old).0 c)),
              (λ c. (h.own_by_root place old).1 (subst (Contains k.own) stay c)),
            ));
      }
