-- Tickets and the queue of the seats that have one.
use Rattle.std.proofs.Common.{◌≡◌, ◌≢◌, ◌⊎◌, inl, inr, ⊎_elim, ℕ, zero, suc, ◌+◌, ◌%◌, ◌^◌, ◌<◌, ◌≤◌, List, [], ◌∷◌, ◌++◌, length, set, drop, refl, sym, ap, ◌∙◌, subst, arith}
use mathlib.Core.Logic.{dite}
use mathlib.Core.Option.{some, some-ne-none, some-injective}
use native.Mathlib.Decide.{ℕ_discrete}
use lib.ListN.{get_elem?}
use Rattle.std.proofs.Math.Nat.{mod-add-mod, mod-eq_of_lt}
use Rattle.atomic_table.proofs.Lists.{set_else, at_longer, one_turn}
use Rattle.lb_turn.specs.declared.rule.Role.{Role}
use Rattle.lb_turn.specs.declared.rule.Role.TheVariants.{Idle, Waits, Turns}
use Rattle.lb_turn.specs.declared.rule.View.{View}
use Rattle.lb_turn.specs.Rule.{HasTicket, IsStill, IsPlacedAs, AreOut}
use Rattle.lb_turn.proofs.Views.{same_view, set_there}
use Rattle.lb_turn.specs.Known.{all_parts}

pub get_below : (queue : List ℕ) (k seat : ℕ) → get_elem? queue k ≡ some seat → k < length queue
get_below [] k seat e = absurd (some-ne-none seat (sym e))
get_below (x ∷ xs) zero seat e = omega arith
get_below (x ∷ xs) (suc k) seat e = omega (arith, get_below xs k seat e)

rest_get : (queue : List ℕ) (k : ℕ) → get_elem? (drop 1 queue) k ≡ get_elem? queue (suc k)
rest_get [] k = refl
rest_get (y ∷ ys) k = refl

pub rest_length : (queue : List ℕ) (id : ℕ) → get_elem? queue 0 ≡ some id → length (drop 1 queue) + 1 ≡ length queue
rest_length [] id e = absurd (some-ne-none id (sym e))
rest_length (y ∷ ys) id e = omega arith

at_end : (queue : List ℕ) (a b k : ℕ) → get_elem? (queue ++ a ∷ []) k ≡ some b → (get_elem? queue k ≡ some b) ⊎ ((k ≡ length queue) × (a ≡ b))
at_end [] a b zero e = inr (refl, some-injective a b e)
at_end [] a b (suc k) e = absurd (some-ne-none b (sym e))
at_end (x ∷ xs) a b zero e = inl e
at_end (x ∷ xs) a b (suc k) e = ⊎_elim (λ t. inl t) (λ t. let last = t.0 in inr (omega arith, t.1)) (at_end xs a b k e)

-- one ticket further, counted modulo 2^64
next_ticket : (served k : ℕ) → (served + suc k) % 2 ^ 64 ≡ ((served + 1) % 2 ^ 64 + k) % 2 ^ 64
next_ticket served k = ap (λ n. n % 2 ^ 64) (omega arith) ∙ sym (mod-add-mod (served + 1) (2 ^ 64) k)

-- a waiting seat whose ticket is served is the first that is out
pub first_out : (served k t : ℕ) → served < 2 ^ 64 → k < 2 ^ 64 → t ≡ (served + k) % 2 ^ 64 → served ≡ t → k ≡ 0
first_out served k t fits small is same =
    let a : served ≡ (served + k) % 2 ^ 64 = same ∙ is in
    let b = one_turn served (served + k) (2 ^ 64) (omega arith) (omega arith) (mod-eq_of_lt fits ∙ a) in omega arith

module _ {N : Type 0} where
  -- what is known of a seat, once one more waits
  pub placed_more : (served : ℕ) (queue : List ℕ) (log : List N) (seat last : ℕ) (v : View N) (r : Role) → IsPlacedAs served queue log seat v r → IsPlacedAs served (queue ++ last ∷ []) log seat v r
  placed_more served queue log seat last v Idle k = tt
  placed_more served queue log seat last v (Waits t) k = (k.0, (at_longer queue (last ∷ []) k.0 seat k.1.0, k.1.1))
  placed_more served queue log seat last v (Turns t) k = ((at_longer queue (last ∷ []) 0 seat k.0.0, k.0.1), k.1)

  -- if the first that is out has not its turn, no seat has
  pub all_still : (served : ℕ) (queue : List ℕ) (log : List N) (id j : ℕ) (v u : View N) (r : Role) → u.role ≡ r → get_elem? queue 0 ≡ some id → (j ≡ id → u ≡ v) → IsStill v.role → IsPlacedAs served queue log j u r → IsStill r
  all_still served queue log id j v u Idle is first same still k = tt
  all_still served queue log id j v u (Waits t) is first same still k = tt
  all_still served queue log id j v u (Turns t) is first same still k =
      let one : j ≡ id = some-injective j id (sym k.0.0 ∙ first) in
      subst IsStill is (subst (λ w. IsStill w.role) (sym (same one)) still)

  -- what is known of the other seats stays while one has its turn, whatever the history
  pub placed_beside : (served : ℕ) (queue : List ℕ) (log log' : List N) (id j : ℕ) (u : View N) (r : Role) → j ≢ id → get_elem? queue 0 ≡ some id → IsPlacedAs served queue log j u r → IsPlacedAs served queue log' j u r
  placed_beside served queue log log' id j u Idle apart first k = tt
  placed_beside served queue log log' id j u (Waits t) apart first k = k
  placed_beside served queue log log' id j u (Turns t) apart first k = absurd (apart (some-injective j id (sym k.0.0 ∙ first)))

  -- once the first has gone, each other is one place nearer
  pub placed_nearer : (served : ℕ) (queue : List ℕ) (log : List N) (id j : ℕ) (u : View N) (r : Role) → j ≢ id → get_elem? queue 0 ≡ some id → IsPlacedAs served queue log j u r → IsPlacedAs ((served + 1) % 2 ^ 64) (drop 1 queue) log j u r
  placed_nearer served queue log id j u Idle apart first k = tt
  placed_nearer served queue log id j u (Turns t) apart first k = absurd (apart (some-injective j id (sym k.0.0 ∙ first)))
  placed_nearer served queue log id j u (Waits t) apart first (zero, has) = absurd (apart (some-injective j id (sym has.0 ∙ first)))
  placed_nearer served queue log id j u (Waits t) apart first (suc k, has) = (k, (rest_get queue k ∙ has.0, has.1 ∙ next_ticket served k))

  -- a view changes, and keeps its ticket
  pub out_kept : (served : ℕ) (queue : List ℕ) (vs : List (View N)) (id : ℕ) (v w : View N) → get_elem? vs id ≡ some v → ((t : ℕ) → HasTicket v.role t → HasTicket w.role t) → AreOut served queue vs → AreOut served queue (set vs id w)
  out_kept served queue vs id v w at keeps all k seat e =
      let o = all k seat e in
      dite (ℕ_discrete seat id)
      (λ same. (w, ap (get_elem? (set vs id w)) same ∙ set_there vs id v w at, keeps ((served + k) % 2 ^ 64) (subst (λ u. HasTicket u.role ((served + k) % 2 ^ 64)) (same_view vs id seat v o.0 at o.1 same) o.2)))
      (λ apart. (o.0, set_else vs id seat w apart ∙ o.1, o.2))

  pub out_longer : (served : ℕ) (queue : List ℕ) (vs : List (View N)) (g : View N) → AreOut served queue vs → AreOut served queue (vs ++ g ∷ [])
  out_longer served queue vs g all k seat e = let o = all k seat e in (o.0, at_longer vs (g ∷ []) seat o.0 o.1, o.2)

  -- one more ticket is drawn
  pub out_drawn : (served : ℕ) (queue : List ℕ) (vs : List (View N)) (id : ℕ) (v w : View N) → get_elem? vs id ≡ some v → v.role ≡ Idle → HasTicket w.role ((served + length queue) % 2 ^ 64)
      → AreOut served queue vs → AreOut served (queue ++ id ∷ []) (set vs id w)
  out_drawn served queue vs id v w at idle has all k seat e = ⊎_elim
      (λ old. out_kept served queue vs id v w at (λ t h. absurd (subst (λ r. HasTicket r t) idle h)) all k seat old)
      (λ (last : (k ≡ length queue) × (id ≡ seat)). (w, ap (get_elem? (set vs id w)) (sym last.1) ∙ set_there vs id v w at, subst (λ n. HasTicket w.role ((served + n) % 2 ^ 64)) (sym last.0) has))
      (at_end queue id seat k e)

  -- the first ticket is done
  pub out_passed : (served : ℕ) (queue : List ℕ) (vs : List (View N)) (id t : ℕ) (v w : View N) → get_elem? vs id ≡ some v → v.role ≡ Turns t → t ≡ (served + 0) % 2 ^ 64 → length queue ≤ all_parts
      → AreOut served queue vs → AreOut ((served + 1) % 2 ^ 64) (drop 1 queue) (set vs id w)
  out_passed served queue vs id t v w at turns mine few all k seat e =
      let e' : get_elem? queue (suc k) ≡ some seat = sym (rest_get queue k) ∙ e in
      let o = all (suc k) seat e' in
      let low : suc k < length queue = get_below queue (suc k) seat e' in
      dite (ℕ_discrete seat id)
      (λ same.
      let has : t ≡ (served + suc k) % 2 ^ 64 = subst (λ r. HasTicket r ((served + suc k) % 2 ^ 64)) turns (subst (λ u. HasTicket u.role ((served + suc k) % 2 ^ 64)) (same_view vs id seat v o.0 at o.1 same) o.2) in
      let far = one_turn (served + 0) (served + suc k) (2 ^ 64) (omega arith) (omega arith) (sym mine ∙ has) in
      absurd (omega arith))
      (λ apart. (o.0, set_else vs id seat w apart ∙ o.1, subst (HasTicket o.0.role) (next_ticket served k) o.2))
