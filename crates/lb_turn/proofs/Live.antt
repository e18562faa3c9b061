-- The live views are the chief's and as many as the parts that it lacks: the proof of the law `live_views`.
use Rattle.std.proofs.Common.{◌≡◌, ℕ, suc, ◌+◌, ◌<◌, ◌≤◌, Bool, true, false, nat_lt, if◌then◌else◌, List, [], ◌∷◌, refl, sym, ap, arith}
use Rattle.std.proofs.lemmas.Bool.Decides.{nat_tests}
use mathlib.Core.Option.{some, some-ne-none, some-injective}
use lib.ListN.{get_elem?}
use Rattle.lb_turn.specs.declared.rule.View.{View}
use Rattle.lb_turn.specs.Laws.{live, LiveViews}
use Rattle.lb_turn.specs.Rule.{shares}
use Rattle.lb_turn.specs.Known.{all_parts}

abbrev one_if : Bool → ℕ
one_if b = if b then 1 else 0

if_live : (p : ℕ) (b : Bool) → nat_lt 0 p ≡ b → 0 < p → one_if b ≡ 1
if_live p true is live = refl
if_live p false is live = absurd (grind (arith, nat_tests))

if_one : (p : ℕ) (b : Bool) → nat_lt 0 p ≡ b → p ≤ 1 → one_if b ≡ p
if_one p true is few = grind (arith, nat_tests)
if_one p false is few = grind (arith, nat_tests)

module _ {N : Type 0} where
  live_shares : (vs : List (View N)) → ((i : ℕ) (v : View N) → get_elem? vs i ≡ some v → v.parts ≤ 1) → live vs ≡ shares vs
  live_shares [] all = refl
  live_shares (x ∷ xs) all =
      let one = if_one x.parts (nat_lt 0 x.parts) refl (all 0 x refl) in
      let rest = live_shares xs (λ i v e. all (suc i) v e) in
      omega arith

  live_beside : (vs : List (View N)) (chief : View N) (passes : ℕ) → get_elem? vs 0 ≡ some chief → ((i : ℕ) (v : View N) → get_elem? vs i ≡ some v → 0 < i → v.parts ≤ 1)
      → 0 < chief.parts → chief.parts + passes ≡ all_parts → shares vs ≡ all_parts → live vs ≡ passes + 1
  live_beside [] chief passes at all some_part rest whole = absurd (some-ne-none chief (sym at))
  live_beside (x ∷ xs) chief passes at all some_part rest whole =
      let same : x.parts ≡ chief.parts = ap (λ v. v.parts) (some-injective x chief at) in
      let one = if_live x.parts (nat_lt 0 x.parts) refl (omega arith) in
      let others = live_shares xs (λ i v e. all (suc i) v e (omega arith)) in
      omega arith

module _ {S N : Type 0} (history : S → List N) (root : List N → ℕ → ℕ) (number : S → ℕ) where
  pub live_views : LiveViews history root number
  live_views key passes s chief h at some_part rest = (live_beside s.views chief passes at (λ i v e. (h.each i v e).part) some_part rest h.whole, omega arith)
