-- For callers: what is known of a pass once it has given the state back, and of an entry that it recorded.
use Rattle.std.proofs.Common.{◌≡◌, ◌<◌, ℕ, List, [], ◌∷◌, ◌++◌, length, slice_get, Some, refl, ap, subst, sym, ◌∙◌}
use Rattle.lb_turn.specs.declared.held.Held.{Held}
use Rattle.lb_turn.specs.declared.pass.Pass.{Pass}
use Rattle.lb_turn.specs.declared.turn.Turn.{Turn}
use Rattle.lb_turn.specs.declared.rule.Role.TheVariants.{Idle}
use Rattle.lb_turn.specs.Holding.{IsHolding, IsGivenBack, turn_of, seen_in}
use Rattle.lb_turn.specs.Passes.{IsIdle, fixed_number, view_by, view_of, seen_by}

-- it is idle and of the turn that was held
pub idle_again : {S N : Type 0} (number : S → ℕ) (turn : Turn S N) (h : Held S N) (p : Pass N) → IsGivenBack h p → IsHolding number h → turn_of h ≡ turn → IsIdle number turn p
idle_again number turn h p back holding same =
    let mine : view_by p ≡ record h.seat.me.0 { role = Idle } = ap view_of back.0 in (
      back.0 ∙ ap (λ v. v ∷ []) (sym mine),
      ap (λ v. v.role) mine,
      ap (λ v. v.other) mine ∙ holding.2.2,
      subst (λ v. 0 < v.parts) (sym mine) holding.4,
      ap (λ v. v.number) mine ∙ (holding.3 ∙ ap (fixed_number number) same),
      back.1 ∙ (holding.1 ∙ ap (λ t. t.table.shared.table_id) same),
    )

pub get_last : {N : Type 0} (log : List N) (entry : N) → slice_get (log ++ entry ∷ []) (length log) ≡ Some entry
get_last [] entry = refl
get_last (x ∷ xs) entry = get_last xs entry

-- an entry that was recorded stands at its place in what the pass has seen
pub entry_there : {S N : Type 0} (h : Held S N) (p : Pass N) (seen : List N) (entry : N) (place : ℕ) → IsGivenBack h p → seen_in h ≡ seen ++ entry ∷ [] → place ≡ length seen → slice_get (seen_by p) place ≡ Some entry
entry_there h p seen entry place back grown last =
    let all : seen_by p ≡ seen ++ entry ∷ [] = ap (λ vs. (view_of vs).known.seen) back.0 ∙ grown in
    (λ i. slice_get (all i) (last i)) ∙ get_last seen entry
