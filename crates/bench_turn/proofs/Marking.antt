-- A mark belongs to its worker: the premise of `record` for each mark that a worker makes.
use Rattle.std.proofs.Common.{◌≡◌, ◌⊎◌, inl, inr, ℕ, min, List, [], ◌∷◌, ◌++◌, length, Option, Some, refl, sym, subst, arith}
use Rattle.std.specs.List.{Contains}
use mathlib.Core.Logic.{dite}
use native.Mathlib.Decide.{dec_le}
use Rattle.lb_turn.specs.Known.{Belongs}
use Rattle.lb_turn.proofs.Uses.{get_last}
use Rattle.bench_turn.specs.declared.register.Mark.{Mark}
use Rattle.bench_turn.specs.declared.register.Mark.TheVariants.{Begins, Ends}
use Rattle.bench_turn.specs.Marks.{root_from, root, IsBegun}

least : (own : List ℕ) (a b : ℕ) → Contains own a → (min a b ≡ b) ⊎ Contains own (min a b)
least own a b c = dite (dec_le a b)
    (λ small. inr (let e : min a b ≡ a = omega arith in subst (Contains own) (sym e) c))
    (λ large. inl (omega arith))

chosen : (own : List ℕ) (place : ℕ) (mark : Mark) → IsBegun own mark → (root_from place (Some mark) ≡ place) ⊎ Contains own (root_from place (Some mark))
chosen own place Begins begun = inl refl
chosen own place (Ends began) begun = least own began place begun

pub belongs : (own : List ℕ) (marks : List Mark) (mark : Mark) → IsBegun own mark → Belongs root own (marks ++ mark ∷ []) (length marks)
belongs own marks mark begun =
    let P = λ (m : Option Mark). (root_from (length marks) m ≡ length marks) ⊎ Contains own (root_from (length marks) m) in
    subst P (sym (get_last marks mark)) (chosen own (length marks) mark begun)
