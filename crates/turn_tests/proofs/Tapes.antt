-- An entry of the tape belongs to its session, and keeps its root as the tape goes on.
use Rattle.std.proofs.Common.{◌≡◌, ◌⊎◌, inl, inr, ⊎_elim, ℕ, min, List, [], ◌∷◌, ◌++◌, length, Option, Some, refl, sym, ap, ◌∙◌, subst, arith}
use Rattle.std.specs.List.{Contains}
use Rattle.std.proofs.lemmas.List.Elements.{Contains-append_cases}
use mathlib.Core.List.{IsPrefix}
use mathlib.Core.Logic.{dite}
use native.Mathlib.Decide.{dec_le}
use Rattle.lb_turn.specs.Known.{Belongs}
use Rattle.lb_turn.proofs.Places.{prefix_length}
use Rattle.lb_turn.proofs.Uses.{get_last}
use Rattle.turn_tests.specs.declared.tape.Entry.{Entry}
use Rattle.turn_tests.specs.declared.tape.Entry.TheVariants.{Opens, Adds}
use Rattle.turn_tests.specs.Tape.{root_from, root, root_stays, IsOpened, AreRooted}

least : (own : List ℕ) (a b : ℕ) → Contains own a → (min a b ≡ b) ⊎ Contains own (min a b)
least own a b c = dite (dec_le a b)
    (λ small. inr (let e : min a b ≡ a = omega arith in subst (Contains own) (sym e) c))
    (λ large. inl (omega arith))

chosen : (own : List ℕ) (place : ℕ) (entry : Entry) → IsOpened own entry → (root_from place (Some entry) ≡ place) ⊎ Contains own (root_from place (Some entry))
chosen own place (Opens session) opened = inl refl
chosen own place (Adds opener number) opened = least own opener place opened

pub belongs : (own : List ℕ) (tape : List Entry) (entry : Entry) → IsOpened own entry → Belongs root own (tape ++ entry ∷ []) (length tape)
belongs own tape entry opened =
    let P = λ (e : Option Entry). (root_from (length tape) e ≡ length tape) ⊎ Contains own (root_from (length tape) e) in
    subst P (sym (get_last tape entry)) (chosen own (length tape) entry opened)

-- a tape that goes on keeps the roots
pub rooted_longer : (seen more : List Entry) (own : List ℕ) → IsPrefix seen more → AreRooted seen own → AreRooted more own
rooted_longer seen more own p all place c =
    let here = all place c in
    let same : root more place ≡ root seen place = ap (λ l. root l place) (sym p.1) ∙ root_stays seen p.0 place here.0 in
    (omega (arith, here.0, prefix_length seen more p), omega (arith, here.1, same))

pub rooted_both : (seen : List Entry) (own own' : List ℕ) → AreRooted seen own → AreRooted seen own' → AreRooted seen (own ++ own')
rooted_both seen own own' a b place c = ⊎_elim (λ x. a place x) (λ x. b place x) (Contains-append_cases own own' place c)
