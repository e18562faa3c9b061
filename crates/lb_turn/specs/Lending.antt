-- What a lender ends with: the clauses of the two calls that lend a part of what they are given.
use Rattle.std.specs.Prelude.{Some, []}
use Rattle.std.specs.Borrow.{follows, Lends, MutBor, Fml}
use denote.RattleType.{RattleType}
use mir.Syntax.{named}
use Rattle.lb_turn.specs.declared.chief.Chief.{Chief}
use Rattle.lb_turn.specs.declared.held.Held.{Held}
use Rattle.lb_turn.specs.declared.pass.Pass.{Pass}
use Rattle.lb_turn.specs.contracts.chief.Chief as chief
use Rattle.lb_turn.specs.contracts.held.Held as held
use Rattle.lb_turn.specs.contracts.pass.Pass as pass
use Rattle.lb_turn.specs.declared.standing.Standing as standing

module _ (N : RattleType) where
  -- the chief's pass becomes the last value behind the result
  abbrev pub lends_pass : MutBor (Chief N.Denot) → MutBor (Pass N.Denot) → Fml
  lends_pass c r = Lends (chief.the_row N) (pass.the_row N) c r (λ p. record c.now { pass = p })

module _ (S N : RattleType) (g : standing.Ghosts S.Denot N.Denot) where
  -- the state becomes the last value behind the result
  abbrev pub lends_state : MutBor (Held S.Denot N.Denot) → MutBor S.Denot → Fml
  lends_state h r = follows (held.the_row (record { mir = named 1; lft = [] }) S N g) S h.ghost_name r.ghost_name (λ x. record h.now { state = Some x })
