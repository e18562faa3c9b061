use Rattle.std.proofs.Common.{◌≡◌, ◌∙◌, ◌++◌, ◌∷◌, [], length, ap, subst, sym}
use Rattle.lb_turn.specs.Holding.{history_of, own_in, seen_in}
use Rattle.lb_turn.specs.Known.{Belongs}
use Rattle.bench_turn.specs.declared.register.Register.{Register}
use Rattle.bench_turn.specs.Marks.{IsBegun, root}
use Rattle.bench_turn.proofs.Marking.{belongs}
use Rattle.bench_turn.proofs.work.sign.Goals as goal

pub record-requires-clause-own : goal.record-requires-clause-own
record-requires-clause-own g c =
    let own = own_in c.hold-held.result in
    let seen = seen_in c.hold-held.result in
    let old : c.state.result.now.marks.items ≡ seen = ap (history_of (λ (r : Register). r.marks.items)) (sym c.state.ensures.value) ∙ c.hold-held.ensures.history in
    let grown : c.put.new.self.marks.items ≡ seen ++ c.args.mark ∷ [] = c.in-Some.ensures.some.0 ∙ ap (λ l. l ++ c.args.mark ∷ []) old in
    subst (λ l. Belongs root own l (length seen)) (sym grown) (belongs own seen c.args.mark (subst (λ o. IsBegun o c.args.mark) (sym c.hold-held.ensures.own) c.requires.begun))
