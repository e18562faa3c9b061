use Rattle.std.proofs.Common.{rules, ◌≡◌, ◌∙◌, ◌++◌, ◌∷◌, [], length, ap, subst, sym, arith}
use Rattle.lb_turn.specs.Holding.{history_of, own_in, seen_in}
use Rattle.lb_turn.specs.Known.{Belongs}
use Rattle.lb_turn.specs.Passes.{view_of, seen_by}
use Rattle.lb_turn.proofs.Places.{prefix_length}
use Rattle.lb_turn.proofs.Uses.{entry_there}
use Rattle.turn_tests.specs.declared.tape.Tape.{Tape}
use Rattle.turn_tests.specs.Tape.{IsOpened, root}
use Rattle.turn_tests.proofs.Tapes.{belongs}
use Rattle.turn_tests.proofs.session.add.Goals as goal

pub record-requires-clause-own : goal.record-requires-clause-own
record-requires-clause-own g c =
    let own = own_in c.hold-held.result in
    let seen = seen_in c.hold-held.result in
    let old : c.state.result.now.entries.items ≡ seen = ap (history_of (λ (t : Tape). t.entries.items)) (sym c.state.ensures.value) ∙ c.hold-held.ensures.history in
    let grown : c.put.new.self.entries.items ≡ seen ++ c.args.entry ∷ [] = c.in-Some.ensures.some.0 ∙ ap (λ l. l ++ c.args.entry ∷ []) old in
    subst (λ l. Belongs root own l (length seen)) (sym grown) (belongs own seen c.args.entry (subst (λ o. IsOpened o c.args.entry) (sym c.hold-held.ensures.own) c.requires.opened))

pub returns-in-Some-clause-place : goal.returns-in-Some-clause-place
returns-in-Some-clause-place g c =
    let seen = seen_in c.hold-held.result in
    let old : c.state.result.now.entries.items ≡ seen = ap (history_of (λ (t : Tape). t.entries.items)) (sym c.state.ensures.value) ∙ c.hold-held.ensures.history in
    let grown : c.put.new.self.entries.items ≡ seen ++ c.args.entry ∷ [] = c.in-Some.ensures.some.0 ∙ ap (λ l. l ++ c.args.entry ∷ []) old in
    let last : c.in-Some.place ≡ length seen = c.in-Some.ensures.some.1 ∙ ap length old in
    let all = entry_there c.record.new.self c.give_back.new.self.1.0 seen c.args.entry c.in-Some.place c.give_back.ensures (c.record.ensures.seen ∙ grown) last in (
      c.in-Some.ensures.some.2,
      omega (arith, last, prefix_length _ _ c.hold-held.ensures.grows.seen),
      search rules,
    )

pub returns-in-Some-clause-whole : goal.returns-in-Some-clause-whole
returns-in-Some-clause-whole g c all =
    let seen = seen_in c.hold-held.result in
    let old : c.state.result.now.entries.items ≡ seen = ap (history_of (λ (t : Tape). t.entries.items)) (sym c.state.ensures.value) ∙ c.hold-held.ensures.history in
    let grown : c.put.new.self.entries.items ≡ seen ++ c.args.entry ∷ [] = c.in-Some.ensures.some.0 ∙ ap (λ l. l ++ c.args.entry ∷ []) old in
    let last : c.in-Some.place ≡ length seen = c.in-Some.ensures.some.1 ∙ ap length old in
    let whole = c.hold-held.ensures.whole all in
    let now : seen_by c.give_back.new.self.1.0 ≡ seen_by c.args.pass.now ++ c.args.entry ∷ [] =
    (ap (λ vs. (view_of vs).known.seen) c.give_back.ensures.0 ∙ (c.record.ensures.seen ∙ grown)) ∙ ap (λ l. l ++ c.args.entry ∷ []) whole.seen in
    (last ∙ ap length whole.seen, search rules)
