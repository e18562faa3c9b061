use Rattle.std.proofs.Common.{◌≡◌, ℕ, List, arith, rules, w32, subst}
use Rattle.std.proofs.lemmas.Int.{to_z-of_z}
use mir.Val.{to_z, of_z, SFits}
use Rattle.lb_tok.specs.Syntax.{IsTextOf}
use Rattle.lb_front.proofs.Committed.{stopped_unbuilt, stopped_full, no_truth}
use Rattle.lb_front.proofs.book.Book.prepare.Goals as goal

pub returns-then-is_unbuilt-clause-stopped : goal.returns-then-is_unbuilt-clause-stopped
returns-then-is_unbuilt-clause-stopped c =
    stopped_unbuilt c.args.self.now.journal.items c.args.self.now.limit c.args.self.now.store c.args.session.now.user c.args.text.now c.in_ok-stmt.field-0.stmt c.in_ok-stmt.ensures.read.reads (c.is_unbuilt.ensures.0 c.if-is_unbuilt.true)

pub returns-then-len-self-clause-stopped : goal.returns-then-len-self-clause-stopped
returns-then-len-self-clause-stopped c =
    stopped_full c.args.self.now.journal.items c.args.self.now.limit c.args.self.now.store c.args.session.now.user c.args.text.now c.in_ok-stmt.field-0.stmt c.requires.stands c.in_ok-stmt.ensures.read.reads
    (λ u. no_truth c.is_unbuilt.result (c.is_unbuilt.ensures.1 u) c.if-is_unbuilt.false)
    (omega (arith, c.len.ensures, c.if-len-self.true))

pub returns-clause-ready : goal.returns-clause-ready
returns-clause-ready c =
    let small : SFits w32 c.args.day = search rules in
    let e : to_z w32 (of_z w32 c.args.day) ≡ c.args.day = to_z-of_z w32 c.args.day small in
    record {
      again = record {
        reads = subst (λ (t : List ℕ). IsTextOf t c.in_ok-stmt.field-0.stmt) c.in_ok-stmt.ensures.read.canonical_text c.in_ok-stmt.ensures.read.again;
        again = c.in_ok-stmt.ensures.read.reads.again;
      };
      built = λ u. no_truth c.is_unbuilt.result (c.is_unbuilt.ensures.1 u) c.if-is_unbuilt.false;
      rows = c.in_ok-rows.ensures;
      said = rw (← c.in_ok-stmt.ensures.read.canonical_text) (rw e at c.in_ok-said.ensures);
      room = omega (arith, c.len.ensures, c.if-len-self.false);
    }
