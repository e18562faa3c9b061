use Rattle.std.proofs.Common.{refl, sym, subst, ap, List, ◌≡◌, [], ◌∷◌, ◌++◌, length, Some}
use Rattle.lb_cat.specs.declared.entry.Entry.{Entry}
use Rattle.lb_cat.specs.declared.entry.Entry.TheVariants as entries
use Rattle.lb_journal.specs.Replay.{Rep}
use Rattle.lb_book.proofs.Growing.{given_rep}
use Rattle.lb_book.proofs.book.Book.commit_here.Goals as goal

pub returns-clause-answer : goal.returns-clause-answer
returns-clause-answer g c =
    let J : List Entry = c.args.self.now.journal in
    let grown : c.commit-place.new.self.journal ≡ J ++ entries.Said c.args.said ∷ [] = ap (λ b. b.journal) c.commit-place.ensures.entered in
    record {
      grown = grown;
      place = ap Some c.commit-place.ensures.place;
      mark_is = refl;
      reply = subst (λ (I : List Entry). Rep I (length J) c.in_ok-reply.field-0.reply) (sym grown)
          (given_rep J _ _ c.facts.ensures.replayed c.args.said c.args.stmt.now _ c.requires.speaks c.requires.kind c.in_ok-reply.ensures.reply);
    }
