use Rattle.std.proofs.Common.{refl, sym, subst, ap, List, ◌≡◌, [], ◌∷◌, ◌++◌, length, Some}
use Rattle.lb_cat.specs.declared.entry.Entry.{Entry}
use Rattle.lb_cat.specs.declared.entry.Entry.TheVariants as entries
use Rattle.lb_journal.specs.Replay.{Rep}
use Rattle.lb_book.proofs.Growing.{told_rep}
use Rattle.lb_book.proofs.book.Book.change.Goals as goal

pub returns-clause-answer : goal.returns-clause-answer
returns-clause-answer g c =
    let J : List Entry = c.args.self.now.journal in
    let grown : c.publish-place.new.self.journal ≡ J ++ entries.Said c.args.said ∷ [] = ap (λ b. b.journal) c.publish-place.ensures.entered in
    record {
      grown = grown;
      place = ap Some c.publish-place.ensures.place;
      mark_is = refl;
      reply = subst (λ (I : List Entry). Rep I (length J) c.in_ok-changed.changed.reply) (sym grown)
          (told_rep J _ _ c.facts.ensures.replayed c.args.said c.args.stmt.now c.in_ok-changed.changed c.requires.speaks c.in_ok-changed.ensures);
    }
