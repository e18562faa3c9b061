use Rattle.std.proofs.Common.{◌≡◌, ◌∙◌, ap, length, arith, List, ◌∷◌, ◌++◌, []}
use Rattle.lb_cat.specs.declared.entry.Entry.{Entry}
use Rattle.lb_cat.specs.declared.entry.Entry.TheVariants as entries
use Rattle.lb_front.proofs.Committed.{committed, added_of, answer_is, stands_of, session_grown}
use Rattle.lb_front.proofs.book.Book.commit.Goals as goal

pub returns-clause-added : goal.returns-clause-added
returns-clause-added c = λ text reads.
    let grown = c.in-Ok.ensures.items ∙ ap (λ (xs : List Entry). xs ++ entries.Said c.args.prepared.said ∷ []) c.in_ok-reserve.ensures.items in
    let h = committed _ _ _ _ _ c.args.prepared c.in_ok-reply.reply c.requires.stands c.requires.session_of c.requires.ready c.requires.today c.in_ok-reply.ensures.ok in
    let place : c.len-place.result ≡ length c.args.self.now.journal.items = omega (arith, c.len-place.ensures, c.in_ok-reserve.ensures.len) in
    added_of _ _ _ _ _ text c.args.prepared c.in_ok-reply.reply _ h reads grown (answer_is _ c.len-place.result _ _ _ place c.mark_of-mark.ensures)

pub returns-clause-stands : goal.returns-clause-stands
returns-clause-stands c =
    let grown = c.in-Ok.ensures.items ∙ ap (λ (xs : List Entry). xs ++ entries.Said c.args.prepared.said ∷ []) c.in_ok-reserve.ensures.items in
    let h = committed _ _ _ _ _ c.args.prepared c.in_ok-reply.reply c.requires.stands c.requires.session_of c.requires.ready c.requires.today c.in_ok-reply.ensures.ok in
    stands_of _ _ _ _ _ c.args.prepared c.in_ok-reply.reply h grown

pub returns-clause-session_of : goal.returns-clause-session_of
returns-clause-session_of c =
    let grown = c.in-Ok.ensures.items ∙ ap (λ (xs : List Entry). xs ++ entries.Said c.args.prepared.said ∷ []) c.in_ok-reserve.ensures.items in
    let h = committed _ _ _ _ _ c.args.prepared c.in_ok-reply.reply c.requires.stands c.requires.session_of c.requires.ready c.requires.today c.in_ok-reply.ensures.ok in
    session_grown _ _ _ _ _ c.args.prepared c.in_ok-reply.reply h grown
