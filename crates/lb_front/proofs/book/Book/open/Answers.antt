use Rattle.std.proofs.Common.{refl, sym, ◌∙◌, arith}
use Rattle.lb_front.proofs.Committed.{stands_opened, session_opened}
use Rattle.lb_front.proofs.book.Book.open.Goals as goal

pub returns-clause-session_of : goal.returns-clause-session_of
returns-clause-session_of c = session_opened _ _ _ _ _ c.requires.stands.made c.in-Ok.ensures.items c.requires.counted refl (c.in_ok-copy.ensures ∙ sym c.in_ok-user.ensures) (c.in_ok-copy-2.ensures ∙ sym c.in_ok-groups.ensures)

pub returns-clause-stands : goal.returns-clause-stands
returns-clause-stands c = stands_opened _ _ _ _ _ _ c.requires.stands (omega (arith, c.len-place.ensures, c.if-place-self.false)) c.in-Ok.ensures.items
