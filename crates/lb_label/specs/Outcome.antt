-- What adding an element to a component answers: the first cause to refuse it, or out of memory.
use Rattle.std.specs.Prelude.{◌≡◌, Option, None, Some, Result, Ok, Err}
use Rattle.lb_label.specs.declared.component.ElementFault.{ElementFault}
use Rattle.lb_label.specs.declared.component.ElementFault.TheVariants.{TooMany, BadElement, Repeated, NoParent, NoMemory}

-- A fault is the first cause to refuse, or NoMemory where there is no such cause.
abbrev pub IsFault : ElementFault → Option ElementFault → Type 0
IsFault (TooMany most) cause = cause ≡ Some (TooMany most)
IsFault BadElement cause = cause ≡ Some BadElement
IsFault Repeated cause = cause ≡ Some Repeated
IsFault NoParent cause = cause ≡ Some NoParent
IsFault NoMemory cause = cause ≡ None
