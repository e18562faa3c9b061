use Rattle.std.proofs.Common.{◌≡◌, take, map}
use Rattle.lb_tok.specs.declared.kind.Kind.TheVariants as kinds
use Rattle.lb_tok.specs.Spacing.{laid}
use Rattle.lb_tok.specs.QueryPieces.{behind}
use Rattle.lb_tok.specs.QueryPieces.{text_pieces}
use Rattle.lb_page.proofs.list.more_texts.Given as goal

abbrev pub invariant-loop-text : goal.invariant-loop-text
invariant-loop-text l = l.page ≡ laid l.initial.page (behind kinds.Comma (map text_pieces (take l.text-index l.texts)))
