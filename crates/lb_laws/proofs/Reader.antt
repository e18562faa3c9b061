-- What this crate needs of the reader, from the reader's own proofs.
use Rattle.lb_read.proofs.Texts as texts
use Rattle.lb_read.proofs.Trees as trees
use Rattle.lb_laws.proofs.Reading.{ReaderLaws}

pub reader : ReaderLaws
reader = record { apart = trees.apart; one_statement = trees.one_statement; not_both = texts.not_both; one_byte = texts.one_byte }
