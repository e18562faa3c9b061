-- How the parts of a label are read: piece by piece.
use Rattle.std.specs.Prelude.{List, ◌++◌}
use Rattle.std.proofs.Common.{inl, inr}
use Rattle.lb_stmt.specs.declared.change.LabelPart.{LabelPart}
use Rattle.lb_readd.specs.declared.parts.Piece.{Piece}
use Rattle.lb_readd.specs.declared.parts.Piece.TheVariants as pieces
use Rattle.lb_readd.specs.declared.parts.Parts.{Parts}
use Rattle.lb_readd.specs.Defining.{Next, parts_from}

abbrev pub piece_of : Piece → Next
piece_of (pieces.Element e) = inl e
piece_of (pieces.First c e) = inr (c, e)

-- the whole parts, and what the one that is begun goes on to
abbrev pub all_parts : Parts → List Next → List LabelPart
all_parts p more = p.whole ++ parts_from p.component p.elements more
