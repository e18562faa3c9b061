-- What stands before a part of a list.
use Rattle.std.specs.Prelude.{ℕ, zero, suc, List, [], ◌∷◌}
use Rattle.lb_tok.specs.declared.kind.Kind.{Kind}
use Rattle.lb_tok.specs.Spacing.{Piece, mark}

-- nothing before the first part, which is at 0, and the symbol before each other
abbrev pub separator : Kind → ℕ → List Piece
separator k zero = []
separator k (suc n) = mark k ∷ []
