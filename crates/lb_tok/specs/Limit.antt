-- The limits of a statement: how many bytes it may have, and how many brackets may be open in it at a time.
use Rattle.std.specs.Prelude.{ℕ, zero, suc, List, [], ◌∷◌, Bool, true, false, Option, Some, None}
use Rattle.lb_tok.specs.declared.token.Token.{Token}
use Rattle.lb_tok.specs.Kinds.{has, openers, closers}

-- the most bytes of a statement, and the most brackets that may be open at a time
abbrev pub most_statement_bytes : ℕ
most_statement_bytes = 4096

abbrev pub most_brackets : ℕ
most_brackets = 64

-- how many brackets may still open after a token: first whether it opens one, then whether it closes one
abbrev pub passed : Bool → Bool → ℕ → Option ℕ
passed true c zero = None
passed true c (suc d) = Some d
passed false true d = Some (suc d)
passed false false d = Some d

abbrev pub walk_on : Option ℕ → (ℕ → Option ℕ) → Option ℕ
walk_on None f = None
walk_on (Some d) f = f d

-- how many may still open after the tokens, where d may open before them; none where one opens too many
unfoldable pub walk : List Token → ℕ → Option ℕ
walk [] d = Some d
walk (t ∷ ts) d = walk_on (passed (has openers t.kind) (has closers t.kind) d) (walk ts)
