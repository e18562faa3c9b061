-- When a text has no tokens.
use Rattle.std.specs.Prelude.{ℕ, ◌≡◌, ◌≤◌, ◌<◌, List, length, ◌⊎◌}
use Rattle.std.specs.Str.{IsValidUpTo}
use Rattle.lb_tok.specs.declared.lex.ReadFault.{ReadFault}
use Rattle.lb_tok.specs.declared.lex.ReadFault.TheVariants.{Syntax, NoMemory}
use Rattle.lb_tok.specs.Limit.{most_statement_bytes}

-- It has more than 4,096 bytes, or its longest front that is UTF-8 ends before it. Memory may always run out.
abbrev pub IsTextFault : List ℕ → ReadFault → Type 0
IsTextFault text NoMemory = Unit {0}
IsTextFault text (Syntax at) = ((most_statement_bytes < length text) × (at ≡ most_statement_bytes)) ⊎ ((length text ≤ most_statement_bytes) × IsValidUpTo text at)
