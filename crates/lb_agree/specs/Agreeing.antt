-- The one token that pieces of scripts know.
use Rattle.std.specs.Prelude.{codes}
use Rattle.lb_tok.specs.declared.token.Token.{Token}
use Rattle.lb_tok.specs.Lexing.{word_token}

-- the token of the word QUIT
abbrev pub quit_token : Token
quit_token = word_token (codes "QUIT")
