use Rattle.lb_tok.proofs.Spoken.{canonical_lexes, canonical_spells}
use Rattle.lb_tok.proofs.laws.canonical_text_spells_its_statement.Goals as goal

pub returns-clause-tokens : goal.returns-clause-tokens
returns-clause-tokens c = canonical_lexes

pub returns-clause-spells : goal.returns-clause-spells
returns-clause-spells c = canonical_spells
