-- A canonical text that is UTF-8 and keeps both limits is read as its statement: its tokens spell the statement, and where a
-- statement's tokens keep the limit on brackets, as many are closed as are opened.
use Rattle.std.proofs.Common.{inl, inr, ◌⊎◌, ◌≡◌, ◌≤◌, ◌<◌, ℕ, List, [], length, Option, Some, None, refl, subst}
use Rattle.std.specs.Prelude.{IsUtf8}
use Rattle.std.proofs.lemmas.Bool.{cases_lt}
use Rattle.lb_stmt.specs.declared.write.Stmt.{Stmt}
use Rattle.lb_tok.specs.declared.token.Token.{Token}
use Rattle.lb_tok.specs.Canonical.{canonical, tokens_of}
use Rattle.lb_tok.specs.Changes.{IsDefinition, IsStatement}
use Rattle.lb_tok.specs.Form.{Lang}
use Rattle.lb_tok.specs.Grammar.{IsQueryOrWrite}
use Rattle.lb_tok.specs.Kinds.{Kinds}
use Rattle.lb_tok.specs.Limit.{most_statement_bytes, most_brackets, walk}
use Rattle.lb_tok.specs.Refusals.{Spells}
use Rattle.lb_tok.specs.Spelled.{IsSpoken}
use Rattle.lb_tok.specs.Syntax.{IsTextOf, IsBeyond}
use Rattle.lb_tok.proofs.Spoken.{canonical_lexes, canonical_is_spelled}
use Rattle.lb_readt.specs.Readers.{Answer, Reader}
use Rattle.lb_readq.specs.Judging.{Judged}
use Rattle.lb_readq.proofs.Whole.{Whole', judges, complete}
use Rattle.lb_readq.proofs.Writes as writes
use Rattle.lb_readd.proofs.Defined as defined
use Rattle.lb_readd.proofs.Choice.{are_all}

balanced : {P : Lang Stmt} {f : ℕ → Reader Stmt} {F E : Kinds} → Whole' P f F E → (d e : ℕ) (ts : List Token) (s : Stmt) → Spells P ts s → walk ts d ≡ Some e → walk ts d ≡ Some d
balanced {P} {f} {F} {E} w d e ts s p h = (subst (λ (a : Answer Stmt). Judged P d ts a) (complete w d e ts s p h) (judges w d ts)).2

all_balanced : (d e : ℕ) (ts : List Token) (s : Stmt) → IsStatement ts s → walk ts d ≡ Some e → walk ts d ≡ Some d
all_balanced d e ts s p h = go ((are_all ts s).0 p)
  where
    go : Spells IsQueryOrWrite ts s ⊎ Spells IsDefinition ts s → walk ts d ≡ Some d
    go (inl a) = balanced writes.whole d e ts s a h
    go (inr a) = balanced defined.whole d e ts s a h

short_enough : (n : ℕ) → (most_statement_bytes < n → ⊥) → n ≤ most_statement_bytes
short_enough n h = go (cases_lt most_statement_bytes n)
  where
    go : (most_statement_bytes < n) ⊎ (n ≤ most_statement_bytes) → n ≤ most_statement_bytes
    go (inl l) = absurd (h l)
    go (inr m) = m

closed : (s : Stmt) → IsSpoken s → (IsBeyond s → ⊥) → (o : Option ℕ) → walk (tokens_of s) most_brackets ≡ o → walk (tokens_of s) most_brackets ≡ Some most_brackets
closed s h k None e = absurd (k (inr e))
closed s h k (Some d) e = all_balanced most_brackets d (tokens_of s) s (canonical_is_spelled s h) e

pub within : (s : Stmt) → IsSpoken s → IsUtf8 (canonical s) → (IsBeyond s → ⊥) → IsTextOf (canonical s) s
within s h u k =
    let p = canonical_lexes s h in
    record {
      short = short_enough (length (canonical s)) (λ l. k (inl l));
      utf8 = u;
      found = record { tokens = tokens_of s; spans = p.0; stop = None; length = length (canonical s) };
      lexed = (p.1, refl);
      read = (refl, canonical_is_spelled s h, closed s h k (walk (tokens_of s) most_brackets) refl);
    }
