-- The canonical text of a spoken statement has that statement's tokens.
use Rattle.std.proofs.Common.{◌≡◌, ℕ, zero, suc, ◌+◌, ◌≤◌, List, [], ◌∷◌, length, Option, None, sym, subst, arith}
use Rattle.lb_stmt.specs.declared.write.Stmt.{Stmt}
use Rattle.lb_tok.specs.declared.token.Token.{Token}
use Rattle.lb_tok.specs.declared.token.Span.{Span}
use Rattle.lb_tok.specs.Lexing.{LexedFrom}
use Rattle.lb_tok.specs.Form.{Below, Lang}
use Rattle.lb_tok.specs.Spacing.{tokens_in}
use Rattle.lb_tok.specs.Grammar.{IsExpr, IsCond, IsQuery, level}
use Rattle.lb_tok.specs.Changes.{IsStmt, IsStatement}
use Rattle.lb_tok.specs.Canonical.{stmt_pieces, tokens_of, canonical}
use Rattle.lb_tok.specs.Spelled.{AreTokens as AreTokensOf, IsSpoken, Spelled}
use Rattle.lb_tok.proofs.Texts.{one_lexing}
use Rattle.lb_tok.proofs.Fitting.{spaced_lexes}
use Rattle.lb_tok.proofs.SpelledPieces.{Got, AreTokens, unmake, which, Spells, made, left, right}
use Rattle.lb_tok.proofs.Contents.{Turns}
use Rattle.lb_tok.proofs.SpelledExpressions.{expr-turn}
use Rattle.lb_tok.proofs.SpelledConditions.{Room, cond-turn}
use Rattle.lb_tok.proofs.SpelledQueries.{query-turn, query_or_write-turn}
use Rattle.lb_tok.proofs.SpelledChanges.{change-turn}

-- ---- brackets

opened : {A : Type 0} {P Q : Lang A} {s t : Below} {ts : List Token} {x : A} → (P s ts x → Q t ts x) → Got P s ts x → Got Q t ts x
opened f g = record { written = g.written; spelled = f g.spelled }

room_of : (d k : ℕ) → Turns (level d) (level (suc k)) → Turns (level d) (level k) → Room (level d) (level (suc k))
unfolding level
room_of d k u v = record { here = u; below = level k; lower = v; lift = λ ts c p. p }

-- brackets of d levels hold brackets of at most twice as many in canonical pieces
turns : (d k : ℕ) → d + d ≤ k → Turns (level d) (level k)
unfolding level
turns zero k le = record { expr = λ ts e g. absurd g.spelled; condition = λ ts c g. absurd g.spelled; query = λ ts q g. absurd g.spelled }
turns (suc d) zero le = absurd (omega arith)
turns (suc d) (suc zero) le = absurd (omega arith)
turns (suc d) (suc (suc k)) le =
    let low = turns d k (omega arith) in
    let one = turns d (suc k) (omega arith) in
    let two = turns d (suc (suc k)) (omega arith) in
    record {
      expr = λ ts e g.
          let h : Got IsExpr (level d) ts e = record { written = g.written; spelled = g.spelled } in
          let w = (expr-turn one ts e h).whole in
          record { formed = expr-turn two ts e h; inner = record { spelled = w.spelled; runs = w.runs } };
      condition = λ ts c g.
          let h : Got IsCond (level d) ts c = record { written = g.written; spelled = g.spelled } in
          let w = (cond-turn (room_of d k one low) ts c h).whole in
          record { formed = cond-turn (room_of d (suc k) two one) ts c h; inner = record { spelled = w.spelled; runs = w.runs } };
      query = λ ts q g.
          let h : Got IsQuery (level d) ts q = record { written = g.written; spelled = g.spelled } in
          let w = query-turn (room_of d k one low) ts q h in
          record { spelled = w.spelled; runs = w.runs };
    }

-- ---- statements

stmt-turn : {s t : Below} → Room s t → (ts : List Token) (x : Stmt) → Got IsStmt s ts x → Spells IsStmt t (stmt_pieces x) x
stmt-turn {s} {t} room ts x g =
    which g
    (λ a. left (query_or_write-turn room ts x a))
    (λ a. let q = unmake a in subst (λ (y : Stmt). Spells IsStmt t (stmt_pieces y) y) (sym q.is) (right (made (change-turn room q.tokens q.tree q.got))))

-- the tokens of a text are tokens that some text has
are_tokens : (ts : List Token) (spans : List Span) (at : ℕ) (bs : List ℕ) (stop : Option ℕ) → LexedFrom at bs ts spans stop → AreTokens ts
are_tokens [] spans at bs stop h = tt
are_tokens (t ∷ ts) [] at bs stop h = absurd h
are_tokens (t ∷ ts) (s ∷ ss) at bs stop h = ((h.1, h.4), are_tokens ts ss (at + length h.0 + length h.1) h.2 stop h.8)

-- the tokens of the canonical text, and how many brackets their spelling may open
record Turned (s : Stmt) : Type 0 where
  pub spans : List Span
  pub lexed : LexedFrom 0 (canonical s) (tokens_of s) spans None
  pub depth : ℕ
  pub spelled : IsStmt (level depth) (tokens_of s) s

turned : (s : Stmt) → IsSpoken s → Turned s
unfolding canonical
turned s (text, (ts, (spans, lexed), (depth, spelled))) =
    let room = room_of depth (depth + depth) (turns depth (suc (depth + depth)) (omega arith)) (turns depth (depth + depth) (omega arith)) in
    let p = stmt-turn room ts s (record { written = are_tokens ts spans 0 text None lexed; spelled = spelled }) in
    let q = spaced_lexes (stmt_pieces s) p.runs in
    record { spans = q.0; lexed = q.1; depth = suc (depth + depth); spelled = p.spelled }

pub canonical_lexes : (s : Stmt) → IsSpoken s → AreTokensOf (canonical s) (tokens_of s)
canonical_lexes s h = let w = turned s h in (w.spans, w.lexed)

pub canonical_is_spelled : (s : Stmt) → IsSpoken s → IsStatement (tokens_of s) s
canonical_is_spelled s h = let w = turned s h in (w.depth, w.spelled)

pub canonical_spells : (s : Stmt) → IsSpoken s → Spelled (canonical s) s
canonical_spells s h = (tokens_of s, canonical_lexes s h, canonical_is_spelled s h)

-- where no tokens have two trees, statements with one canonical text are equal
pub same_text : ((ts : List Token) (a b : Stmt) → IsStatement ts a → IsStatement ts b → a ≡ b) → (a b : Stmt) → IsSpoken a → IsSpoken b → canonical a ≡ canonical b → a ≡ b
same_text unique a b h k e =
    let p = canonical_spells a h in
    let q = subst (λ (text : List ℕ). Spelled text b) (sym e) (canonical_spells b k) in
    let same = (one_lexing p.0 q.0 0 (canonical a) p.1.0 q.1.0 None None p.1.1 q.1.1).tokens in
    unique p.0 a b p.2 (subst (λ (ts : List Token). IsStatement ts b) (sym same) q.2)
