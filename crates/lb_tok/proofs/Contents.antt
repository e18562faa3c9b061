-- What is wanted of canonical pieces of expressions, conditions and queries.
use Rattle.std.proofs.Common.{true, false, ◌≡◌, ℕ, List}
use Rattle.std.specs.Prelude.{nat_le}
use Rattle.lb_tree.specs.declared.query.Expr.{Expr}
use Rattle.lb_tree.specs.declared.query.Cond.{Cond}
use Rattle.lb_tree.specs.declared.query.Query.{Query}
use Rattle.lb_tok.specs.declared.token.Token.{Token}
use Rattle.lb_tok.specs.Form.{Below}
use Rattle.lb_tok.specs.QueryPieces.{expr_phrase, expr_pieces, cond_phrase, cond_pieces, query_pieces}
use Rattle.lb_tok.specs.Grammar.{InExpr, InCond, InQuery, IsFact, IsTerm, IsConcat, IsExpr, IsPrim, IsNeg, IsConj, IsCond}
use Rattle.lb_tok.proofs.SpelledPieces.{Got, Spells}

-- ---- expressions

-- its pieces are of each level of the grammar that is no tighter than they hold together
pub record Formed (t : Below) (e : Expr) : Type 0 where
  pub fact : nat_le 3 (expr_phrase e).rank ≡ true → Spells IsFact t (expr_pieces e) e
  pub term : nat_le 2 (expr_phrase e).rank ≡ true → Spells IsTerm t (expr_pieces e) e
  pub joined : nat_le 1 (expr_phrase e).rank ≡ true → Spells IsConcat t (expr_pieces e) e
  pub whole : Spells IsExpr t (expr_pieces e) e

-- and where it is wanted tighter than that, brackets hold them
pub record Operand (r : ℕ) (t : Below) (e : Expr) : Type 0 where
  pub formed : Formed t e
  pub inner : nat_le r (expr_phrase e).rank ≡ false → Spells InExpr t (expr_pieces e) e

pub record ExprInside (t : Below) (e : Expr) : Type 0 where
  pub formed : Formed t e
  pub inner : Spells InExpr t (expr_pieces e) e

-- ---- conditions

pub record FormedCond (t : Below) (c : Cond) : Type 0 where
  pub prim : nat_le 3 (cond_phrase c).rank ≡ true → Spells IsPrim t (cond_pieces c) c
  pub neg : nat_le 2 (cond_phrase c).rank ≡ true → Spells IsNeg t (cond_pieces c) c
  pub conj : nat_le 1 (cond_phrase c).rank ≡ true → Spells IsConj t (cond_pieces c) c
  pub whole : Spells IsCond t (cond_pieces c) c

pub record OperandCond (r : ℕ) (t : Below) (c : Cond) : Type 0 where
  pub formed : FormedCond t c
  pub inner : nat_le r (cond_phrase c).rank ≡ false → Spells InCond t (cond_pieces c) c

pub record CondInside (t : Below) (c : Cond) : Type 0 where
  pub formed : FormedCond t c
  pub inner : Spells InCond t (cond_pieces c) c

-- ---- brackets

-- what brackets hold where s says so, is in canonical pieces as t says
pub record Turns (s t : Below) : Type 0 where
  pub expr : (ts : List Token) (e : Expr) → Got InExpr s ts e → ExprInside t e
  pub condition : (ts : List Token) (c : Cond) → Got InCond s ts c → CondInside t c
  pub query : (ts : List Token) (q : Query) → Got InQuery s ts q → Spells InQuery t (query_pieces q) q
