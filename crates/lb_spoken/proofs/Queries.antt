-- The DATE literals of queries that the grammar spells are days.
use Rattle.std.proofs.Common.{ℕ, zero, suc}
use Rattle.std.specs.List.{AllByRecursion}
use Rattle.lb_tree.specs.declared.query.Cond.{Cond}
use Rattle.lb_tree.specs.declared.query.Tab.{Tab}
use Rattle.lb_tok.specs.Form.{Below}
use Rattle.lb_tok.specs.Grammar.{IsItem, IsItems, IsOn, IsJoin, IsChain, IsWhere, IsHaving, IsQuery, level}
use Rattle.lb_spoken.proofs.Gives.{Gives, IfGiven, means, after, made, either, seq, past, anything, many, listed, optional}
use Rattle.lb_spoken.proofs.Trees.{CondHas, ItemHas, JoinHas, ChainHas, QueryHas, everything_days, allof_days, value_days, inner_days, left_days, cross_days, chain_days, query_days}
use Rattle.lb_spoken.proofs.Terms.{Inside, step, expr_has}
use Rattle.lb_spoken.proofs.Conditions.{cond_has}

module _ {s : Below} (u : Inside s) where
  item : Gives IsItem s ItemHas
  item = either (past (λ n. after (means (allof_days n)))) (seq (expr_has u) (λ e p. made (anything (λ a. value_days e a p))))

  select_items : Gives IsItems s (AllByRecursion ItemHas)
  select_items = either (means (everything_days, tt)) (listed item)

  on : Gives IsOn s (λ (x : Tab × Cond). CondHas x.1)
  on = after (past (λ t. after (made (cond_has u))))

  join : Gives IsJoin s JoinHas
  join =
      either (after (past (λ w. made (step on (λ x p. left_days x.0 x.1 p)))))
      (either (after (after (made (anything (λ t. cross_days t)))))
      (past (λ w. made (step on (λ x p. inner_days x.0 x.1 p)))))

  chain : Gives IsChain s ChainHas
  chain = past (λ t. made (step (many join) (λ js p. chain_days t js p)))

  pub where_has : Gives IsWhere s (IfGiven CondHas)
  where_has = optional (after (cond_has u))

  having : Gives IsHaving s (IfGiven CondHas)
  having = optional (after (cond_has u))

  pub query_has : Gives IsQuery s QueryHas
  query_has = after (past (λ d. seq select_items (λ is i. after (seq (listed chain) (λ cs f. seq where_has (λ w p. past (λ g. made (step having (λ h r. query_days d is cs w g h i f p r)))))))))

-- brackets of any depth hold what has days for its DATE literals
pub inside : (depth : ℕ) → Inside (level depth)
unfolding level
inside zero = record { expr = record { of = λ ts x g. absurd g.spelled }; condition = record { of = λ ts x g. absurd g.spelled }; query = record { of = λ ts x g. absurd g.spelled } }
inside (suc depth) =
    let u = inside depth in
    record {
      expr = record { of = λ ts x g. (expr_has u).of ts x (record { written = g.written; spelled = g.spelled }) };
      condition = record { of = λ ts x g. (cond_has u).of ts x (record { written = g.written; spelled = g.spelled }) };
      query = record { of = λ ts x g. (query_has u).of ts x (record { written = g.written; spelled = g.spelled }) };
    }
