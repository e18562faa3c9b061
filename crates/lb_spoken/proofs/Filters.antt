-- The DATE literals of the rows that a spelled statement looks for are days.
use Rattle.std.proofs.Common.{Option, Some, None}
use Rattle.std.specs.List.{AllByRecursion}
use Rattle.lb_tree.specs.declared.query.Cond.{Cond}
use Rattle.lb_tree.specs.declared.query.SortKey.{SortKey}
use Rattle.lb_stmt.specs.declared.write.Delete.{Delete}
use Rattle.lb_stmt.specs.declared.write.Insert.{Insert}
use Rattle.lb_stmt.specs.declared.write.Update.{Update}
use Rattle.lb_stmt.specs.declared.write.Stmt.{Stmt}
use Rattle.lb_tok.specs.Form.{Below}
use Rattle.lb_tok.specs.Grammar.{IsSortKey, IsOrder, IsSelect, IsSource, IsInsert, IsUpdate, IsDelete, IsWhere}
use Rattle.lb_tok.specs.Changes.{IsStmt}
use Rattle.lb_tok.specs.Spelled.{IsSpoken}
use Rattle.lb_kinds.specs.Days.{days_in, AreDays}
use Rattle.lb_fits.specs.Dated.{SelectHasDays, FilterHasDays, SourceReadsDays, ReadsDays}
use Rattle.lb_spoken.proofs.Gives.{Gives, IfGiven, anything, nothing, after, made, either, seq, past, listed, spoken_gives}
use Rattle.lb_spoken.proofs.Trees.{CondHas}
use Rattle.lb_spoken.proofs.Terms.{Inside, step, expr_has}
use Rattle.lb_spoken.proofs.Queries.{query_has, where_has, inside}
use Rattle.lb_spoken.proofs.Statements.{expr_days, cond_days, query_days}

filter_days : (f : Option Cond) → IfGiven CondHas f → FilterHasDays f
filter_days None p = tt
filter_days (Some c) p = cond_days c p

module _ {s : Below} (u : Inside s) where
  key : Gives IsSortKey s (λ (k : SortKey). AreDays (days_in k.by))
  key = seq (step (expr_has u) expr_days) (λ e p. made (anything (λ d. p)))

  order : Gives IsOrder s (AllByRecursion (λ (k : SortKey). AreDays (days_in k.by)))
  order = either (after (after (listed key))) (nothing tt)

  select : Gives IsSelect s SelectHasDays
  select = seq (step (query_has u) query_days) (λ q p. seq order (λ o r. made (anything (λ f. (p, r)))))

  source : Gives IsSource s SourceReadsDays
  source = either (after (made (anything (λ rows. tt)))) (made select)

  insert : Gives IsInsert s (λ (x : Insert). SourceReadsDays x.source)
  insert = after (after (past (λ t. past (λ cs. made source))))

  filter : Gives IsWhere s FilterHasDays
  filter = step (where_has u) filter_days

  update : Gives IsUpdate s (λ (x : Update). FilterHasDays x.filter)
  update = after (past (λ t. after (past (λ xs. made filter))))

  delete : Gives IsDelete s (λ (x : Delete). FilterHasDays x.filter)
  delete = after (after (past (λ t. made filter)))

  reads : Gives IsStmt s ReadsDays
  reads = either (either (made select) (either (made insert) (either (made update) (made delete)))) (made (anything (λ c. tt)))

pub statements_read_days : (x : Stmt) → IsSpoken x → ReadsDays x
statements_read_days x h = spoken_gives {C = ReadsDays} (λ depth. reads (inside depth)) x h
