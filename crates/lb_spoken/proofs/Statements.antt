-- The DATE literals of statements that some text spells are days.
use Rattle.std.proofs.Common.{Bool, ℕ, List}
use Rattle.std.specs.List.{AllByRecursion}
use Rattle.lb_tree.specs.declared.query.Cond.{Cond}
use Rattle.lb_tree.specs.declared.query.Expr.{Expr}
use Rattle.lb_tree.specs.declared.query.Query.{Query}
use Rattle.lb_tree.specs.declared.query.Select.{Select}
use Rattle.lb_stmt.specs.declared.write.Assignment.{Assignment}
use Rattle.lb_stmt.specs.declared.write.Insert.{Insert}
use Rattle.lb_stmt.specs.declared.write.Update.{Update}
use Rattle.lb_stmt.specs.declared.change.Change.{Change}
use Rattle.lb_stmt.specs.declared.write.Stmt.{Stmt}
use Rattle.lb_stmt.specs.declared.write.Stmt.TheVariants as stmts
use Rattle.lb_tok.specs.Form.{Below}
use Rattle.lb_tok.specs.Grammar.{IsSelect, IsRow, IsSource, IsInsert, IsAssignment, IsUpdate}
use Rattle.lb_tok.specs.Changes.{IsPermission, IsMask, IsCreateTable, IsCreateLabel, IsCreatePolicy, IsCreate, IsAdded, IsAlteredColumn, IsAlterTable, IsAlter, IsDropLabel, IsDrop, IsGrant, IsRevoke, IsChange, IsStmt}
use Rattle.lb_tok.specs.Spelled.{IsSpoken}
use Rattle.lb_kinds.specs.Days.{days_in, days_in_cond, days_in_query, AreDays}
use Rattle.lb_fits.specs.Dated.{SourceHasDays, WritesDays}
use Rattle.lb_spoken.specs.Laws.{DefinesDays}
use Rattle.lb_spoken.proofs.Gives.{Gives, anything, means, after, made, either, seq, past, bracket, listed, spoken_gives}
use Rattle.lb_spoken.proofs.Trees.{CondHas, Has, QueryHas}
use Rattle.lb_spoken.proofs.Terms.{Inside, step, expr_has, case_has}
use Rattle.lb_spoken.proofs.Conditions.{cond_has}
use Rattle.lb_spoken.proofs.Queries.{query_has, inside}

pub expr_days : (e : Expr) → Has e → AreDays (days_in e)
unfolding days_in
expr_days e p = p

pub cond_days : (c : Cond) → CondHas c → AreDays (days_in_cond c)
unfolding days_in_cond
cond_days c p = p

pub query_days : (q : Query) → QueryHas q → AreDays (days_in_query q)
unfolding days_in_query
query_days q p = p

-- ---- writes

module _ {s : Below} (u : Inside s) where
  select : Gives IsSelect s (λ (x : Select). AreDays (days_in_query x.query))
  select = seq (step (query_has u) query_days) (λ q p. past (λ o. made (anything (λ f. p))))

  row : Gives IsRow s (AllByRecursion (λ e. AreDays (days_in e)))
  row = bracket (listed (step u.expr expr_days))

  source : Gives IsSource s SourceHasDays
  source = either (after (made (listed row))) (made select)

  insert : Gives IsInsert s (λ (x : Insert). SourceHasDays x.source)
  insert = after (after (past (λ t. past (λ cs. made source))))

  assignment : Gives IsAssignment s (λ (x : Assignment). AreDays (days_in x.value))
  assignment = past (λ c. after (made (step (expr_has u) expr_days)))

  update : Gives IsUpdate s (λ (x : Update). AllByRecursion (λ a. AreDays (days_in a.value)) x.assignments)
  update = after (past (λ t. after (seq (listed assignment) (λ as' p. made (anything (λ w. p))))))

  writes : Gives IsStmt s WritesDays
  writes = either (either (made (anything (λ x. tt))) (either (made insert) (either (made update) (made (anything (λ x. tt)))))) (made (anything (λ x. tt)))

pub statements_have_days : (x : Stmt) → IsSpoken x → WritesDays x
statements_have_days x h = spoken_gives {C = WritesDays} (λ depth. writes (inside depth)) x h

-- ---- changes

module _ {s : Below} (u : Inside s) where
  table : Gives IsCreateTable s DefinesDays
  table = after (past (λ t. past (λ es. made (anything (λ p. tt)))))

  policy : Gives IsCreatePolicy s DefinesDays
  policy = after (past (λ n. after (past (λ cs. after (after (made (anything (λ o. tt))))))))

  label : Gives IsCreateLabel s DefinesDays
  label = either (after (past (λ n. made (anything (λ c. tt))))) (past (λ l. made (anything (λ ps. tt))))

  permission : (r : Bool) → Gives (IsPermission r) s DefinesDays
  permission r = after (past (λ n. after (past (λ t. after (after (after (seq (step (cond_has u) cond_days) (λ c p. after (after (after (after (made (anything (λ w. p))))))))))))))

  mask : (r : Bool) → Gives (IsMask r) s DefinesDays
  mask r = after (past (λ n. after (past (λ t. after (after (past (λ c. after (seq (step (case_has u) expr_days) (λ v p. made (anything (λ w. p)))))))))))

  create : Gives IsCreate s DefinesDays
  create = either table (either (after (either (after label) policy)) (either (after (made (anything (λ r. tt)))) (past (λ r. either (permission r) (mask r)))))

  added : (t : List ℕ) → Gives (IsAdded t) s DefinesDays
  added t = either (after (after (made (anything (λ p. tt))))) (past (λ k. past (λ c. made (anything (λ ty. tt)))))

  altered : (t : List ℕ) → Gives (IsAlteredColumn t) s DefinesDays
  altered t = past (λ k. past (λ c. either (after (after (made (anything (λ l. tt))))) (after (after (means tt)))))

  alter_table : Gives IsAlterTable s DefinesDays
  alter_table = after (past (λ t. either (after (added t)) (either (after (altered t)) (past (λ a. made (anything (λ b. tt)))))))

  alter : Gives IsAlter s DefinesDays
  alter = either alter_table (either (after (past (λ n. made (anything (λ w. tt))))) (after (past (λ n. made (anything (λ w. tt))))))

  drop_label : Gives IsDropLabel s DefinesDays
  drop_label = either (after (made (anything (λ n. tt)))) (made (anything (λ n. tt)))

  drop : Gives IsDrop s DefinesDays
  drop =
      either (after (made (anything (λ n. tt))))
      (either (after (made (anything (λ n. tt))))
      (either (after (made (anything (λ n. tt))))
      (either (after (made (anything (λ n. tt))))
      (after (either (after drop_label) (after (made (anything (λ n. tt)))))))))

  grant : Gives IsGrant s DefinesDays
  grant =
      either (after (after (past (λ l. after (past (λ u. made (anything (λ a. tt))))))))
      (either (after (past (λ r. after (made (anything (λ u. tt))))))
      (either (after (past (λ r. after (made (anything (λ u. tt))))))
      (either (after (after (after (after (made (anything (λ u. tt)))))))
      (past (λ rs. after (past (λ k. past (λ t. past (λ k. made (anything (λ g. tt)))))))))))

  revoke : Gives IsRevoke s DefinesDays
  revoke =
      either (after (after (past (λ l. after (made (anything (λ u. tt)))))))
      (either (after (past (λ r. after (made (anything (λ u. tt))))))
      (either (after (past (λ r. after (made (anything (λ u. tt))))))
      (either (after (after (after (after (made (anything (λ u. tt)))))))
      (past (λ rs. after (past (λ k. past (λ t. past (λ k. made (anything (λ g. tt)))))))))))

  change : Gives IsChange s DefinesDays
  change = either (after create) (either (after alter) (either (after drop) (either (after grant) (after revoke))))

-- what is said of a whole statement
abbrev ChangeHasDays : Stmt → Type 0
ChangeHasDays (stmts.Change c) = DefinesDays c
ChangeHasDays x = Unit {0}

stmt_has_days : {s : Below} → Inside s → Gives IsStmt s ChangeHasDays
stmt_has_days u = either (either (made (anything (λ x. tt))) (either (made (anything (λ x. tt))) (either (made (anything (λ x. tt))) (made (anything (λ x. tt)))))) (made (change u))

pub changes_have_days : (c : Change) → IsSpoken (stmts.Change c) → DefinesDays c
changes_have_days c h = spoken_gives {C = ChangeHasDays} (λ depth. stmt_has_days (inside depth)) (stmts.Change c) h
