-- The readers of INSERT, UPDATE and DELETE are exact for their productions.
use Rattle.std.proofs.Common.{Bool, true, false, ℕ, [], ◌++◌, refl}
use Rattle.lb_stmt.specs.declared.write.InsertSource.TheVariants as sources
use Rattle.lb_stmt.specs.declared.write.Stmt.TheVariants as stmts
use Rattle.lb_tok.specs.declared.kind.Kind.TheVariants as kinds
use Rattle.lb_tok.specs.Kinds.{Kinds, only, names}
use Rattle.lb_tok.specs.Form.{Listed}
use Rattle.lb_tok.specs.Grammar.{InExpr, IsName, IsRow, IsSource, IsTargets, IsInsert, IsAssignment, IsUpdate, IsDelete, IsQueryOrWrite}
use Rattle.lb_readt.specs.Readers.{listed}
use Rattle.lb_readt.specs.Tokens.{name_at}
use Rattle.lb_reade.specs.Expressions.{Readers}
use Rattle.lb_readq.specs.Queries.{readers, in_row_at, row_at, source_at, targets_at, insert_at, assignment_at, update_at, delete_at, query_or_write_at}
use Rattle.lb_readt.proofs.Combined.{IsReaderOf, then_reads, pick_reads, wide, made_reads, after_reads, optional_reads, listed_reads}
use Rattle.lb_reade.proofs.Inner.{in_fact}
use Rattle.lb_readt.proofs.Tokens.{name_reads}
use Rattle.lb_reade.proofs.Expressions.{after_expr, after_cond, Content', Ready, parens_reads, expr_reads}
use Rattle.lb_readq.proofs.Whole.{Whole'}
use Rattle.lb_readq.proofs.Queries.{ready, tab_reads, where_reads, after_select, select_reads}

-- expr {, expr} in brackets
pub in_row : (w : Readers) → Content' w (in_row_at w) (Listed InExpr) in_fact (after_expr ++ (only kinds.Comma ++ after_expr))
unfolding in_row_at
in_row w = record { reads = λ b d l. listed_reads l.expr refl }

-- name {, name} in brackets
pub in_names : (w : Readers) → Content' w (listed name_at) (Listed IsName) names (only kinds.Comma)
in_names w = record { reads = λ b d l. wide _ _ refl refl refl (listed_reads name_reads refl) }

row_reads : {b : Bool} {d : ℕ} {w : Readers} → Ready d w → IsReaderOf b d (row_at w) IsRow false (only kinds.Open) []
unfolding row_at
row_reads {b} {d} {w} r = parens_reads r (in_row w) refl

source_reads : {b : Bool} {d : ℕ} {w : Readers} → Ready d w → IsReaderOf b d (source_at w) IsSource false (only kinds.Values ++ only kinds.Select) (only kinds.Comma ++ after_select)
unfolding source_at
source_reads r = wide _ _ refl refl refl (pick_reads (after_reads kinds.Values refl (made_reads sources.Rows (listed_reads (row_reads r) refl))) (made_reads sources.Query (select_reads r)) refl)

targets_reads : {b : Bool} {d : ℕ} {w : Readers} → Ready d w → IsReaderOf b d (targets_at w) IsTargets true (only kinds.Open) (only kinds.Open)
unfolding targets_at
targets_reads {b} {d} {w} r = wide _ _ refl refl refl (optional_reads (parens_reads r (in_names w) refl))

insert_reads : {b : Bool} {d : ℕ} {w : Readers} → Ready d w → IsReaderOf b d (insert_at w) IsInsert false (only kinds.Insert) (only kinds.Comma ++ after_select)
unfolding insert_at
insert_reads r = wide _ _ refl refl refl (after_reads kinds.Insert refl (after_reads kinds.Into refl (then_reads name_reads (λ t. then_reads (targets_reads r) (λ cs. made_reads (λ s. record { table = t; columns = cs; source = s }) (source_reads r)) refl) refl)))

assignment_reads : {b : Bool} {d : ℕ} {w : Readers} → Ready d w → IsReaderOf b d (assignment_at w) IsAssignment false names after_expr
unfolding assignment_at
assignment_reads r = wide _ _ refl refl refl (then_reads name_reads (λ c. after_reads kinds.Equal refl (made_reads (λ v. record { column = c; value = v }) (expr_reads r))) refl)

abbrev after_where : Kinds
after_where = only kinds.Where ++ after_cond

update_reads : {b : Bool} {d : ℕ} {w : Readers} → Ready d w → IsReaderOf b d (update_at w) IsUpdate false (only kinds.Update) (only kinds.Comma ++ after_where)
unfolding update_at
update_reads r = wide _ _ refl refl refl (after_reads kinds.Update refl (then_reads tab_reads (λ t. after_reads kinds.Set refl (then_reads (listed_reads (assignment_reads r) refl) (λ as'. made_reads (λ f. record { target = t; assignments = as'; filter = f }) (where_reads r)) refl)) refl))

delete_reads : {b : Bool} {d : ℕ} {w : Readers} → Ready d w → IsReaderOf b d (delete_at w) IsDelete false (only kinds.Delete) (only kinds.As ++ names ++ after_where)
unfolding delete_at
delete_reads r = wide _ _ refl refl refl (after_reads kinds.Delete refl (after_reads kinds.From refl (then_reads tab_reads (λ t. made_reads (λ f. record { target = t; filter = f }) (where_reads r)) refl)))

-- what begins a query or a write
abbrev pub in_statement : Kinds
in_statement = only kinds.Select ++ only kinds.Insert ++ only kinds.Update ++ only kinds.Delete

abbrev pub after_statement : Kinds
after_statement = only kinds.As ++ names ++ after_where ++ only kinds.Comma ++ after_select

pub statement_reads : {b : Bool} {d : ℕ} {w : Readers} → Ready d w → IsReaderOf b d (query_or_write_at w) IsQueryOrWrite false in_statement after_statement
unfolding query_or_write_at
statement_reads r = wide _ _ refl refl refl (pick_reads (made_reads stmts.Select (select_reads r)) (pick_reads (made_reads stmts.Insert (insert_reads r)) (pick_reads (made_reads stmts.Update (update_reads r)) (made_reads stmts.Delete (delete_reads r)) refl) refl) refl)

-- of every depth
pub whole : Whole' IsQueryOrWrite (λ d. query_or_write_at (readers d)) in_statement after_statement
whole = record { exact = λ d. (statement_reads {b = true} {d = d} (ready d)).exact refl }
