use Rattle.std.proofs.Common.{◌≡◌, refl, sym, ◌∙◌, ap, subst}
use Rattle.std.specs.Prelude.{IfOk}
use Rattle.std.proofs.Common.{map}
use Rattle.lb_tree.specs.declared.query.Cond.TheViews.{out-Query}
use Rattle.lb_tree.specs.Folds as folds
use Rattle.lb_names.specs.Sights.{inside, calls_of}
use Rattle.lb_names.specs.Marks.{marked, mark_steps, tables_of, of_each, column}
use Rattle.lb_names.specs.Passes.{all_own}
use Rattle.lb_names.specs.Carriers.{chain_marked}
use Rattle.lb_names.specs.Typing.{shows}
use Rattle.lb_scope.specs.Found.{catalogue}
use Rattle.lb_walk.specs.Opened.{chain_of, own_chains}
use Rattle.lb_walk.proofs.OwnQueries.{query_is_own}
use Rattle.lb_walk.proofs.OwnParts as parts
use Rattle.lb_walk.proofs.own.+own.Goals as goal

pub cond_own-returns-then-not-branch : goal.cond_own-returns-then-not-branch
cond_own-returns-then-not-branch t c = parts.first_not _ _ _ (parts.compare_own (catalogue c.args.catalog.now) c.args.level c.args.sight.now c.args.cond.now c.in-Compare.field-0 c.in-Compare.left c.get-in-Compare.result.now c.in-Compare.right c.in-Compare.right c.in-Compare.is c.get-in-Compare.ensures refl) (sym c.if-not-branch.true ∙ c.in_ok-expr_own-in-Compare.ensures)

pub cond_own-returns-else-not-branch : goal.cond_own-returns-else-not-branch
cond_own-returns-else-not-branch t c = parts.first_own _ _ _ _ _ (parts.compare_own (catalogue c.args.catalog.now) c.args.level c.args.sight.now c.args.cond.now c.in-Compare.field-0 c.in-Compare.left c.get-in-Compare.result.now c.in-Compare.right c.get-in-Compare-2.result.now c.in-Compare.is c.get-in-Compare.ensures c.get-in-Compare-2.ensures) (sym c.if-not-branch.false ∙ c.in_ok-expr_own-in-Compare.ensures) c.expr_own-in-Compare.ensures

pub cond_own-returns-then-not-branch-2 : goal.cond_own-returns-then-not-branch-2
cond_own-returns-then-not-branch-2 t c = parts.first_not _ _ _ (parts.comparequery_own (catalogue c.args.catalog.now) c.args.level c.args.sight.now c.args.cond.now c.in-CompareQuery.field-0 c.in-CompareQuery.left c.get-in-CompareQuery.result.now c.in-CompareQuery.query c.in-CompareQuery.query c.in-CompareQuery.is c.get-in-CompareQuery.ensures refl) (sym c.if-not-branch-2.true ∙ c.in_ok-expr_own-in-CompareQuery.ensures)

pub cond_own-returns-else-not-branch-2 : goal.cond_own-returns-else-not-branch-2
cond_own-returns-else-not-branch-2 t c = parts.first_own _ _ _ _ _ (parts.comparequery_own (catalogue c.args.catalog.now) c.args.level c.args.sight.now c.args.cond.now c.in-CompareQuery.field-0 c.in-CompareQuery.left c.get-in-CompareQuery.result.now c.in-CompareQuery.query c.get-in-CompareQuery-2.result.now c.in-CompareQuery.is c.get-in-CompareQuery.ensures c.get-in-CompareQuery-2.ensures) (sym c.if-not-branch-2.false ∙ c.in_ok-expr_own-in-CompareQuery.ensures) c.query_own-in-CompareQuery.ensures

pub cond_own-returns-then-not-branch-3 : goal.cond_own-returns-then-not-branch-3
cond_own-returns-then-not-branch-3 t c = parts.first_not _ _ _ (parts.inquery_own (catalogue c.args.catalog.now) c.args.level c.args.sight.now c.args.cond.now c.in-InQuery.part c.get-in-InQuery.result.now c.in-InQuery.query c.in-InQuery.query c.in-InQuery.is c.get-in-InQuery.ensures refl) (sym c.if-not-branch-3.true ∙ c.in_ok-expr_own-in-InQuery.ensures)

pub cond_own-returns-else-not-branch-3 : goal.cond_own-returns-else-not-branch-3
cond_own-returns-else-not-branch-3 t c = parts.first_own _ _ _ _ _ (parts.inquery_own (catalogue c.args.catalog.now) c.args.level c.args.sight.now c.args.cond.now c.in-InQuery.part c.get-in-InQuery.result.now c.in-InQuery.query c.get-in-InQuery-2.result.now c.in-InQuery.is c.get-in-InQuery.ensures c.get-in-InQuery-2.ensures) (sym c.if-not-branch-3.false ∙ c.in_ok-expr_own-in-InQuery.ensures) c.query_own-in-InQuery.ensures

pub cond_own-returns-then-not-branch-4 : goal.cond_own-returns-then-not-branch-4
cond_own-returns-then-not-branch-4 t c = parts.first_not _ _ _ (parts.inlist_own (catalogue c.args.catalog.now) c.args.level c.args.sight.now c.args.cond.now c.in-InList.part c.get-in-InList.result.now c.in-InList.list c.in-InList.list c.in-InList.is c.get-in-InList.ensures refl) (sym c.if-not-branch-4.true ∙ c.in_ok-expr_own-in-InList.ensures)

pub cond_own-returns-else-not-branch-4 : goal.cond_own-returns-else-not-branch-4
cond_own-returns-else-not-branch-4 t c = parts.first_own _ _ _ _ _ (parts.inlist_own (catalogue c.args.catalog.now) c.args.level c.args.sight.now c.args.cond.now c.in-InList.part c.get-in-InList.result.now c.in-InList.list c.as_slice-in-InList.result.now c.in-InList.is c.get-in-InList.ensures c.as_slice-in-InList.ensures) (sym c.if-not-branch-4.false ∙ c.in_ok-expr_own-in-InList.ensures) c.exprs_own.ensures

pub cond_own-returns-then-not-branch-5 : goal.cond_own-returns-then-not-branch-5
cond_own-returns-then-not-branch-5 t c = parts.first_not _ _ _ (parts.between_own (catalogue c.args.catalog.now) c.args.level c.args.sight.now c.args.cond.now c.in-Between.part c.get-in-Between.result.now c.in-Between.low c.in-Between.low c.in-Between.high c.in-Between.high c.in-Between.is c.get-in-Between.ensures refl refl) (sym c.if-not-branch-5.true ∙ c.in_ok-expr_own-in-Between.ensures)

pub cond_own-returns-then-not-branch-6 : goal.cond_own-returns-then-not-branch-6
cond_own-returns-then-not-branch-6 t c = parts.second_not _ _ _ _ (parts.between_own (catalogue c.args.catalog.now) c.args.level c.args.sight.now c.args.cond.now c.in-Between.part c.get-in-Between.result.now c.in-Between.low c.get-in-Between-2.result.now c.in-Between.high c.in-Between.high c.in-Between.is c.get-in-Between.ensures c.get-in-Between-2.ensures refl) (sym c.if-not-branch-5.false ∙ c.in_ok-expr_own-in-Between.ensures) (sym c.if-not-branch-6.true ∙ c.in_ok-expr_own-in-Between-2.ensures)

pub cond_own-returns-else-not-branch-6 : goal.cond_own-returns-else-not-branch-6
cond_own-returns-else-not-branch-6 t c = parts.both_own _ _ _ _ _ _ (parts.between_own (catalogue c.args.catalog.now) c.args.level c.args.sight.now c.args.cond.now c.in-Between.part c.get-in-Between.result.now c.in-Between.low c.get-in-Between-2.result.now c.in-Between.high c.get-in-Between-3.result.now c.in-Between.is c.get-in-Between.ensures c.get-in-Between-2.ensures c.get-in-Between-3.ensures) (sym c.if-not-branch-5.false ∙ c.in_ok-expr_own-in-Between.ensures) (sym c.if-not-branch-6.false ∙ c.in_ok-expr_own-in-Between-2.ensures) c.expr_own-in-Between-3.ensures

pub expr_own-returns-then-not-branch : goal.expr_own-returns-then-not-branch
expr_own-returns-then-not-branch t c = parts.first_not _ _ _ (parts.case_own (catalogue c.args.catalog.now) c.args.level c.args.sight.now c.args.expr.now c.in-Case.arms c.as_slice-in-Case.result.now c.in-Case.otherwise c.in-Case.is c.as_slice-in-Case.ensures) (sym c.if-not-branch.true ∙ c.in_ok-arms_own-in-Case.ensures)

pub expr_own-returns-else-not-branch : goal.expr_own-returns-else-not-branch
expr_own-returns-else-not-branch t c = parts.first_own _ _ _ _ _ (parts.case_own (catalogue c.args.catalog.now) c.args.level c.args.sight.now c.args.expr.now c.in-Case.arms c.as_slice-in-Case.result.now c.in-Case.otherwise c.in-Case.is c.as_slice-in-Case.ensures) (sym c.if-not-branch.false ∙ c.in_ok-arms_own-in-Case.ensures) c.maybe_own.ensures

pub expr_own-returns-then-not-branch-2 : goal.expr_own-returns-then-not-branch-2
expr_own-returns-then-not-branch-2 t c = parts.first_not _ _ _ (parts.match_own (catalogue c.args.catalog.now) c.args.level c.args.sight.now c.args.expr.now c.in-Match.operand c.get.result.now c.in-Match.choices c.in-Match.choices c.in-Match.otherwise c.in-Match.is c.get.ensures refl) (sym c.if-not-branch-2.true ∙ c.in_ok-expr_own-in-Match.ensures)

pub expr_own-returns-then-not-branch-3 : goal.expr_own-returns-then-not-branch-3
expr_own-returns-then-not-branch-3 t c = parts.second_not _ _ _ _ (parts.match_own (catalogue c.args.catalog.now) c.args.level c.args.sight.now c.args.expr.now c.in-Match.operand c.get.result.now c.in-Match.choices c.as_slice-in-Match.result.now c.in-Match.otherwise c.in-Match.is c.get.ensures c.as_slice-in-Match.ensures) (sym c.if-not-branch-2.false ∙ c.in_ok-expr_own-in-Match.ensures) (sym c.if-not-branch-3.true ∙ c.in_ok-choices_own-in-Match.ensures)

pub expr_own-returns-else-not-branch-3 : goal.expr_own-returns-else-not-branch-3
expr_own-returns-else-not-branch-3 t c = parts.both_own _ _ _ _ _ _ (parts.match_own (catalogue c.args.catalog.now) c.args.level c.args.sight.now c.args.expr.now c.in-Match.operand c.get.result.now c.in-Match.choices c.as_slice-in-Match.result.now c.in-Match.otherwise c.in-Match.is c.get.ensures c.as_slice-in-Match.ensures) (sym c.if-not-branch-2.false ∙ c.in_ok-expr_own-in-Match.ensures) (sym c.if-not-branch-3.false ∙ c.in_ok-choices_own-in-Match.ensures) c.maybe_own-in-Match.ensures

pub expr_own-returns-then-not-branch-4 : goal.expr_own-returns-then-not-branch-4
expr_own-returns-then-not-branch-4 t c = parts.first_not _ _ _ (parts.substr_own (catalogue c.args.catalog.now) c.args.level c.args.sight.now c.args.expr.now c.in-Substr.text c.get-in-Substr.result.now c.in-Substr.from c.in-Substr.from c.in-Substr.length c.in-Substr.is c.get-in-Substr.ensures refl) (sym c.if-not-branch-4.true ∙ c.in_ok-expr_own-in-Substr.ensures)

pub expr_own-returns-then-not-branch-5 : goal.expr_own-returns-then-not-branch-5
expr_own-returns-then-not-branch-5 t c = parts.second_not _ _ _ _ (parts.substr_own (catalogue c.args.catalog.now) c.args.level c.args.sight.now c.args.expr.now c.in-Substr.text c.get-in-Substr.result.now c.in-Substr.from c.get-in-Substr-2.result.now c.in-Substr.length c.in-Substr.is c.get-in-Substr.ensures c.get-in-Substr-2.ensures) (sym c.if-not-branch-4.false ∙ c.in_ok-expr_own-in-Substr.ensures) (sym c.if-not-branch-5.true ∙ c.in_ok-expr_own-in-Substr-2.ensures)

pub expr_own-returns-else-not-branch-5 : goal.expr_own-returns-else-not-branch-5
expr_own-returns-else-not-branch-5 t c = parts.both_own _ _ _ _ _ _ (parts.substr_own (catalogue c.args.catalog.now) c.args.level c.args.sight.now c.args.expr.now c.in-Substr.text c.get-in-Substr.result.now c.in-Substr.from c.get-in-Substr-2.result.now c.in-Substr.length c.in-Substr.is c.get-in-Substr.ensures c.get-in-Substr-2.ensures) (sym c.if-not-branch-4.false ∙ c.in_ok-expr_own-in-Substr.ensures) (sym c.if-not-branch-5.false ∙ c.in_ok-expr_own-in-Substr-2.ensures) c.maybe_own-in-Substr.ensures

pub expr_own-returns-in-Aggregate : goal.expr_own-returns-in-Aggregate
expr_own-returns-in-Aggregate t c = subst (λ z. IfOk c.expr_own-in-Aggregate.result (λ own. own ≡ z)) (parts.aggregate_own (catalogue c.args.catalog.now) c.args.level c.args.sight.now c.args.expr.now c.in-Aggregate.field-0 c.in-Aggregate.of c.get-in-Aggregate.result.now c.in-Aggregate.is c.get-in-Aggregate.ensures) c.expr_own-in-Aggregate.ensures

pub expr_own-returns-in-Apply : goal.expr_own-returns-in-Apply
expr_own-returns-in-Apply t c = subst (λ z. IfOk c.expr_own-in-Apply.result (λ own. own ≡ z)) (parts.apply_own (catalogue c.args.catalog.now) c.args.level c.args.sight.now c.args.expr.now c.in-Apply.field-0 c.in-Apply.to c.get-in-Apply.result.now c.in-Apply.is c.get-in-Apply.ensures) c.expr_own-in-Apply.ensures

pub query_own-returns-then-not-branch : goal.query_own-returns-then-not-branch
query_own-returns-then-not-branch t c = parts.first_not _ _ _ (query_is_own (catalogue c.args.catalog.now) c.args.level c.args.query.now c.args.sight.now c.in_ok-inside.inside (c.in_ok-inside.ensures ∙ ap (λ cs. inside c.args.sight.now (tables_of (map (folds.chain_of marked mark_steps) cs))) c.as_slice.ensures)) (sym c.if-not-branch.true ∙ c.in_ok-items_own.ensures ∙ ap (λ xs. all_own (catalogue c.args.catalog.now) c.args.level (of_each (λ m. m.marks) (map (shows (catalogue c.args.catalog.now)) xs) c.in_ok-inside.inside)) c.as_slice-2.ensures)

pub query_own-returns-then-not-branch-2 : goal.query_own-returns-then-not-branch-2
query_own-returns-then-not-branch-2 t c = parts.second_not _ _ _ _ (query_is_own (catalogue c.args.catalog.now) c.args.level c.args.query.now c.args.sight.now c.in_ok-inside.inside (c.in_ok-inside.ensures ∙ ap (λ cs. inside c.args.sight.now (tables_of (map (folds.chain_of marked mark_steps) cs))) c.as_slice.ensures)) (sym c.if-not-branch.false ∙ c.in_ok-items_own.ensures ∙ ap (λ xs. all_own (catalogue c.args.catalog.now) c.args.level (of_each (λ m. m.marks) (map (shows (catalogue c.args.catalog.now)) xs) c.in_ok-inside.inside)) c.as_slice-2.ensures) (sym c.if-not-branch-2.true ∙ c.in_ok-chains_own.ensures (calls_of (tables_of (map (folds.chain_of marked mark_steps) (out-Query c.args.query.now).from))) (ap (λ v. v.around) (c.in_ok-inside.ensures ∙ ap (λ cs. inside c.args.sight.now (tables_of (map (folds.chain_of marked mark_steps) cs))) c.as_slice.ensures)) ∙ ap (λ cs. own_chains (catalogue c.args.catalog.now) c.args.level c.args.sight.now (calls_of (tables_of (map (folds.chain_of marked mark_steps) (out-Query c.args.query.now).from))) (map chain_marked (map (chain_of (catalogue c.args.catalog.now)) cs))) c.as_slice-3.ensures)

pub query_own-returns-then-not-branch-3 : goal.query_own-returns-then-not-branch-3
query_own-returns-then-not-branch-3 t c = parts.third_not _ _ _ _ _ (query_is_own (catalogue c.args.catalog.now) c.args.level c.args.query.now c.args.sight.now c.in_ok-inside.inside (c.in_ok-inside.ensures ∙ ap (λ cs. inside c.args.sight.now (tables_of (map (folds.chain_of marked mark_steps) cs))) c.as_slice.ensures)) (sym c.if-not-branch.false ∙ c.in_ok-items_own.ensures ∙ ap (λ xs. all_own (catalogue c.args.catalog.now) c.args.level (of_each (λ m. m.marks) (map (shows (catalogue c.args.catalog.now)) xs) c.in_ok-inside.inside)) c.as_slice-2.ensures) (sym c.if-not-branch-2.false ∙ c.in_ok-chains_own.ensures (calls_of (tables_of (map (folds.chain_of marked mark_steps) (out-Query c.args.query.now).from))) (ap (λ v. v.around) (c.in_ok-inside.ensures ∙ ap (λ cs. inside c.args.sight.now (tables_of (map (folds.chain_of marked mark_steps) cs))) c.as_slice.ensures)) ∙ ap (λ cs. own_chains (catalogue c.args.catalog.now) c.args.level c.args.sight.now (calls_of (tables_of (map (folds.chain_of marked mark_steps) (out-Query c.args.query.now).from))) (map chain_marked (map (chain_of (catalogue c.args.catalog.now)) cs))) c.as_slice-3.ensures) (sym c.if-not-branch-3.true ∙ c.in_ok-maybe_cond_own.ensures)

pub query_own-returns-then-not-columns_own : goal.query_own-returns-then-not-columns_own
query_own-returns-then-not-columns_own t c = parts.fourth_not _ _ _ _ _ _ (query_is_own (catalogue c.args.catalog.now) c.args.level c.args.query.now c.args.sight.now c.in_ok-inside.inside (c.in_ok-inside.ensures ∙ ap (λ cs. inside c.args.sight.now (tables_of (map (folds.chain_of marked mark_steps) cs))) c.as_slice.ensures)) (sym c.if-not-branch.false ∙ c.in_ok-items_own.ensures ∙ ap (λ xs. all_own (catalogue c.args.catalog.now) c.args.level (of_each (λ m. m.marks) (map (shows (catalogue c.args.catalog.now)) xs) c.in_ok-inside.inside)) c.as_slice-2.ensures) (sym c.if-not-branch-2.false ∙ c.in_ok-chains_own.ensures (calls_of (tables_of (map (folds.chain_of marked mark_steps) (out-Query c.args.query.now).from))) (ap (λ v. v.around) (c.in_ok-inside.ensures ∙ ap (λ cs. inside c.args.sight.now (tables_of (map (folds.chain_of marked mark_steps) cs))) c.as_slice.ensures)) ∙ ap (λ cs. own_chains (catalogue c.args.catalog.now) c.args.level c.args.sight.now (calls_of (tables_of (map (folds.chain_of marked mark_steps) (out-Query c.args.query.now).from))) (map chain_marked (map (chain_of (catalogue c.args.catalog.now)) cs))) c.as_slice-3.ensures) (sym c.if-not-branch-3.false ∙ c.in_ok-maybe_cond_own.ensures) (sym c.if-not-columns_own.true ∙ c.columns_own.ensures ∙ (λ i. all_own (catalogue c.args.catalog.now) c.args.level (map (column (c.seen.ensures i)) (c.as_slice-4.ensures i))))

pub query_own-returns : goal.query_own-returns
query_own-returns t c = parts.five_own _ _ _ _ _ _ _ _ (query_is_own (catalogue c.args.catalog.now) c.args.level c.args.query.now c.args.sight.now c.in_ok-inside.inside (c.in_ok-inside.ensures ∙ ap (λ cs. inside c.args.sight.now (tables_of (map (folds.chain_of marked mark_steps) cs))) c.as_slice.ensures)) (sym c.if-not-branch.false ∙ c.in_ok-items_own.ensures ∙ ap (λ xs. all_own (catalogue c.args.catalog.now) c.args.level (of_each (λ m. m.marks) (map (shows (catalogue c.args.catalog.now)) xs) c.in_ok-inside.inside)) c.as_slice-2.ensures) (sym c.if-not-branch-2.false ∙ c.in_ok-chains_own.ensures (calls_of (tables_of (map (folds.chain_of marked mark_steps) (out-Query c.args.query.now).from))) (ap (λ v. v.around) (c.in_ok-inside.ensures ∙ ap (λ cs. inside c.args.sight.now (tables_of (map (folds.chain_of marked mark_steps) cs))) c.as_slice.ensures)) ∙ ap (λ cs. own_chains (catalogue c.args.catalog.now) c.args.level c.args.sight.now (calls_of (tables_of (map (folds.chain_of marked mark_steps) (out-Query c.args.query.now).from))) (map chain_marked (map (chain_of (catalogue c.args.catalog.now)) cs))) c.as_slice-3.ensures) (sym c.if-not-branch-3.false ∙ c.in_ok-maybe_cond_own.ensures) (sym c.if-not-columns_own.false ∙ c.columns_own.ensures ∙ (λ i. all_own (catalogue c.args.catalog.now) c.args.level (map (column (c.seen.ensures i)) (c.as_slice-4.ensures i)))) c.maybe_cond_own-2.ensures
