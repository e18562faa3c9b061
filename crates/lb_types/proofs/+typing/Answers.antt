use Rattle.std.proofs.Common.{◌∙◌, true, refl, sym, ap, subst}
use Rattle.std.proofs.lemmas.Result.{err_from_is_err_and}
use Rattle.std.proofs.Common.{[], map}
use Rattle.lb_tree.specs.Folds as folds
use Rattle.lb_names.specs.Sights.{inside, calls_of}
use Rattle.lb_names.specs.Marks.{marked, mark_steps, tables_of}
use Rattle.lb_names.specs.SelectLists.{outputs_of, chains_typed}
use Rattle.lb_names.specs.Typing.{shows, group_typed}
use Rattle.lb_walk.specs.Opened.{chain_of}
use Rattle.lb_names.specs.Kinds as kind_rules
use Rattle.lb_names.specs.Carriers as carriers
use Rattle.lb_names.specs.Conditions as conditions
use Rattle.lb_scope.specs.Found.{catalogue, kind_in}
use Rattle.lb_types.specs.Given.{Goes, Gives, Stops, kinds_in, group_in, place_in, role_in}
use Rattle.lb_types.specs.Within.{wanted_in}
use Rattle.lb_types.proofs.Arms as arms
use Rattle.lb_types.proofs.Clauses as clauses
use Rattle.lb_types.proofs.Clauses.{tables_in}
use Rattle.lb_types.proofs.Steps.{onto, stops_at, gives_onto, goes_onto}
use Rattle.lb_types.proofs.+typing.Goals as goal

pub exprs::kind_of-returns-in_err-results-in-Case : goal.exprs::kind_of-returns-in_err-results-in-Case
exprs::kind_of-returns-in_err-results-in-Case t c = let p = err_from_is_err_and c.from_residual-in_err-results-in-Case.result c.from_residual-in_err-results-in-Case.ensures.1 in rw (p.1, p.2) (stops_at c.in_err-results-in-Case.field-0.0 _ _ _ (arms.case_at (catalogue c.args.catalog.now) (place_in (catalogue c.args.catalog.now) c.args.place) c.args.at c.next-in-Case.result c.next-in-Case.ensures c.args.expr.now c.in-Case.arms c.as_slice-in-Case.result.now c.in-Case.otherwise c.in-Case.is c.as_slice-in-Case.ensures) c.in_err-results-in-Case.ensures)

pub exprs::kind_of-returns-in_err-results-in-Case-2 : goal.exprs::kind_of-returns-in_err-results-in-Case-2
exprs::kind_of-returns-in_err-results-in-Case-2 t c = let p = err_from_is_err_and c.from_residual-in_err-results-in-Case-2.result c.from_residual-in_err-results-in-Case-2.ensures.1 in rw (p.1, p.2) (stops_at c.in_err-results-in-Case-2.field-0.0 _ _ _ (onto _ _ _ _ (arms.case_at (catalogue c.args.catalog.now) (place_in (catalogue c.args.catalog.now) c.args.place) c.args.at c.next-in-Case.result c.next-in-Case.ensures c.args.expr.now c.in-Case.arms c.as_slice-in-Case.result.now c.in-Case.otherwise c.in-Case.is c.as_slice-in-Case.ensures) c.in_ok-results-in-Case.ensures) c.in_err-results-in-Case-2.ensures)

pub exprs::kind_of-returns-in_ok-results-in-Case-2 : goal.exprs::kind_of-returns-in_ok-results-in-Case-2
exprs::kind_of-returns-in_ok-results-in-Case-2 t c = gives_onto kind_in c.plain_kind.result _ _ _ _ (onto _ _ _ _ (arms.case_at (catalogue c.args.catalog.now) (place_in (catalogue c.args.catalog.now) c.args.place) c.args.at c.next-in-Case.result c.next-in-Case.ensures c.args.expr.now c.in-Case.arms c.as_slice-in-Case.result.now c.in-Case.otherwise c.in-Case.is c.as_slice-in-Case.ensures) c.in_ok-results-in-Case.ensures) c.in_ok-results-in-Case-2.ensures c.plain_kind.ensures

pub exprs::kind_of-returns-in_err-kind-in-Match : goal.exprs::kind_of-returns-in_err-kind-in-Match
exprs::kind_of-returns-in_err-kind-in-Match t c = let p = err_from_is_err_and c.from_residual-in_err-kind-in-Match.result c.from_residual-in_err-kind-in-Match.ensures.1 in rw (p.1, p.2) (stops_at c.in_err-kind-in-Match.field-0.0 _ _ _ (arms.match_at (catalogue c.args.catalog.now) (place_in (catalogue c.args.catalog.now) c.args.place) c.args.at c.next-in-Match.result c.next-in-Match.ensures c.args.expr.now c.in-Match.operand c.get.result.now c.in-Match.choices c.in-Match.choices c.in-Match.otherwise c.in-Match.is c.get.ensures refl) c.in_err-kind-in-Match.ensures)

pub exprs::kind_of-returns-in_err-operands-in-Match : goal.exprs::kind_of-returns-in_err-operands-in-Match
exprs::kind_of-returns-in_err-operands-in-Match t c = let p = err_from_is_err_and c.from_residual-in_err-operands-in-Match.result c.from_residual-in_err-operands-in-Match.ensures.1 in rw (p.1, p.2) (stops_at c.in_err-operands-in-Match.field-0.0 _ _ _ (onto _ _ _ _ (arms.match_at (catalogue c.args.catalog.now) (place_in (catalogue c.args.catalog.now) c.args.place) c.args.at c.next-in-Match.result c.next-in-Match.ensures c.args.expr.now c.in-Match.operand c.get.result.now c.in-Match.choices c.as_slice-in-Match.result.now c.in-Match.otherwise c.in-Match.is c.get.ensures c.as_slice-in-Match.ensures) c.in_ok-kind-in-Match.ensures) c.in_err-operands-in-Match.ensures)

pub exprs::kind_of-returns-in_err-results-in-Match : goal.exprs::kind_of-returns-in_err-results-in-Match
exprs::kind_of-returns-in_err-results-in-Match t c = let p = err_from_is_err_and c.from_residual-in_err-results-in-Match.result c.from_residual-in_err-results-in-Match.ensures.1 in rw (p.1, p.2) (stops_at c.in_err-results-in-Match.field-0.0 _ _ _ (onto _ _ _ _ (onto _ _ _ _ (arms.match_at (catalogue c.args.catalog.now) (place_in (catalogue c.args.catalog.now) c.args.place) c.args.at c.next-in-Match.result c.next-in-Match.ensures c.args.expr.now c.in-Match.operand c.get.result.now c.in-Match.choices c.as_slice-in-Match.result.now c.in-Match.otherwise c.in-Match.is c.get.ensures c.as_slice-in-Match.ensures) c.in_ok-kind-in-Match.ensures) c.in_ok-operands-in-Match.ensures) c.in_err-results-in-Match.ensures)

pub exprs::kind_of-returns-in_ok-results-in-Match : goal.exprs::kind_of-returns-in_ok-results-in-Match
exprs::kind_of-returns-in_ok-results-in-Match t c = gives_onto kind_in c.plain_results.result _ _ _ _ (onto _ _ _ _ (onto _ _ _ _ (arms.match_at (catalogue c.args.catalog.now) (place_in (catalogue c.args.catalog.now) c.args.place) c.args.at c.next-in-Match.result c.next-in-Match.ensures c.args.expr.now c.in-Match.operand c.get.result.now c.in-Match.choices c.as_slice-in-Match.result.now c.in-Match.otherwise c.in-Match.is c.get.ensures c.as_slice-in-Match.ensures) c.in_ok-kind-in-Match.ensures) c.in_ok-operands-in-Match.ensures) c.in_ok-results-in-Match.ensures c.plain_results.ensures

pub exprs::kind_of-returns-in_err-found-in-Aggregate : goal.exprs::kind_of-returns-in_err-found-in-Aggregate
exprs::kind_of-returns-in_err-found-in-Aggregate t c = let p = err_from_is_err_and c.from_residual-in_err-found-in-Aggregate.result c.from_residual-in_err-found-in-Aggregate.ensures.1 in rw (p.1, p.2) (stops_at c.in_err-found-in-Aggregate.field-0.0 _ _ _ (arms.aggregate_at (catalogue c.args.catalog.now) (place_in (catalogue c.args.catalog.now) c.args.place) c.args.at c.next-in-Aggregate.result c.next-in-Aggregate.ensures c.args.expr.now c.in-Aggregate.aggregate c.in-Aggregate.of c.get-in-Aggregate.result.now c.in-Aggregate.of (place_in (catalogue c.args.catalog.now) c.in_aggregate.result) (c.in_aggregate.ensures (catalogue c.args.catalog.now)) c.in-Aggregate.is c.get-in-Aggregate.ensures refl) c.in_err-found-in-Aggregate.ensures)

pub exprs::kind_of-returns-in_ok-found-in-Aggregate : goal.exprs::kind_of-returns-in_ok-found-in-Aggregate
exprs::kind_of-returns-in_ok-found-in-Aggregate t c = gives_onto kind_in c.aggregate_kind.result _ _ _ _ (arms.aggregate_at (catalogue c.args.catalog.now) (place_in (catalogue c.args.catalog.now) c.args.place) c.args.at c.next-in-Aggregate.result c.next-in-Aggregate.ensures c.args.expr.now c.in-Aggregate.aggregate c.in-Aggregate.of c.get-in-Aggregate.result.now c.get-in-Aggregate-2.result.now (place_in (catalogue c.args.catalog.now) c.in_aggregate.result) (c.in_aggregate.ensures (catalogue c.args.catalog.now)) c.in-Aggregate.is c.get-in-Aggregate.ensures c.get-in-Aggregate-2.ensures) c.in_ok-found-in-Aggregate.ensures c.aggregate_kind.ensures

pub exprs::kind_of-returns-in_err-kind-in-Substr : goal.exprs::kind_of-returns-in_err-kind-in-Substr
exprs::kind_of-returns-in_err-kind-in-Substr t c = let p = err_from_is_err_and c.from_residual-in_err-kind-in-Substr.result c.from_residual-in_err-kind-in-Substr.ensures.1 in rw (p.1, p.2) (stops_at c.in_err-kind-in-Substr.field-0.0 _ _ _ (arms.substr_at (catalogue c.args.catalog.now) (place_in (catalogue c.args.catalog.now) c.args.place) c.args.at c.next-in-Substr.result c.next-in-Substr.ensures c.args.expr.now c.in-Substr.text c.get-in-Substr.result.now c.in-Substr.from c.in-Substr.from c.in-Substr.length c.in-Substr.is c.get-in-Substr.ensures refl) c.in_err-kind-in-Substr.ensures)

pub exprs::kind_of-returns-in_err-numbers-in-Substr : goal.exprs::kind_of-returns-in_err-numbers-in-Substr
exprs::kind_of-returns-in_err-numbers-in-Substr t c = let p = err_from_is_err_and c.from_residual-in_err-numbers-in-Substr.result c.from_residual-in_err-numbers-in-Substr.ensures.1 in rw (p.1, p.2) (stops_at c.in_err-numbers-in-Substr.field-0.0 _ _ _ (onto _ _ _ _ (arms.substr_at (catalogue c.args.catalog.now) (place_in (catalogue c.args.catalog.now) c.args.place) c.args.at c.next-in-Substr.result c.next-in-Substr.ensures c.args.expr.now c.in-Substr.text c.get-in-Substr.result.now c.in-Substr.from c.get-in-Substr-2.result.now c.in-Substr.length c.in-Substr.is c.get-in-Substr.ensures c.get-in-Substr-2.ensures) c.in_ok-kind-in-Substr.ensures) c.in_err-numbers-in-Substr.ensures)

pub exprs::kind_of-returns-in_err-numbers-in-Substr-2 : goal.exprs::kind_of-returns-in_err-numbers-in-Substr-2
exprs::kind_of-returns-in_err-numbers-in-Substr-2 t c = let p = err_from_is_err_and c.from_residual-in_err-numbers-in-Substr-2.result c.from_residual-in_err-numbers-in-Substr-2.ensures.1 in rw (p.1, p.2) (stops_at c.in_err-numbers-in-Substr-2.field-0.0 _ _ _ (onto _ _ _ _ (onto _ _ _ _ (arms.substr_at (catalogue c.args.catalog.now) (place_in (catalogue c.args.catalog.now) c.args.place) c.args.at c.next-in-Substr.result c.next-in-Substr.ensures c.args.expr.now c.in-Substr.text c.get-in-Substr.result.now c.in-Substr.from c.get-in-Substr-2.result.now c.in-Substr.length c.in-Substr.is c.get-in-Substr.ensures c.get-in-Substr-2.ensures) c.in_ok-kind-in-Substr.ensures) c.in_ok-numbers-in-Substr.ensures) c.in_err-numbers-in-Substr-2.ensures)

pub exprs::kind_of-returns-in_ok-numbers-in-Substr-2 : goal.exprs::kind_of-returns-in_ok-numbers-in-Substr-2
exprs::kind_of-returns-in_ok-numbers-in-Substr-2 t c = gives_onto kind_in c.substr_kind.result _ _ _ _ (onto _ _ _ _ (onto _ _ _ _ (arms.substr_at (catalogue c.args.catalog.now) (place_in (catalogue c.args.catalog.now) c.args.place) c.args.at c.next-in-Substr.result c.next-in-Substr.ensures c.args.expr.now c.in-Substr.text c.get-in-Substr.result.now c.in-Substr.from c.get-in-Substr-2.result.now c.in-Substr.length c.in-Substr.is c.get-in-Substr.ensures c.get-in-Substr-2.ensures) c.in_ok-kind-in-Substr.ensures) c.in_ok-numbers-in-Substr.ensures) c.in_ok-numbers-in-Substr-2.ensures c.substr_kind.ensures

pub exprs::kind_of-returns-in_err-found-in-Apply : goal.exprs::kind_of-returns-in_err-found-in-Apply
exprs::kind_of-returns-in_err-found-in-Apply t c = let p = err_from_is_err_and c.from_residual-in_err-found-in-Apply.result c.from_residual-in_err-found-in-Apply.ensures.1 in rw (p.1, p.2) (stops_at c.in_err-found-in-Apply.field-0.0 _ _ _ (arms.apply_at (catalogue c.args.catalog.now) (place_in (catalogue c.args.catalog.now) c.args.place) c.args.at c.next-in-Apply.result c.next-in-Apply.ensures c.args.expr.now c.in-Apply.function c.in-Apply.to c.get-in-Apply.result.now c.in-Apply.is c.get-in-Apply.ensures) c.in_err-found-in-Apply.ensures)

pub exprs::kind_of-returns-in_ok-found-in-Apply : goal.exprs::kind_of-returns-in_ok-found-in-Apply
exprs::kind_of-returns-in_ok-found-in-Apply t c = gives_onto kind_in c.function_kind.result _ _ _ _ (arms.apply_at (catalogue c.args.catalog.now) (place_in (catalogue c.args.catalog.now) c.args.place) c.args.at c.next-in-Apply.result c.next-in-Apply.ensures c.args.expr.now c.in-Apply.function c.in-Apply.to c.get-in-Apply.result.now c.in-Apply.is c.get-in-Apply.ensures) c.in_ok-found-in-Apply.ensures c.function_kind.ensures

pub conds::typed-returns-in_err-kind-in-Compare : goal.conds::typed-returns-in_err-kind-in-Compare
conds::typed-returns-in_err-kind-in-Compare t c = let p = err_from_is_err_and c.from_residual-in_err-kind-in-Compare.result c.from_residual-in_err-kind-in-Compare.ensures.1 in rw (p.1, p.2) (stops_at c.in_err-kind-in-Compare.field-0.0 _ _ _ (arms.compare_at (catalogue c.args.catalog.now) (place_in (catalogue c.args.catalog.now) c.args.place) c.args.at c.next-in-Compare.result c.next-in-Compare.ensures c.args.cond.now c.in-Compare.by c.in-Compare.left c.get-in-Compare.result.now c.in-Compare.right c.in-Compare.right c.in-Compare.is c.get-in-Compare.ensures refl) c.in_err-kind-in-Compare.ensures)

pub conds::typed-returns-in_err-found-in-Compare : goal.conds::typed-returns-in_err-found-in-Compare
conds::typed-returns-in_err-found-in-Compare t c = let p = err_from_is_err_and c.from_residual-in_err-found-in-Compare.result c.from_residual-in_err-found-in-Compare.ensures.1 in rw (p.1, p.2) (stops_at c.in_err-found-in-Compare.field-0.0 _ _ _ (onto _ _ _ _ (arms.compare_at (catalogue c.args.catalog.now) (place_in (catalogue c.args.catalog.now) c.args.place) c.args.at c.next-in-Compare.result c.next-in-Compare.ensures c.args.cond.now c.in-Compare.by c.in-Compare.left c.get-in-Compare.result.now c.in-Compare.right c.get-in-Compare-2.result.now c.in-Compare.is c.get-in-Compare.ensures c.get-in-Compare-2.ensures) c.in_ok-kind-in-Compare.ensures) c.in_err-found-in-Compare.ensures)

pub conds::typed-returns-in_ok-found-in-Compare : goal.conds::typed-returns-in_ok-found-in-Compare
conds::typed-returns-in_ok-found-in-Compare t c = goes_onto c.compared.result _ _ _ _ (onto _ _ _ _ (arms.compare_at (catalogue c.args.catalog.now) (place_in (catalogue c.args.catalog.now) c.args.place) c.args.at c.next-in-Compare.result c.next-in-Compare.ensures c.args.cond.now c.in-Compare.by c.in-Compare.left c.get-in-Compare.result.now c.in-Compare.right c.get-in-Compare-2.result.now c.in-Compare.is c.get-in-Compare.ensures c.get-in-Compare-2.ensures) c.in_ok-kind-in-Compare.ensures) c.in_ok-found-in-Compare.ensures c.compared.ensures

pub conds::typed-returns-in_err-kind-in-InList : goal.conds::typed-returns-in_err-kind-in-InList
conds::typed-returns-in_err-kind-in-InList t c = let p = err_from_is_err_and c.from_residual-in_err-kind-in-InList.result c.from_residual-in_err-kind-in-InList.ensures.1 in rw (p.1, p.2) (stops_at c.in_err-kind-in-InList.field-0.0 _ _ _ (arms.inlist_at (catalogue c.args.catalog.now) (place_in (catalogue c.args.catalog.now) c.args.place) c.args.at c.next-in-InList.result c.next-in-InList.ensures c.args.cond.now c.in-InList.part c.get-in-InList.result.now c.in-InList.list c.in-InList.list c.in-InList.is c.get-in-InList.ensures refl) c.in_err-kind-in-InList.ensures)

pub conds::typed-returns-in_err-found-in-InList : goal.conds::typed-returns-in_err-found-in-InList
conds::typed-returns-in_err-found-in-InList t c = let p = err_from_is_err_and c.from_residual-in_err-found-in-InList.result c.from_residual-in_err-found-in-InList.ensures.1 in rw (p.1, p.2) (stops_at c.in_err-found-in-InList.field-0.0 _ _ _ (onto _ _ _ _ (arms.inlist_at (catalogue c.args.catalog.now) (place_in (catalogue c.args.catalog.now) c.args.place) c.args.at c.next-in-InList.result c.next-in-InList.ensures c.args.cond.now c.in-InList.part c.get-in-InList.result.now c.in-InList.list c.as_slice-in-InList.result.now c.in-InList.is c.get-in-InList.ensures c.as_slice-in-InList.ensures) c.in_ok-kind-in-InList.ensures) c.in_err-found-in-InList.ensures)

pub conds::typed-returns-in_ok-found-in-InList : goal.conds::typed-returns-in_ok-found-in-InList
conds::typed-returns-in_ok-found-in-InList t c = goes_onto c.of_plain-in-InList.result _ _ _ _ (onto _ _ _ _ (arms.inlist_at (catalogue c.args.catalog.now) (place_in (catalogue c.args.catalog.now) c.args.place) c.args.at c.next-in-InList.result c.next-in-InList.ensures c.args.cond.now c.in-InList.part c.get-in-InList.result.now c.in-InList.list c.as_slice-in-InList.result.now c.in-InList.is c.get-in-InList.ensures c.as_slice-in-InList.ensures) c.in_ok-kind-in-InList.ensures) c.in_ok-found-in-InList.ensures c.of_plain-in-InList.ensures

pub conds::typed-returns-in_err-kind-in-Between : goal.conds::typed-returns-in_err-kind-in-Between
conds::typed-returns-in_err-kind-in-Between t c = let p = err_from_is_err_and c.from_residual-in_err-kind-in-Between.result c.from_residual-in_err-kind-in-Between.ensures.1 in rw (p.1, p.2) (stops_at c.in_err-kind-in-Between.field-0.0 _ _ _ (arms.between_at (catalogue c.args.catalog.now) (place_in (catalogue c.args.catalog.now) c.args.place) c.args.at c.next-in-Between.result c.next-in-Between.ensures c.args.cond.now c.in-Between.part c.get-in-Between.result.now c.in-Between.low c.in-Between.low c.in-Between.high c.in-Between.high c.in-Between.is c.get-in-Between.ensures refl refl) c.in_err-kind-in-Between.ensures)

pub conds::typed-returns-in_err-found-in-Between : goal.conds::typed-returns-in_err-found-in-Between
conds::typed-returns-in_err-found-in-Between t c = let p = err_from_is_err_and c.from_residual-in_err-found-in-Between.result c.from_residual-in_err-found-in-Between.ensures.1 in rw (p.1, p.2) (stops_at c.in_err-found-in-Between.field-0.0 _ _ _ (onto _ _ _ _ (arms.between_at (catalogue c.args.catalog.now) (place_in (catalogue c.args.catalog.now) c.args.place) c.args.at c.next-in-Between.result c.next-in-Between.ensures c.args.cond.now c.in-Between.part c.get-in-Between.result.now c.in-Between.low c.get-in-Between-2.result.now c.in-Between.high c.in-Between.high c.in-Between.is c.get-in-Between.ensures c.get-in-Between-2.ensures refl) c.in_ok-kind-in-Between.ensures) c.in_err-found-in-Between.ensures)

pub conds::typed-returns-in_err-found-in-Between-2 : goal.conds::typed-returns-in_err-found-in-Between-2
conds::typed-returns-in_err-found-in-Between-2 t c = let p = err_from_is_err_and c.from_residual-in_err-found-in-Between-2.result c.from_residual-in_err-found-in-Between-2.ensures.1 in rw (p.1, p.2) (stops_at c.in_err-found-in-Between-2.field-0.0 _ _ _ (onto _ _ _ _ (onto _ _ _ _ (arms.between_at (catalogue c.args.catalog.now) (place_in (catalogue c.args.catalog.now) c.args.place) c.args.at c.next-in-Between.result c.next-in-Between.ensures c.args.cond.now c.in-Between.part c.get-in-Between.result.now c.in-Between.low c.get-in-Between-2.result.now c.in-Between.high c.get-in-Between-3.result.now c.in-Between.is c.get-in-Between.ensures c.get-in-Between-2.ensures c.get-in-Between-3.ensures) c.in_ok-kind-in-Between.ensures) c.in_ok-found-in-Between.ensures) c.in_err-found-in-Between-2.ensures)

pub conds::typed-returns-in_ok-found-in-Between-2 : goal.conds::typed-returns-in_ok-found-in-Between-2
conds::typed-returns-in_ok-found-in-Between-2 t c = goes_onto c.of_plain-in-Between.result _ _ _ _ (onto _ _ _ _ (onto _ _ _ _ (arms.between_at (catalogue c.args.catalog.now) (place_in (catalogue c.args.catalog.now) c.args.place) c.args.at c.next-in-Between.result c.next-in-Between.ensures c.args.cond.now c.in-Between.part c.get-in-Between.result.now c.in-Between.low c.get-in-Between-2.result.now c.in-Between.high c.get-in-Between-3.result.now c.in-Between.is c.get-in-Between.ensures c.get-in-Between-2.ensures c.get-in-Between-3.ensures) c.in_ok-kind-in-Between.ensures) c.in_ok-found-in-Between.ensures) c.in_ok-found-in-Between-2.ensures c.of_plain-in-Between.ensures

pub conds::typed-returns-in_err-kind-in-CompareQuery : goal.conds::typed-returns-in_err-kind-in-CompareQuery
conds::typed-returns-in_err-kind-in-CompareQuery t c = let p = err_from_is_err_and c.from_residual-in_err-kind-in-CompareQuery.result c.from_residual-in_err-kind-in-CompareQuery.ensures.1 in rw (p.1, p.2) (stops_at c.in_err-kind-in-CompareQuery.field-0.0 _ _ _ (arms.comparequery_at (catalogue c.args.catalog.now) (place_in (catalogue c.args.catalog.now) c.args.place) c.args.at c.next-in-CompareQuery.result c.next-in-CompareQuery.ensures c.args.cond.now c.in-CompareQuery.by c.in-CompareQuery.left c.get-in-CompareQuery.result.now c.in-CompareQuery.query c.in-CompareQuery.query (carriers.subquery true) refl c.in-CompareQuery.is c.get-in-CompareQuery.ensures refl) c.in_err-kind-in-CompareQuery.ensures)

pub conds::typed-returns-in_err-outputs-in-CompareQuery : goal.conds::typed-returns-in_err-outputs-in-CompareQuery
conds::typed-returns-in_err-outputs-in-CompareQuery t c = let p = err_from_is_err_and c.from_residual-in_err-outputs-in-CompareQuery.result c.from_residual-in_err-outputs-in-CompareQuery.ensures.1 in rw (p.1, p.2) (stops_at c.in_err-outputs-in-CompareQuery.field-0.0 _ _ _ (onto _ _ _ _ (arms.comparequery_at (catalogue c.args.catalog.now) (place_in (catalogue c.args.catalog.now) c.args.place) c.args.at c.next-in-CompareQuery.result c.next-in-CompareQuery.ensures c.args.cond.now c.in-CompareQuery.by c.in-CompareQuery.left c.get-in-CompareQuery.result.now c.in-CompareQuery.query c.get-in-CompareQuery-2.result.now (role_in c.subquery-in-CompareQuery.result) c.subquery-in-CompareQuery.ensures c.in-CompareQuery.is c.get-in-CompareQuery.ensures c.get-in-CompareQuery-2.ensures) c.in_ok-kind-in-CompareQuery.ensures) c.in_err-outputs-in-CompareQuery.ensures)

pub conds::typed-returns-in_ok-outputs-in-CompareQuery : goal.conds::typed-returns-in_ok-outputs-in-CompareQuery
conds::typed-returns-in_ok-outputs-in-CompareQuery t c = goes_onto c.compared-in-CompareQuery.result _ _ _ _ (onto _ _ _ _ (arms.comparequery_at (catalogue c.args.catalog.now) (place_in (catalogue c.args.catalog.now) c.args.place) c.args.at c.next-in-CompareQuery.result c.next-in-CompareQuery.ensures c.args.cond.now c.in-CompareQuery.by c.in-CompareQuery.left c.get-in-CompareQuery.result.now c.in-CompareQuery.query c.get-in-CompareQuery-2.result.now (role_in c.subquery-in-CompareQuery.result) c.subquery-in-CompareQuery.ensures c.in-CompareQuery.is c.get-in-CompareQuery.ensures c.get-in-CompareQuery-2.ensures) c.in_ok-kind-in-CompareQuery.ensures) c.in_ok-outputs-in-CompareQuery.ensures (subst (λ k. Goes c.compared-in-CompareQuery.result (conditions.compared c.in-CompareQuery.by c.args.at (k, c.in_ok-outputs-in-CompareQuery.n))) (c.both.ensures ∙ ap (kind_rules.both (kind_in c.in_ok-kind-in-CompareQuery.kind)) (c.first_kind.ensures ∙ ap (λ ks. conditions.first_kind (kinds_in ks)) c.as_slice-in-CompareQuery.ensures)) c.compared-in-CompareQuery.ensures)

pub conds::typed-returns-in_err-kind-in-InQuery : goal.conds::typed-returns-in_err-kind-in-InQuery
conds::typed-returns-in_err-kind-in-InQuery t c = let p = err_from_is_err_and c.from_residual-in_err-kind-in-InQuery.result c.from_residual-in_err-kind-in-InQuery.ensures.1 in rw (p.1, p.2) (stops_at c.in_err-kind-in-InQuery.field-0.0 _ _ _ (arms.inquery_at (catalogue c.args.catalog.now) (place_in (catalogue c.args.catalog.now) c.args.place) c.args.at c.next-in-InQuery.result c.next-in-InQuery.ensures c.args.cond.now c.in-InQuery.part c.get-in-InQuery.result.now c.in-InQuery.query c.in-InQuery.query (carriers.subquery true) refl c.in-InQuery.is c.get-in-InQuery.ensures refl) c.in_err-kind-in-InQuery.ensures)

pub conds::typed-returns-in_err-outputs-in-InQuery : goal.conds::typed-returns-in_err-outputs-in-InQuery
conds::typed-returns-in_err-outputs-in-InQuery t c = let p = err_from_is_err_and c.from_residual-in_err-outputs-in-InQuery.result c.from_residual-in_err-outputs-in-InQuery.ensures.1 in rw (p.1, p.2) (stops_at c.in_err-outputs-in-InQuery.field-0.0 _ _ _ (onto _ _ _ _ (arms.inquery_at (catalogue c.args.catalog.now) (place_in (catalogue c.args.catalog.now) c.args.place) c.args.at c.next-in-InQuery.result c.next-in-InQuery.ensures c.args.cond.now c.in-InQuery.part c.get-in-InQuery.result.now c.in-InQuery.query c.get-in-InQuery-2.result.now (role_in c.subquery-in-InQuery.result) c.subquery-in-InQuery.ensures c.in-InQuery.is c.get-in-InQuery.ensures c.get-in-InQuery-2.ensures) c.in_ok-kind-in-InQuery.ensures) c.in_err-outputs-in-InQuery.ensures)

pub conds::typed-returns-in_ok-outputs-in-InQuery : goal.conds::typed-returns-in_ok-outputs-in-InQuery
conds::typed-returns-in_ok-outputs-in-InQuery t c = goes_onto c.of_plain.result _ _ _ _ (onto _ _ _ _ (arms.inquery_at (catalogue c.args.catalog.now) (place_in (catalogue c.args.catalog.now) c.args.place) c.args.at c.next-in-InQuery.result c.next-in-InQuery.ensures c.args.cond.now c.in-InQuery.part c.get-in-InQuery.result.now c.in-InQuery.query c.get-in-InQuery-2.result.now (role_in c.subquery-in-InQuery.result) c.subquery-in-InQuery.ensures c.in-InQuery.is c.get-in-InQuery.ensures c.get-in-InQuery-2.ensures) c.in_ok-kind-in-InQuery.ensures) c.in_ok-outputs-in-InQuery.ensures (subst (λ k. Goes c.of_plain.result (conditions.of_plain c.args.at (k, c.in_ok-outputs-in-InQuery.n))) (c.both-in-InQuery.ensures ∙ ap (kind_rules.both (kind_in c.in_ok-kind-in-InQuery.kind)) (c.first_kind-in-InQuery.ensures ∙ ap (λ ks. conditions.first_kind (kinds_in ks)) c.as_slice-in-InQuery.ensures)) c.of_plain.ensures)

pub queries::kinds_of-returns-in_err-outputs : goal.queries::kinds_of-returns-in_err-outputs
queries::kinds_of-returns-in_err-outputs t c = let p = err_from_is_err_and c.from_residual-in_err-outputs.result c.from_residual-in_err-outputs.ensures.1 in rw (p.1, p.2) (stops_at c.in_err-outputs.field-0.0 _ _ _ (clauses.query_is (catalogue c.args.catalog.now) c.args.query.now (role_in c.args.role) (place_in (catalogue c.args.catalog.now) c.args.place) c.args.at c.in_ok-sight.sight (map (group_in (catalogue c.args.catalog.now)) c.in_ok-groups.groups) (wanted_in c.wanted_of-wanted.result) (place_in (catalogue c.args.catalog.now) c.shown_place-shown.result) (clauses.filter_in (catalogue c.args.catalog.now) (place_in (catalogue c.args.catalog.now) c.args.place) c.in_ok-sight.sight) (clauses.having_in (catalogue c.args.catalog.now) (place_in (catalogue c.args.catalog.now) c.args.place) c.in_ok-sight.sight (map (group_in (catalogue c.args.catalog.now)) c.in_ok-groups.groups)) (c.in_ok-sight.ensures ∙ ap (λ cs. inside c.args.place.sight.now (tables_of (map (folds.chain_of marked mark_steps) cs))) c.as_slice.ensures) (c.in_ok-groups.ensures (catalogue c.args.catalog.now)) c.wanted_of-wanted.ensures (c.shown_place-shown.ensures (catalogue c.args.catalog.now) ∙ ap (λ gs. clauses.shown_in (catalogue c.args.catalog.now) (place_in (catalogue c.args.catalog.now) c.args.place) c.in_ok-sight.sight (map (group_in (catalogue c.args.catalog.now)) gs)) c.as_slice-2.ensures) refl refl) (subst (Stops c.in_err-outputs.field-0.0) (λ i. outputs_of (map (shows (catalogue c.args.catalog.now)) (c.as_slice-3.ensures i)) [] (wanted_in c.wanted_of-wanted.result) (place_in (catalogue c.args.catalog.now) c.shown_place-shown.result) (c.next.ensures i)) c.in_err-outputs.ensures))

pub queries::kinds_of-returns-in_err-n : goal.queries::kinds_of-returns-in_err-n
queries::kinds_of-returns-in_err-n t c = let p = err_from_is_err_and c.from_residual-in_err-n.result c.from_residual-in_err-n.ensures.1 in rw (p.1, p.2) (stops_at c.in_err-n.field-0.0 _ _ _ ((clauses.query_is (catalogue c.args.catalog.now) c.args.query.now (role_in c.args.role) (place_in (catalogue c.args.catalog.now) c.args.place) c.args.at c.in_ok-sight.sight (map (group_in (catalogue c.args.catalog.now)) c.in_ok-groups.groups) (wanted_in c.wanted_of-wanted.result) (place_in (catalogue c.args.catalog.now) c.shown_place-shown.result) (clauses.filter_in (catalogue c.args.catalog.now) (place_in (catalogue c.args.catalog.now) c.args.place) c.in_ok-sight.sight) (clauses.having_in (catalogue c.args.catalog.now) (place_in (catalogue c.args.catalog.now) c.args.place) c.in_ok-sight.sight (map (group_in (catalogue c.args.catalog.now)) c.in_ok-groups.groups)) (c.in_ok-sight.ensures ∙ ap (λ cs. inside c.args.place.sight.now (tables_of (map (folds.chain_of marked mark_steps) cs))) c.as_slice.ensures) (c.in_ok-groups.ensures (catalogue c.args.catalog.now)) c.wanted_of-wanted.ensures (c.shown_place-shown.ensures (catalogue c.args.catalog.now) ∙ ap (λ gs. clauses.shown_in (catalogue c.args.catalog.now) (place_in (catalogue c.args.catalog.now) c.args.place) c.in_ok-sight.sight (map (group_in (catalogue c.args.catalog.now)) gs)) c.as_slice-2.ensures) refl refl) ∙ clauses.after_items (catalogue c.args.catalog.now) c.args.query.now (role_in c.args.role) (place_in (catalogue c.args.catalog.now) c.args.place) c.args.at (tables_in c.args.query.now) (place_in (catalogue c.args.catalog.now) c.shown_place-shown.result) (clauses.filter_in (catalogue c.args.catalog.now) (place_in (catalogue c.args.catalog.now) c.args.place) c.in_ok-sight.sight) (clauses.having_in (catalogue c.args.catalog.now) (place_in (catalogue c.args.catalog.now) c.args.place) c.in_ok-sight.sight (map (group_in (catalogue c.args.catalog.now)) c.in_ok-groups.groups)) (wanted_in c.wanted_of-wanted.result) (kinds_in c.in_ok-outputs.outputs, c.in_ok-outputs.n) ((λ i. outputs_of (map (shows (catalogue c.args.catalog.now)) (sym c.as_slice-3.ensures i)) [] (wanted_in c.wanted_of-wanted.result) (place_in (catalogue c.args.catalog.now) c.shown_place-shown.result) (sym c.next.ensures i)) ∙ c.in_ok-outputs.ensures)) (subst (Stops c.in_err-n.field-0.0) (λ i. chains_typed (place_in (catalogue c.args.catalog.now) c.args.place) (calls_of (tables_in c.args.query.now)) (map (chain_of (catalogue c.args.catalog.now)) (c.as_slice-4.ensures i)) c.in_ok-outputs.n) (c.in_err-n.ensures (calls_of (tables_in c.args.query.now)) (clauses.around_is (catalogue c.args.catalog.now) c.args.query.now (place_in (catalogue c.args.catalog.now) c.args.place) c.in_ok-sight.sight (c.in_ok-sight.ensures ∙ ap (λ cs. inside c.args.place.sight.now (tables_of (map (folds.chain_of marked mark_steps) cs))) c.as_slice.ensures)))))

pub queries::kinds_of-returns-in_err-n-2 : goal.queries::kinds_of-returns-in_err-n-2
queries::kinds_of-returns-in_err-n-2 t c = let p = err_from_is_err_and c.from_residual-in_err-n-2.result c.from_residual-in_err-n-2.ensures.1 in rw (p.1, p.2) (stops_at c.in_err-n-2.field-0.0 _ _ _ ((clauses.query_is (catalogue c.args.catalog.now) c.args.query.now (role_in c.args.role) (place_in (catalogue c.args.catalog.now) c.args.place) c.args.at c.in_ok-sight.sight (map (group_in (catalogue c.args.catalog.now)) c.in_ok-groups.groups) (wanted_in c.wanted_of-wanted.result) (place_in (catalogue c.args.catalog.now) c.shown_place-shown.result) (place_in (catalogue c.args.catalog.now) c.filter_place-filter.result) (clauses.having_in (catalogue c.args.catalog.now) (place_in (catalogue c.args.catalog.now) c.args.place) c.in_ok-sight.sight (map (group_in (catalogue c.args.catalog.now)) c.in_ok-groups.groups)) (c.in_ok-sight.ensures ∙ ap (λ cs. inside c.args.place.sight.now (tables_of (map (folds.chain_of marked mark_steps) cs))) c.as_slice.ensures) (c.in_ok-groups.ensures (catalogue c.args.catalog.now)) c.wanted_of-wanted.ensures (c.shown_place-shown.ensures (catalogue c.args.catalog.now) ∙ ap (λ gs. clauses.shown_in (catalogue c.args.catalog.now) (place_in (catalogue c.args.catalog.now) c.args.place) c.in_ok-sight.sight (map (group_in (catalogue c.args.catalog.now)) gs)) c.as_slice-2.ensures) (c.filter_place-filter.ensures (catalogue c.args.catalog.now)) refl) ∙ clauses.after_from (catalogue c.args.catalog.now) c.args.query.now (role_in c.args.role) (place_in (catalogue c.args.catalog.now) c.args.place) c.args.at (tables_in c.args.query.now) (place_in (catalogue c.args.catalog.now) c.shown_place-shown.result) (place_in (catalogue c.args.catalog.now) c.filter_place-filter.result) (clauses.having_in (catalogue c.args.catalog.now) (place_in (catalogue c.args.catalog.now) c.args.place) c.in_ok-sight.sight (map (group_in (catalogue c.args.catalog.now)) c.in_ok-groups.groups)) (wanted_in c.wanted_of-wanted.result) (kinds_in c.in_ok-outputs.outputs, c.in_ok-outputs.n) c.in_ok-n.n ((λ i. outputs_of (map (shows (catalogue c.args.catalog.now)) (sym c.as_slice-3.ensures i)) [] (wanted_in c.wanted_of-wanted.result) (place_in (catalogue c.args.catalog.now) c.shown_place-shown.result) (sym c.next.ensures i)) ∙ c.in_ok-outputs.ensures) ((λ i. chains_typed (place_in (catalogue c.args.catalog.now) c.args.place) (calls_of (tables_in c.args.query.now)) (map (chain_of (catalogue c.args.catalog.now)) (sym c.as_slice-4.ensures i)) c.in_ok-outputs.n) ∙ c.in_ok-n.ensures (calls_of (tables_in c.args.query.now)) (clauses.around_is (catalogue c.args.catalog.now) c.args.query.now (place_in (catalogue c.args.catalog.now) c.args.place) c.in_ok-sight.sight (c.in_ok-sight.ensures ∙ ap (λ cs. inside c.args.place.sight.now (tables_of (map (folds.chain_of marked mark_steps) cs))) c.as_slice.ensures)))) c.in_err-n-2.ensures)

pub queries::kinds_of-returns-in_err-n-3 : goal.queries::kinds_of-returns-in_err-n-3
queries::kinds_of-returns-in_err-n-3 t c = let p = err_from_is_err_and c.from_residual-in_err-n-3.result c.from_residual-in_err-n-3.ensures.1 in rw (p.1, p.2) (stops_at c.in_err-n-3.field-0.0 _ _ _ ((clauses.query_is (catalogue c.args.catalog.now) c.args.query.now (role_in c.args.role) (place_in (catalogue c.args.catalog.now) c.args.place) c.args.at c.in_ok-sight.sight (map (group_in (catalogue c.args.catalog.now)) c.in_ok-groups.groups) (wanted_in c.wanted_of-wanted.result) (place_in (catalogue c.args.catalog.now) c.shown_place-shown.result) (place_in (catalogue c.args.catalog.now) c.filter_place-filter.result) (clauses.having_in (catalogue c.args.catalog.now) (place_in (catalogue c.args.catalog.now) c.args.place) c.in_ok-sight.sight (map (group_in (catalogue c.args.catalog.now)) c.in_ok-groups.groups)) (c.in_ok-sight.ensures ∙ ap (λ cs. inside c.args.place.sight.now (tables_of (map (folds.chain_of marked mark_steps) cs))) c.as_slice.ensures) (c.in_ok-groups.ensures (catalogue c.args.catalog.now)) c.wanted_of-wanted.ensures (c.shown_place-shown.ensures (catalogue c.args.catalog.now) ∙ ap (λ gs. clauses.shown_in (catalogue c.args.catalog.now) (place_in (catalogue c.args.catalog.now) c.args.place) c.in_ok-sight.sight (map (group_in (catalogue c.args.catalog.now)) gs)) c.as_slice-2.ensures) (c.filter_place-filter.ensures (catalogue c.args.catalog.now)) refl) ∙ clauses.after_where (catalogue c.args.catalog.now) c.args.query.now (role_in c.args.role) (place_in (catalogue c.args.catalog.now) c.args.place) c.args.at (tables_in c.args.query.now) (place_in (catalogue c.args.catalog.now) c.shown_place-shown.result) (place_in (catalogue c.args.catalog.now) c.filter_place-filter.result) (clauses.having_in (catalogue c.args.catalog.now) (place_in (catalogue c.args.catalog.now) c.args.place) c.in_ok-sight.sight (map (group_in (catalogue c.args.catalog.now)) c.in_ok-groups.groups)) (wanted_in c.wanted_of-wanted.result) (kinds_in c.in_ok-outputs.outputs, c.in_ok-outputs.n) c.in_ok-n.n c.in_ok-n-2.n ((λ i. outputs_of (map (shows (catalogue c.args.catalog.now)) (sym c.as_slice-3.ensures i)) [] (wanted_in c.wanted_of-wanted.result) (place_in (catalogue c.args.catalog.now) c.shown_place-shown.result) (sym c.next.ensures i)) ∙ c.in_ok-outputs.ensures) ((λ i. chains_typed (place_in (catalogue c.args.catalog.now) c.args.place) (calls_of (tables_in c.args.query.now)) (map (chain_of (catalogue c.args.catalog.now)) (sym c.as_slice-4.ensures i)) c.in_ok-outputs.n) ∙ c.in_ok-n.ensures (calls_of (tables_in c.args.query.now)) (clauses.around_is (catalogue c.args.catalog.now) c.args.query.now (place_in (catalogue c.args.catalog.now) c.args.place) c.in_ok-sight.sight (c.in_ok-sight.ensures ∙ ap (λ cs. inside c.args.place.sight.now (tables_of (map (folds.chain_of marked mark_steps) cs))) c.as_slice.ensures))) c.in_ok-n-2.ensures) (subst (Stops c.in_err-n-3.field-0.0) (λ i. group_typed (catalogue c.args.catalog.now) (place_in (catalogue c.args.catalog.now) c.filter_place-filter.result) (c.as_slice-5.ensures i) c.in_ok-n-2.n) c.in_err-n-3.ensures))

pub queries::kinds_of-returns-in_err-n-4 : goal.queries::kinds_of-returns-in_err-n-4
queries::kinds_of-returns-in_err-n-4 t c = let p = err_from_is_err_and c.from_residual-in_err-n-4.result c.from_residual-in_err-n-4.ensures.1 in rw (p.1, p.2) (stops_at c.in_err-n-4.field-0.0 _ _ _ ((clauses.query_is (catalogue c.args.catalog.now) c.args.query.now (role_in c.args.role) (place_in (catalogue c.args.catalog.now) c.args.place) c.args.at c.in_ok-sight.sight (map (group_in (catalogue c.args.catalog.now)) c.in_ok-groups.groups) (wanted_in c.wanted_of-wanted.result) (place_in (catalogue c.args.catalog.now) c.shown_place-shown.result) (place_in (catalogue c.args.catalog.now) c.filter_place-filter.result) (place_in (catalogue c.args.catalog.now) c.having_place-having.result) (c.in_ok-sight.ensures ∙ ap (λ cs. inside c.args.place.sight.now (tables_of (map (folds.chain_of marked mark_steps) cs))) c.as_slice.ensures) (c.in_ok-groups.ensures (catalogue c.args.catalog.now)) c.wanted_of-wanted.ensures (c.shown_place-shown.ensures (catalogue c.args.catalog.now) ∙ ap (λ gs. clauses.shown_in (catalogue c.args.catalog.now) (place_in (catalogue c.args.catalog.now) c.args.place) c.in_ok-sight.sight (map (group_in (catalogue c.args.catalog.now)) gs)) c.as_slice-2.ensures) (c.filter_place-filter.ensures (catalogue c.args.catalog.now)) (c.having_place-having.ensures (catalogue c.args.catalog.now) ∙ ap (λ gs. clauses.having_in (catalogue c.args.catalog.now) (place_in (catalogue c.args.catalog.now) c.args.place) c.in_ok-sight.sight (map (group_in (catalogue c.args.catalog.now)) gs)) c.as_slice-6.ensures)) ∙ clauses.after_group (catalogue c.args.catalog.now) c.args.query.now (role_in c.args.role) (place_in (catalogue c.args.catalog.now) c.args.place) c.args.at (tables_in c.args.query.now) (place_in (catalogue c.args.catalog.now) c.shown_place-shown.result) (place_in (catalogue c.args.catalog.now) c.filter_place-filter.result) (place_in (catalogue c.args.catalog.now) c.having_place-having.result) (wanted_in c.wanted_of-wanted.result) (kinds_in c.in_ok-outputs.outputs, c.in_ok-outputs.n) c.in_ok-n.n c.in_ok-n-2.n c.in_ok-n-3.n ((λ i. outputs_of (map (shows (catalogue c.args.catalog.now)) (sym c.as_slice-3.ensures i)) [] (wanted_in c.wanted_of-wanted.result) (place_in (catalogue c.args.catalog.now) c.shown_place-shown.result) (sym c.next.ensures i)) ∙ c.in_ok-outputs.ensures) ((λ i. chains_typed (place_in (catalogue c.args.catalog.now) c.args.place) (calls_of (tables_in c.args.query.now)) (map (chain_of (catalogue c.args.catalog.now)) (sym c.as_slice-4.ensures i)) c.in_ok-outputs.n) ∙ c.in_ok-n.ensures (calls_of (tables_in c.args.query.now)) (clauses.around_is (catalogue c.args.catalog.now) c.args.query.now (place_in (catalogue c.args.catalog.now) c.args.place) c.in_ok-sight.sight (c.in_ok-sight.ensures ∙ ap (λ cs. inside c.args.place.sight.now (tables_of (map (folds.chain_of marked mark_steps) cs))) c.as_slice.ensures))) c.in_ok-n-2.ensures ((λ i. group_typed (catalogue c.args.catalog.now) (place_in (catalogue c.args.catalog.now) c.filter_place-filter.result) (sym c.as_slice-5.ensures i) c.in_ok-n-2.n) ∙ c.in_ok-n-3.ensures)) c.in_err-n-4.ensures)

pub queries::kinds_of-returns : goal.queries::kinds_of-returns
queries::kinds_of-returns t c = subst (Gives kinds_in c.query_fits.result) (sym ((clauses.query_is (catalogue c.args.catalog.now) c.args.query.now (role_in c.args.role) (place_in (catalogue c.args.catalog.now) c.args.place) c.args.at c.in_ok-sight.sight (map (group_in (catalogue c.args.catalog.now)) c.in_ok-groups.groups) (wanted_in c.wanted_of-wanted.result) (place_in (catalogue c.args.catalog.now) c.shown_place-shown.result) (place_in (catalogue c.args.catalog.now) c.filter_place-filter.result) (place_in (catalogue c.args.catalog.now) c.having_place-having.result) (c.in_ok-sight.ensures ∙ ap (λ cs. inside c.args.place.sight.now (tables_of (map (folds.chain_of marked mark_steps) cs))) c.as_slice.ensures) (c.in_ok-groups.ensures (catalogue c.args.catalog.now)) c.wanted_of-wanted.ensures (c.shown_place-shown.ensures (catalogue c.args.catalog.now) ∙ ap (λ gs. clauses.shown_in (catalogue c.args.catalog.now) (place_in (catalogue c.args.catalog.now) c.args.place) c.in_ok-sight.sight (map (group_in (catalogue c.args.catalog.now)) gs)) c.as_slice-2.ensures) (c.filter_place-filter.ensures (catalogue c.args.catalog.now)) (c.having_place-having.ensures (catalogue c.args.catalog.now) ∙ ap (λ gs. clauses.having_in (catalogue c.args.catalog.now) (place_in (catalogue c.args.catalog.now) c.args.place) c.in_ok-sight.sight (map (group_in (catalogue c.args.catalog.now)) gs)) c.as_slice-6.ensures)) ∙ clauses.after_having (catalogue c.args.catalog.now) c.args.query.now (role_in c.args.role) (place_in (catalogue c.args.catalog.now) c.args.place) c.args.at (tables_in c.args.query.now) (place_in (catalogue c.args.catalog.now) c.shown_place-shown.result) (place_in (catalogue c.args.catalog.now) c.filter_place-filter.result) (place_in (catalogue c.args.catalog.now) c.having_place-having.result) (wanted_in c.wanted_of-wanted.result) (kinds_in c.in_ok-outputs.outputs, c.in_ok-outputs.n) c.in_ok-n.n c.in_ok-n-2.n c.in_ok-n-3.n c.in_ok-n-4.n ((λ i. outputs_of (map (shows (catalogue c.args.catalog.now)) (sym c.as_slice-3.ensures i)) [] (wanted_in c.wanted_of-wanted.result) (place_in (catalogue c.args.catalog.now) c.shown_place-shown.result) (sym c.next.ensures i)) ∙ c.in_ok-outputs.ensures) ((λ i. chains_typed (place_in (catalogue c.args.catalog.now) c.args.place) (calls_of (tables_in c.args.query.now)) (map (chain_of (catalogue c.args.catalog.now)) (sym c.as_slice-4.ensures i)) c.in_ok-outputs.n) ∙ c.in_ok-n.ensures (calls_of (tables_in c.args.query.now)) (clauses.around_is (catalogue c.args.catalog.now) c.args.query.now (place_in (catalogue c.args.catalog.now) c.args.place) c.in_ok-sight.sight (c.in_ok-sight.ensures ∙ ap (λ cs. inside c.args.place.sight.now (tables_of (map (folds.chain_of marked mark_steps) cs))) c.as_slice.ensures))) c.in_ok-n-2.ensures ((λ i. group_typed (catalogue c.args.catalog.now) (place_in (catalogue c.args.catalog.now) c.filter_place-filter.result) (sym c.as_slice-5.ensures i) c.in_ok-n-2.n) ∙ c.in_ok-n-3.ensures) c.in_ok-n-4.ensures)) (c.query_fits.ensures (catalogue c.args.catalog.now))
