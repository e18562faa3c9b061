-- Each answer of reading, at the tokens that the lexer found.
use Rattle.std.proofs.Common.{◌≡◌, List, [], subst}
use Rattle.lb_tok.specs.declared.token.Token.{Token}
use Rattle.lb_tok.specs.Grammar.{IsQueryOrWrite}
use Rattle.lb_readt.specs.Readers.{bad, deep, got, stop}
use Rattle.lb_readq.specs.Queries.{statement_at}
use Rattle.lb_readq.specs.Judging.{Judged}
use Rattle.lb_readq.proofs.Whole.{judges}
use Rattle.lb_readq.proofs.Writes.{whole}
use Rattle.lb_readq.proofs.Offsets.{left_over, if_read, if_cut, goes_wrong, goes_deep}
use Rattle.lb_readq.proofs.parse.query_or_write.Goals as goal

judged : (ts : List Token) → Judged IsQueryOrWrite 64 ts (statement_at 64 ts)
unfolding statement_at
judged ts = judges whole 64 ts

pub offset-requires-clause-paired : goal.offset-requires-clause-paired
offset-requires-clause-paired c = c.requires

pub offset-requires-clause-left : goal.offset-requires-clause-left
offset-requires-clause-left c =
    let ts = c.args.tokens.now.tokens in
    let at_fault = rw c.in-Err-Bad.field-0-is at c.in-Err-Bad.ensures in
    left_over IsQueryOrWrite 64 ts bad c.in-Err-Bad.rest.now (statement_at 64 ts) (judged ts)
    (subst (λ (us : List Token). statement_at 64 us ≡ stop bad c.in-Err-Bad.rest.now) c.as_slice.ensures at_fault)

pub offset-requires-in-Err-Deep-clause-paired : goal.offset-requires-in-Err-Deep-clause-paired
offset-requires-in-Err-Deep-clause-paired c = c.requires

pub offset-requires-in-Err-Deep-clause-left : goal.offset-requires-in-Err-Deep-clause-left
offset-requires-in-Err-Deep-clause-left c =
    let ts = c.args.tokens.now.tokens in
    let at_fault = rw c.in-Err-Deep.field-0-is at c.in-Err-Deep.ensures in
    left_over IsQueryOrWrite 64 ts deep c.in-Err-Deep.rest.now (statement_at 64 ts) (judged ts)
    (subst (λ (us : List Token). statement_at 64 us ≡ stop deep c.in-Err-Deep.rest.now) c.as_slice.ensures at_fault)

pub returns-in-Ok-clause-read : goal.returns-in-Ok-clause-read
returns-in-Ok-clause-read c =
    let ts = c.args.tokens.now.tokens in
    if_read IsQueryOrWrite 64 c.args.tokens.now c.in-Ok.stmt (statement_at 64 ts) (judged ts)
    (subst (λ (us : List Token). statement_at 64 us ≡ got c.in-Ok.stmt []) c.as_slice.ensures c.in-Ok.ensures) c.unless_cut.result c.unless_cut.ensures.ok

pub returns-in-Ok-clause-refused : goal.returns-in-Ok-clause-refused
returns-in-Ok-clause-refused c =
    let ts = c.args.tokens.now.tokens in
    if_cut IsQueryOrWrite 64 c.args.tokens.now c.in-Ok.stmt (statement_at 64 ts) (judged ts)
    (subst (λ (us : List Token). statement_at 64 us ≡ got c.in-Ok.stmt []) c.as_slice.ensures c.in-Ok.ensures) c.unless_cut.result c.unless_cut.ensures.err

pub returns-in-Err-Bad-clause-refused : goal.returns-in-Err-Bad-clause-refused
returns-in-Err-Bad-clause-refused c =
    let ts = c.args.tokens.now.tokens in
    let at_fault = rw c.in-Err-Bad.field-0-is at c.in-Err-Bad.ensures in
    goes_wrong IsQueryOrWrite 64 c.args.tokens.now c.in-Err-Bad.rest.now c.offset.result (statement_at 64 ts) (judged ts)
    (subst (λ (us : List Token). statement_at 64 us ≡ stop bad c.in-Err-Bad.rest.now) c.as_slice.ensures at_fault) c.offset.ensures

pub returns-in-Err-Deep-clause-refused : goal.returns-in-Err-Deep-clause-refused
returns-in-Err-Deep-clause-refused c =
    let ts = c.args.tokens.now.tokens in
    let at_fault = rw c.in-Err-Deep.field-0-is at c.in-Err-Deep.ensures in
    goes_deep IsQueryOrWrite 64 c.args.tokens.now c.in-Err-Deep.rest.now c.offset-in-Err-Deep.result (statement_at 64 ts) (judged ts)
    (subst (λ (us : List Token). statement_at 64 us ≡ stop deep c.in-Err-Deep.rest.now) c.as_slice.ensures at_fault) c.offset-in-Err-Deep.ensures
