-- Reading at one level of brackets, by the kind of content that is wanted.
use Rattle.lb_tok.specs.Form.{Inner, an_expr, a_cond, a_query}
use Rattle.lb_reade.specs.declared.inside.Wanted.{Wanted}
use Rattle.lb_reade.specs.declared.inside.Wanted.TheVariants as wanteds
use Rattle.lb_readt.specs.Readers.{Reader, made}
use Rattle.lb_reade.specs.Bracketed.{inner_mixed}
use Rattle.lb_reade.specs.Expressions.{Readers, expr_at, cond_at, mixed_at}
use Rattle.lb_readq.specs.Queries.{query_at}

-- what is read where w reads in brackets
abbrev pub level_at : Readers → Wanted → Reader Inner
level_at w wanteds.Expr = made an_expr (expr_at w)
level_at w wanteds.Condition = made a_cond (cond_at w)
level_at w wanteds.Mixed = made inner_mixed (mixed_at w)
level_at w wanteds.Query = made a_query (query_at w)
