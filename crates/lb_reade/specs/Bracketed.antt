-- Reading in a bracket, by the kind of content that is wanted; and what was read, as the definitions have it.
use Rattle.std.proofs.Common.{inl, inr}
use Rattle.lb_tok.specs.Form.{Inner, an_expr, a_cond, a_query}
use Rattle.lb_reade.specs.declared.inside.Inside.{Inside}
use Rattle.lb_reade.specs.declared.inside.Inside.TheVariants as insides
use Rattle.lb_reade.specs.declared.inside.Mixed as read_mixed
use Rattle.lb_reade.specs.declared.inside.Mixed.TheVariants as mixeds
use Rattle.lb_reade.specs.declared.inside.Side as read_side
use Rattle.lb_reade.specs.declared.inside.Side.TheVariants as sides
use Rattle.lb_reade.specs.declared.inside.Wanted.{Wanted}
use Rattle.lb_reade.specs.declared.inside.Wanted.TheVariants as wanteds
use Rattle.lb_readt.specs.Readers.{Reader, made}
use Rattle.lb_reade.specs.Expressions.{Readers, Mixed, Side}

-- what was read, as the grammar's content of a bracket
abbrev pub inner_of : Inside → Inner
inner_of (insides.Expr e) = an_expr e
inner_of (insides.Condition c) = a_cond c
inner_of (insides.Query q) = a_query q

abbrev pub inner_mixed : Mixed → Inner
inner_mixed (inl c) = a_cond c
inner_mixed (inr e) = an_expr e

-- what stands in a parenthesis at the head of a condition
abbrev pub mixed_of : read_mixed.Mixed → Mixed
mixed_of (mixeds.Cond c) = inl c
mixed_of (mixeds.Expr e) = inr e

-- what stands in a parenthesis after a comparison sign
abbrev pub side_of : read_side.Side → Side
side_of (sides.Query q) = inl q
side_of (sides.Expr e) = inr e

-- what the readers in a bracket read
abbrev pub within : Readers → Wanted → Reader Inner
within w wanteds.Expr = made an_expr w.expr
within w wanteds.Condition = made a_cond w.condition
within w wanteds.Mixed = made inner_mixed w.mixed
within w wanteds.Query = made a_query w.query
