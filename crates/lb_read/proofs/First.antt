-- Whether the first token begins a definition, kind by kind.
use Rattle.std.proofs.Common.{Bool, true, false, cond, ◌||◌, ◌≡◌, List, [], ◌∷◌, refl}
use Rattle.lb_tok.specs.declared.kind.Kind.TheVariants as kinds
use Rattle.lb_tok.specs.declared.token.Token.{Token}
use Rattle.lb_tok.specs.Kinds.{has, only}
use Rattle.lb_readt.specs.Readers.{heads}
use Rattle.lb_readd.specs.Choosing.{definers}

or5 : (a b c d e : Bool) → cond a true (cond b true (cond c true (cond d true (cond e true false)))) ≡ ((cond a true false) || (cond b true false) || (cond c true false) || (cond d true false) || (cond e true false))
or5 true b c d e = refl
or5 false true c d e = refl
or5 false false true d e = refl
or5 false false false true e = refl
or5 false false false false e = refl

pub any_of_five : (ts : List Token) → heads definers ts ≡ (heads (only kinds.Create) ts || heads (only kinds.Alter) ts || heads (only kinds.Drop) ts || heads (only kinds.Grant) ts || heads (only kinds.Revoke) ts)
unfolding has
any_of_five [] = refl
any_of_five (t ∷ ts) = or5 _ _ _ _ _
