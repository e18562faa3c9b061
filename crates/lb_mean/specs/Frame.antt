-- Agreement on what a tree mentions: the form of every frame law.
use Rattle.std.specs.Prelude.{◌≡◌, [], ◌∷◌}
use Rattle.lb_tree.specs.declared.query.Expr.{Expr}
use Rattle.lb_tree.specs.declared.query.Cond.{Cond}
use Rattle.lb_tree.specs.declared.query.Query.{Query}
use Rattle.lb_names.specs.Mentions.{Mention, Mentions, table, policy, label, in_expr, in_cond, in_query}
use Rattle.lb_mean.specs.Setting.{Setting}
use Rattle.lb_mean.specs.Meaning.{means, says, answers}

-- what holds of each mention
abbrev pub Agrees : (Mention → Type 0) → Mentions → Type 0
Agrees A [] = Unit {0}
Agrees A (m ∷ ms) = A m × Agrees A ms

-- two settings see the same of a table, and have the same record of a policy
abbrev pub SameIn : Setting → Setting → Mention → Type 0
SameIn R S (table n) = R.sources n ≡ S.sources n
SameIn R S (policy p) = R.policies p ≡ S.policies p
SameIn R S (label p l) = R.policies p ≡ S.policies p

-- the session and the day are the same, and all that is mentioned
pub record SameSetting (R S : Setting) (ms : Mentions) : Type 0 where
  pub cred : R.cred ≡ S.cred
  pub day : R.day ≡ S.day
  pub mentioned : Agrees (SameIn R S) ms

-- two settings that agree on what an expression, a condition or a query mentions give it one meaning
abbrev pub ExprFrame : Type 0
ExprFrame = (R S : Setting) (e : Expr) → SameSetting R S (in_expr e) → means R e ≡ means S e

-- the same of a condition
abbrev pub CondFrame : Type 0
CondFrame = (R S : Setting) (c : Cond) → SameSetting R S (in_cond c) → says R c ≡ says S c

-- the same of a query
abbrev pub QueryFrame : Type 0
QueryFrame = (R S : Setting) (q : Query) → SameSetting R S (in_query q) → answers R q ≡ answers S q
