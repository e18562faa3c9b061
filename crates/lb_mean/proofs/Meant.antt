-- The meaning of a tree depends on what it mentions.
use Rattle.std.proofs.Common.{ℕ, ℤ, ◌≡◌, refl, ◌∙◌, List, Option}
use Rattle.lb_tree.specs.declared.query.Atom.{Atom}
use Rattle.lb_tree.specs.declared.query.Atom.TheVariants as atoms
use Rattle.lb_tree.specs.declared.query.Cond.TheOpen as layers
use Rattle.lb_tree.specs.Folds.{Layer}
use Rattle.lb_cat.specs.declared.cred.Cred.{Cred}
use Rattle.lb_cat.specs.Catalog.{Policy}
use Rattle.lb_names.specs.Mentions.{in_atom, in_expr, in_cond, in_query}
use Rattle.lb_mean.specs.Setting.{Setting, Source}
use Rattle.lb_mean.specs.Environment.{atom_value, atom_policy}
use Rattle.lb_mean.specs.Meant.{meaning}
use Rattle.lb_mean.specs.Sure.{expr_sure, expr_total}
use Rattle.lb_mean.specs.Joined.{inner, left, cross, chain}
use Rattle.lb_mean.specs.Meaning.{steps, means, says, answers}
use Rattle.lb_mean.specs.Frame.{Agrees, SameIn, ExprFrame, CondFrame, QueryFrame}
use Rattle.lb_mean.proofs.Framed.{Alike, head_expr, head_join, expr_framed, cond_framed, query_framed}

-- settings of one session on one day
module _ (c : Cred) (day : ℤ) (P Q : List ℕ → Option Policy) (T U : List ℕ → Source) where
  abbrev R : Setting
  R = record { cred = c; day = day; policies = P; sources = T }

  abbrev S : Setting
  S = record { cred = c; day = day; policies = Q; sources = U }

  atom_same : (x : Atom) → Agrees (SameIn R S) (in_atom x) → atom_value R x ≡ atom_value S x
  atom_same atoms.Null h = refl
  atom_same (atoms.Int n) h = refl
  atom_same (atoms.Text t) h = refl
  atom_same (atoms.Date d) h = refl
  atom_same atoms.CurrentDate h = refl
  atom_same atoms.SessionUser h = refl
  atom_same (atoms.Column c) h = refl
  atom_same atoms.CountRows h = refl
  atom_same (atoms.VerifyRole roles) h = refl
  atom_same (atoms.VerifyGroup groups) h = refl
  atom_same (atoms.SecLabel p text) h = λ i env. atom_value (record S { policies = λ n. h.0 i }) (atoms.SecLabel p text) env
  atom_same (atoms.SecLabelByName p l) h = λ i env. atom_value (record S { policies = λ n. h.0 i }) (atoms.SecLabelByName p l) env
  atom_same (atoms.SecLabelToChar p c) h = λ i env. atom_value (record S { policies = λ n. h.0 i }) (atoms.SecLabelToChar p c) env

  policy_same : (x : Atom) → Agrees (SameIn R S) (in_atom x) → atom_policy R x ≡ atom_policy S x
  policy_same atoms.Null h = refl
  policy_same (atoms.Int n) h = refl
  policy_same (atoms.Text t) h = refl
  policy_same (atoms.Date d) h = refl
  policy_same atoms.CurrentDate h = refl
  policy_same atoms.SessionUser h = refl
  policy_same (atoms.Column c) h = refl
  policy_same atoms.CountRows h = refl
  policy_same (atoms.VerifyRole roles) h = refl
  policy_same (atoms.VerifyGroup groups) h = refl
  policy_same (atoms.SecLabel p text) h = λ i env. h.0 i
  policy_same (atoms.SecLabelByName p l) h = λ i env. h.0 i
  policy_same (atoms.SecLabelToChar p c) h = refl

  expr_same : (x : Layer meaning layers.Expr-F) → Agrees (SameIn R S) (head_expr x) → (steps R).expr x ≡ (steps S).expr x
  expr_same (layers.Expr-F.Atom x) h = λ i. record { value = atom_same x h i; policy = policy_same x h i; sure = expr_sure (layers.Expr-F.Atom x); total = expr_total (layers.Expr-F.Atom x) }
  expr_same (layers.Expr-F.Sum ms) h = refl
  expr_same (layers.Expr-F.Concat ms) h = refl
  expr_same (layers.Expr-F.Product ms) h = refl
  expr_same (layers.Expr-F.Case arms other) h = refl
  expr_same (layers.Expr-F.Match m arms other) h = refl
  expr_same (layers.Expr-F.Aggregate op m) h = refl
  expr_same (layers.Expr-F.Substr text start count) h = refl
  expr_same (layers.Expr-F.Apply f m) h = refl
  expr_same (layers.Expr-F.Coalesce ms) h = refl

  join_same : (x : Layer meaning layers.Join-F) → Agrees (SameIn R S) (head_join x) → (steps R).join x ≡ (steps S).join x
  join_same (layers.Join-F.Inner tab on) h = λ i. inner (h.0 i) tab on
  join_same (layers.Join-F.Left tab on) h = λ i. left (h.0 i) tab on
  join_same (layers.Join-F.Cross tab) h = λ i. cross (h.0 i) tab

  alike : Alike meaning (steps R) (steps S) (SameIn R S)
  alike = record {
    cond = λ x. refl;
    expr = expr_same;
    item = λ x. refl;
    join = join_same;
    arm = λ x. refl;
    chain = λ x h i. chain (h.0 i) x.first x.joins;
    choice = λ x. refl;
    query = λ x. refl;
    signed = λ x. refl;
  }

  pub expr_of_session : (e : _) → Agrees (SameIn R S) (in_expr e) → means R e ≡ means S e
  unfolding means
  expr_of_session = expr_framed meaning (steps R) (steps S) (SameIn R S) alike

  pub cond_of_session : (c : _) → Agrees (SameIn R S) (in_cond c) → says R c ≡ says S c
  unfolding says
  cond_of_session = cond_framed meaning (steps R) (steps S) (SameIn R S) alike

  pub query_of_session : (q : _) → Agrees (SameIn R S) (in_query q) → answers R q ≡ answers S q
  unfolding answers
  query_of_session = query_framed meaning (steps R) (steps S) (SameIn R S) alike

pub expr_has_frame : ExprFrame
expr_has_frame R S e h = (λ i. means (record { cred = h.cred i; day = h.day i; policies = R.policies; sources = R.sources }) e)
    ∙ expr_of_session S.cred S.day R.policies S.policies R.sources S.sources e h.mentioned

pub cond_has_frame : CondFrame
cond_has_frame R S c h = (λ i. says (record { cred = h.cred i; day = h.day i; policies = R.policies; sources = R.sources }) c)
    ∙ cond_of_session S.cred S.day R.policies S.policies R.sources S.sources c h.mentioned

pub query_has_frame : QueryFrame
query_has_frame R S q h = (λ i. answers (record { cred = h.cred i; day = h.day i; policies = R.policies; sources = R.sources }) q)
    ∙ query_of_session S.cred S.day R.policies S.policies R.sources S.sources q h.mentioned
