-- The meaning of a tree in two sessions depends on what they hold of the policies that it mentions.
use Rattle.std.proofs.Common.{ℕ, ℤ, ◌≡◌, refl, List, Option}
use Rattle.std.specs.Prelude.{Ok}
use Rattle.lb_base.specs.Evaluated.{◌>>=◌}
use Rattle.lb_tree.specs.declared.query.Atom.{Atom}
use Rattle.lb_tree.specs.declared.query.Atom.TheVariants as atoms
use Rattle.lb_tree.specs.declared.query.Cond.TheOpen as layers
use Rattle.lb_tree.specs.Folds.{Layer}
use Rattle.lb_tree.specs.declared.query.Cond.{Cond}
use Rattle.lb_tree.specs.declared.query.Expr.{Expr}
use Rattle.lb_tree.specs.declared.query.Query.{Query}
use Rattle.lb_cat.specs.declared.cred.Cred.{Cred}
use Rattle.lb_cat.specs.declared.cred.CredLabel.{CredLabel}
use Rattle.lb_cat.specs.Catalog.{Policy}
use Rattle.lb_names.specs.Mentions.{Mention, table, policy, label, in_atom, in_expr, in_cond, in_query}
use Rattle.lb_mean.specs.Environment.{atom_value, atom_policy, column_value}
use Rattle.lb_mean.specs.Setting.{Setting, Source}
use Rattle.lb_mean.specs.Meant.{meaning}
use Rattle.lb_mean.specs.Sure.{expr_sure, expr_total}
use Rattle.lb_mean.specs.Joined.{inner, left, cross, chain}
use Rattle.lb_mean.specs.Meaning.{steps, means, says, answers}
use Rattle.lb_mean.specs.Frame.{Agrees}
use Rattle.lb_mean.proofs.Framed.{head_expr, head_join, expr_framed, cond_framed, query_framed}
use Rattle.lb_mean.proofs.Framed as framed
use Rattle.lb_mean.proofs.Holding.{other, Alike, text_same}

-- settings of two sessions
module _ (c : Cred) (labels : List CredLabel) (day : ℤ) (P : List ℕ → Option Policy) (T U : List ℕ → Source) where
  abbrev R : Setting
  R = record { cred = c; day = day; policies = P; sources = T }

  abbrev S : Setting
  S = record { cred = other c labels; day = day; policies = P; sources = U }

  -- they see the same of a table, and hold the same of a policy
  abbrev pub SeenAlike : Mention → Type 0
  SeenAlike (table n) = T n ≡ U n
  SeenAlike (policy p) = Alike c labels (P p)
  SeenAlike (label p l) = Alike c labels (P p)

  atom_same : (x : Atom) → Agrees SeenAlike (in_atom x) → atom_value R x ≡ atom_value S x
  atom_same atoms.Null h = refl
  atom_same (atoms.Int n) h = refl
  atom_same (atoms.Text t) h = refl
  atom_same (atoms.Date d) h = refl
  atom_same atoms.CurrentDate h = refl
  atom_same atoms.SessionUser h = refl
  atom_same (atoms.Column c) h = refl
  atom_same atoms.CountRows h = refl
  atom_same (atoms.VerifyRole roles) h = refl
  atom_same (atoms.VerifyGroup groups) h = refl
  atom_same (atoms.SecLabel p text) h = refl
  atom_same (atoms.SecLabelByName p l) h = refl
  atom_same (atoms.SecLabelToChar p k) h = λ i env. column_value k env >>= λ x. Ok (text_same c labels (P p) x h.0 i)

  policy_same : (x : Atom) → atom_policy R x ≡ atom_policy S x
  policy_same atoms.Null = refl
  policy_same (atoms.Int n) = refl
  policy_same (atoms.Text t) = refl
  policy_same (atoms.Date d) = refl
  policy_same atoms.CurrentDate = refl
  policy_same atoms.SessionUser = refl
  policy_same (atoms.Column c) = refl
  policy_same atoms.CountRows = refl
  policy_same (atoms.VerifyRole roles) = refl
  policy_same (atoms.VerifyGroup groups) = refl
  policy_same (atoms.SecLabel p text) = refl
  policy_same (atoms.SecLabelByName p l) = refl
  policy_same (atoms.SecLabelToChar p c) = refl

  expr_same : (x : Layer meaning layers.Expr-F) → Agrees SeenAlike (head_expr x) → (steps R).expr x ≡ (steps S).expr x
  expr_same (layers.Expr-F.Atom x) h = λ i. record { value = atom_same x h i; policy = policy_same x i; sure = expr_sure (layers.Expr-F.Atom x); total = expr_total (layers.Expr-F.Atom x) }
  expr_same (layers.Expr-F.Sum ms) h = refl
  expr_same (layers.Expr-F.Concat ms) h = refl
  expr_same (layers.Expr-F.Product ms) h = refl
  expr_same (layers.Expr-F.Case arms otherwise) h = refl
  expr_same (layers.Expr-F.Match m arms otherwise) h = refl
  expr_same (layers.Expr-F.Aggregate op m) h = refl
  expr_same (layers.Expr-F.Substr text start count) h = refl
  expr_same (layers.Expr-F.Apply f m) h = refl
  expr_same (layers.Expr-F.Coalesce ms) h = refl

  join_same : (x : Layer meaning layers.Join-F) → Agrees SeenAlike (head_join x) → (steps R).join x ≡ (steps S).join x
  join_same (layers.Join-F.Inner tab on) h = λ i. inner (h.0 i) tab on
  join_same (layers.Join-F.Left tab on) h = λ i. left (h.0 i) tab on
  join_same (layers.Join-F.Cross tab) h = λ i. cross (h.0 i) tab

  alike : framed.Alike meaning (steps R) (steps S) SeenAlike
  alike = record {
    cond = λ x. refl;
    expr = expr_same;
    item = λ x. refl;
    join = join_same;
    arm = λ x. refl;
    chain = λ x h i. chain (h.0 i) x.first x.joins;
    choice = λ x. refl;
    query = λ x. refl;
    signed = λ x. refl;
  }

  pub expr_alike : (e : Expr) → Agrees SeenAlike (in_expr e) → means R e ≡ means S e
  unfolding means
  expr_alike = expr_framed meaning (steps R) (steps S) SeenAlike alike

  pub cond_alike : (e : Cond) → Agrees SeenAlike (in_cond e) → says R e ≡ says S e
  unfolding says
  cond_alike = cond_framed meaning (steps R) (steps S) SeenAlike alike

  pub query_alike : (q : Query) → Agrees SeenAlike (in_query q) → answers R q ≡ answers S q
  unfolding answers
  query_alike = query_framed meaning (steps R) (steps S) SeenAlike alike
