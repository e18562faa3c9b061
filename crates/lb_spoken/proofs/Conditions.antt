-- The DATE literals of conditions that the grammar spells are days.
use Rattle.std.proofs.Common.{List, [], ◌∷◌}
use Rattle.std.specs.List.{AllByRecursion}
use Rattle.lb_tree.specs.declared.query.Expr.{Expr}
use Rattle.lb_tree.specs.declared.query.Cond.{Cond}
use Rattle.lb_tok.specs.Form.{Below, Lang}
use Rattle.lb_tok.specs.Grammar.{ands, ors, Negated, IsNullTest, IsSet, IsRange, IsPred, IsPrim, IsNeg, IsConj, IsCond}
use Rattle.lb_spoken.proofs.Gives.{Gives, means, after, made, either, seq, past, bracket, many, listed}
use Rattle.lb_spoken.proofs.Trees.{CondHas, Has, or_days, and_days, not_days, exists_days, compare_days, comparequery_days, isnull_days, inquery_days, inlist_days, between_days}
use Rattle.lb_spoken.proofs.Terms.{Inside, step, expr_has}

negated : {s : Below} {P : Lang Cond} → Gives P s CondHas → Gives (Negated P) s CondHas
negated p = either (after (made (step p (λ c h. not_days c h)))) p

ands_days : (x : Cond) (xs : List Cond) → CondHas x → AllByRecursion CondHas xs → CondHas (ands x xs)
ands_days x [] p ps = p
ands_days x (y ∷ ys) p ps = and_days (x ∷ y ∷ ys) (p, ps)

ors_days : (x : Cond) (xs : List Cond) → CondHas x → AllByRecursion CondHas xs → CondHas (ors x xs)
ors_days x [] p ps = p
ors_days x (y ∷ ys) p ps = or_days (x ∷ y ∷ ys) (p, ps)

module _ {s : Below} (u : Inside s) where
  null_test : (e : Expr) → Has e → Gives (IsNullTest e) s CondHas
  null_test e p = negated (means (isnull_days e p))

  set : (e : Expr) → Has e → Gives (IsSet e) s CondHas
  set e p = either (made (step u.query (λ q h. inquery_days e q p h))) (made (step (listed u.expr) (λ xs h. inlist_days e xs p h)))

  range : (e : Expr) → Has e → Gives (IsRange e) s CondHas
  range e p = either (after (bracket (set e p))) (after (seq (expr_has u) (λ low l. after (made (step (expr_has u) (λ high h. between_days e low high p l h))))))

  pred : (e : Expr) → Has e → Gives (IsPred e) s CondHas
  pred e p =
      either (past (λ by. either (made (step (bracket u.query) (λ q h. comparequery_days by e q p h))) (made (step (expr_has u) (λ y h. compare_days by e y p h)))))
      (either (after (null_test e p)) (negated (range e p)))

  prim : Gives IsPrim s CondHas
  prim = either (bracket u.condition) (either (after (made (step (bracket u.query) (λ q h. exists_days q h)))) (seq (expr_has u) (λ e p. pred e p)))

  neg : Gives IsNeg s CondHas
  neg = negated prim

  conj : Gives IsConj s CondHas
  conj = seq neg (λ x p. made (step (many (after neg)) (λ xs ps. ands_days x xs p ps)))

  pub cond_has : Gives IsCond s CondHas
  cond_has = seq conj (λ x p. made (step (many (after conj)) (λ xs ps. ors_days x xs p ps)))
