-- The DATE literals of expressions that the grammar spells are days.
use Rattle.std.proofs.Common.{false, List, [], ◌∷◌}
use Rattle.std.specs.List.{AllByRecursion}
use Rattle.lb_tree.specs.declared.query.Atom.TheVariants as atoms
use Rattle.lb_tree.specs.declared.query.Expr.{Expr}
use Rattle.lb_tree.specs.declared.query.Signed.{Signed}
use Rattle.lb_tok.specs.declared.call.Call.{Call}
use Rattle.lb_tok.specs.declared.call.Call.TheVariants as calls
use Rattle.lb_tok.specs.Form.{Below, Lang}
use Rattle.lb_tok.specs.Grammar.{sums, concats, products, InExpr, InCond, InQuery, IsArm, IsChoice, IsElse, IsArms, IsChoices, IsCase, IsCounted, IsParted, IsFirstOf, IsArguments, IsCall, IsNumber, IsToday, IsLiteral, IsFact, IsTerm, IsConcat, IsSigned, IsExpr}
use Rattle.lb_spoken.proofs.Gives.{Gives, IfGiven, anything, means, after, made, either, seq, past, bracket, many, listed, optional}
use Rattle.lb_spoken.proofs.Dates.{literal_is_day}
use Rattle.lb_spoken.proofs.Trees.{CondHas, Has, ArmHas, ChoiceHas, QueryHas, SignedHas, atom_days, sum_days, concat_days, product_days, case_days, match_days, aggregate_days, substr_days, apply_days, coalesce_days, arm_days, choice_days, signed_days}

-- what is known of that which brackets hold
pub record Inside (s : Below) : Type 0 where
  pub expr : Gives InExpr s Has
  pub condition : Gives InCond s CondHas
  pub query : Gives InQuery s QueryHas

-- of a node that is made of its parts, a step for the parts
pub step : {A : Type 0} {P : Lang A} {s : Below} {D : A → Type 0} {C : A → Type 0} → Gives P s D → ((x : A) → D x → C x) → Gives P s C
step p f = record { of = λ ts x g. f x (p.of ts x g) }

module _ {s : Below} (u : Inside s) where
  arm : Gives IsArm s ArmHas
  arm = after (seq u.condition (λ c p. after (made (step u.expr (λ e q. arm_days c e p q)))))

  choice : Gives IsChoice s ChoiceHas
  choice = after (seq u.expr (λ v p. after (made (step u.expr (λ e q. choice_days v e p q)))))

  otherwise : Gives IsElse s (IfGiven Has)
  otherwise = optional (after u.expr)

  arms : Gives IsArms s Has
  arms = seq arm (λ a p. seq (many arm) (λ as' ps. made (step otherwise (λ x r. case_days (a ∷ as') x (p, ps) r))))

  choices : Gives IsChoices s Has
  choices = seq u.expr (λ v h. seq choice (λ c p. seq (many choice) (λ cs ps. made (step otherwise (λ x r. match_days v (c ∷ cs) x h (p, ps) r)))))

  pub case_has : Gives IsCase s Has
  case_has = bracket (either arms choices)

  counted : Gives IsCounted s Has
  counted = either (means (atom_days atoms.CountRows tt)) (either (after (made (step u.expr (λ x p. aggregate_days _ x p)))) (made (step u.expr (λ x p. aggregate_days _ x p))))

  parted : Gives IsParted s Has
  parted = seq u.expr (λ t p. after (seq u.expr (λ i r. made (step (optional (after u.expr)) (λ n h. substr_days t i n p r h)))))

  first_of : Gives IsFirstOf s Has
  first_of = seq u.expr (λ x p. after (made (step (listed u.expr) (λ xs ps. coalesce_days (x ∷ xs) (p, ps)))))

  arguments : (f : Call) → Gives (IsArguments f) s Has
  arguments calls.Count = bracket counted
  arguments (calls.Total a) = bracket (made (step u.expr (λ x p. aggregate_days a x p)))
  arguments calls.Substr = bracket parted
  arguments (calls.Apply f) = bracket (made (step u.expr (λ x p. apply_days f x p)))
  arguments calls.Coalesce = bracket first_of
  arguments calls.VerifyRole = bracket (made (anything (λ x. atom_days (atoms.VerifyRole x) tt)))
  arguments calls.VerifyGroup = bracket (made (anything (λ x. atom_days (atoms.VerifyGroup x) tt)))
  arguments calls.SecLabel = bracket (made (anything (λ p. atom_days (atoms.SecLabel p.0 p.1) tt)))
  arguments calls.SecLabelByName = bracket (made (anything (λ p. atom_days (atoms.SecLabelByName p.0 p.1) tt)))
  arguments calls.SecLabelToChar = bracket (past (λ p. after (made (anything (λ c. atom_days (atoms.SecLabelToChar p c) tt)))))
  arguments calls.Date = either (bracket (made (step literal_is_day (λ d h. atom_days (atoms.Date d) (h, tt))))) (made (step literal_is_day (λ d h. atom_days (atoms.Date d) (h, tt))))

  call : Gives IsCall s Has
  call = past (λ f. arguments f)

  number : Gives IsNumber s Has
  number = either (after (made (anything (λ n. atom_days (atoms.Int n) tt)))) (made (anything (λ n. atom_days (atoms.Int n) tt)))

  today : Gives IsToday s Has
  today = either (after (means (atom_days atoms.CurrentDate tt))) (means (atom_days atoms.CurrentDate tt))

  literal : Gives IsLiteral s Has
  literal =
      either (means (atom_days atoms.Null tt))
      (either number
      (either (made (anything (λ t. atom_days (atoms.Text t) tt)))
      (either today
      (either (means (atom_days atoms.SessionUser tt))
      case_has))))

  fact : Gives IsFact s Has
  fact = either (bracket u.expr) (either (either (made (anything (λ c. atom_days (atoms.Column c) tt))) call) literal)

  products_days : (x : Expr) (xs : List Expr) → Has x → AllByRecursion Has xs → Has (products x xs)
  products_days x [] p ps = p
  products_days x (y ∷ ys) p ps = product_days (x ∷ y ∷ ys) (p, ps)

  concats_days : (x : Expr) (xs : List Expr) → Has x → AllByRecursion Has xs → Has (concats x xs)
  concats_days x [] p ps = p
  concats_days x (y ∷ ys) p ps = concat_days (x ∷ y ∷ ys) (p, ps)

  sums_days : (x : Expr) (xs : List Signed) → Has x → AllByRecursion SignedHas xs → Has (sums x xs)
  sums_days x [] p ps = p
  sums_days x (y ∷ ys) p ps = sum_days (record { minus = false; part = x } ∷ y ∷ ys) (signed_days false x p, ps)

  term : Gives IsTerm s Has
  term = seq fact (λ x p. made (step (many (after fact)) (λ xs ps. products_days x xs p ps)))

  concat : Gives IsConcat s Has
  concat = seq term (λ x p. made (step (many (after term)) (λ xs ps. concats_days x xs p ps)))

  signed : Gives IsSigned s SignedHas
  signed = past (λ m. made (step concat (λ x p. signed_days m x p)))

  pub expr_has : Gives IsExpr s Has
  expr_has = seq concat (λ x p. made (step (many signed) (λ xs ps. sums_days x xs p ps)))
