-- What sameness gives at each form of expression and condition, and for lists of parts.
use Rattle.std.proofs.Common.{ℕ, ◌≡◌, ◌≢◌, ◌<◌, refl, ap, ◌∙◌, List, [], ◌∷◌, Bool, true, false, ◌&&◌, map, drop, suc, length, get_or, Option}
use Rattle.std.proofs.Math.Seq.{drop-cons}
use Rattle.std.specs.Option.{option_map}
use Rattle.std.specs.Str.{bytes_eq}
use Rattle.lb_tree.specs.declared.query.Aggregate.{Aggregate}
use Rattle.lb_tree.specs.declared.query.Atom.{Atom}
use Rattle.lb_tree.specs.declared.query.Comparison.{Comparison}
use Rattle.lb_tree.specs.declared.query.Function.{Function}
use Rattle.lb_tree.specs.declared.query.Expr.{Expr}
use Rattle.lb_tree.specs.declared.query.Cond.{Cond}
use Rattle.lb_tree.specs.declared.query.Arm.{Arm}
use Rattle.lb_tree.specs.declared.query.Choice.{Choice}
use Rattle.lb_tree.specs.declared.query.Query.{Query}
use Rattle.lb_tree.specs.declared.query.Signed.{Signed}
use Rattle.lb_tree.specs.declared.query.Expr.TheVariants as exprs
use Rattle.lb_tree.specs.declared.query.Cond.TheVariants as conds
use Rattle.lb_tree.specs.declared.query.Cond.TheOpen as layers
use Rattle.lb_tree.specs.declared.query.Cond.TheViews.{out-Cond, out-Expr}
use Rattle.lb_tree.specs.Folds.{cond_of, expr_of, arm_of, choice_of, signed_of}
use Rattle.lb_tree.proofs.Opens as opens
use Rattle.lb_names.specs.declared.place.Seen.{Seen}
use Rattle.lb_names.specs.Scopes.{Catalogue}
use Rattle.lb_names.specs.Same.{Like, liking, like_steps, expr_like, cond_like, all_like, same, same_flag, same_names}

-- the heads of two lists, and what is left of them
pub likes_at : {X : Type 0} (L : X → Like X) (ones others : List X) (i : ℕ) (x y : X) → i < length ones → i < length others → get_or ones i x ≡ x → get_or others i y ≡ y
    → all_like (map L (drop i ones)) (drop i others) ≡ ((L x).to y && all_like (map L (drop (suc i) ones)) (drop (suc i) others))
likes_at L ones others i x y h k p q = λ j. all_like (map L ((drop-cons ones i x h ∙ ap (λ z. z ∷ drop (suc i) ones) p) j)) ((drop-cons others i y k ∙ ap (λ z. z ∷ drop (suc i) others) q) j)

-- lists of two lengths are not the same
pub likes_length : {X : Type 0} (L : X → Like X) (ones others : List X) → length ones ≢ length others → all_like (map L ones) others ≡ false
likes_length L [] [] h = absurd (h refl)
likes_length L [] (y ∷ others) h = refl
likes_length L (x ∷ ones) [] h = refl
likes_length L (x ∷ ones) (y ∷ others) h = ap (λ b. (L x).to y && b) (likes_length L ones others (λ e. h (ap suc e))) ∙ never ((L x).to y) where
  never : (b : Bool) → (b && false) ≡ false
  never true = refl
  never false = refl

pub names_at : (ones others : List (List ℕ)) (i : ℕ) (x y : List ℕ) → i < length ones → i < length others → get_or ones i x ≡ x → get_or others i y ≡ y
    → same_names (drop i ones) (drop i others) ≡ (bytes_eq x y && same_names (drop (suc i) ones) (drop (suc i) others))
names_at ones others i x y h k p q = λ j. same_names ((drop-cons ones i x h ∙ ap (λ z. z ∷ drop (suc i) ones) p) j) ((drop-cons others i y k ∙ ap (λ z. z ∷ drop (suc i) others) q) j)

pub names_length : (ones others : List (List ℕ)) → length ones ≢ length others → same_names ones others ≡ false
names_length [] [] h = absurd (h refl)
names_length [] (y ∷ others) h = refl
names_length (x ∷ ones) [] h = refl
names_length (x ∷ ones) (y ∷ others) h = ap (λ b. bytes_eq x y && b) (names_length ones others (λ e. h (ap suc e))) ∙ never (bytes_eq x y) where
  never : (b : Bool) → (b && false) ≡ false
  never true = refl
  never false = refl

module _ (C : Catalogue) (seen : List Seen) where
  pub same_is : (e f : Expr) → same C seen e f ≡ (expr_of liking (like_steps C seen) e).to f
  unfolding same
  same_is e f = refl

  pub like_atom : (a : Atom) (x : Expr) → (expr_of liking (like_steps C seen) (exprs.Atom a)).to x ≡ expr_like C seen (layers.Expr-F.Atom a) (out-Expr x)
  like_atom a x = ap (λ (m : Like Expr). m.to x) (opens.expr_atom liking (like_steps C seen) a)

  pub like_sum : (a : List Signed) (x : Expr) → (expr_of liking (like_steps C seen) (exprs.Sum a)).to x ≡ expr_like C seen (layers.Expr-F.Sum (map (signed_of liking (like_steps C seen)) a)) (out-Expr x)
  like_sum a x = ap (λ (m : Like Expr). m.to x) (opens.expr_sum liking (like_steps C seen) a)

  pub like_concat : (a : List Expr) (x : Expr) → (expr_of liking (like_steps C seen) (exprs.Concat a)).to x ≡ expr_like C seen (layers.Expr-F.Concat (map (expr_of liking (like_steps C seen)) a)) (out-Expr x)
  like_concat a x = ap (λ (m : Like Expr). m.to x) (opens.expr_concat liking (like_steps C seen) a)

  pub like_product : (a : List Expr) (x : Expr) → (expr_of liking (like_steps C seen) (exprs.Product a)).to x ≡ expr_like C seen (layers.Expr-F.Product (map (expr_of liking (like_steps C seen)) a)) (out-Expr x)
  like_product a x = ap (λ (m : Like Expr). m.to x) (opens.expr_product liking (like_steps C seen) a)

  pub like_case : (a : List Arm) (b : Option Expr) (x : Expr) → (expr_of liking (like_steps C seen) (exprs.Case a b)).to x ≡ expr_like C seen (layers.Expr-F.Case (map (arm_of liking (like_steps C seen)) a) (option_map (expr_of liking (like_steps C seen)) b)) (out-Expr x)
  like_case a b x = ap (λ (m : Like Expr). m.to x) (opens.expr_case liking (like_steps C seen) a b)

  pub like_match : (a : Expr) (b : List Choice) (c : Option Expr) (x : Expr) → (expr_of liking (like_steps C seen) (exprs.Match a b c)).to x ≡ expr_like C seen (layers.Expr-F.Match (expr_of liking (like_steps C seen) a) (map (choice_of liking (like_steps C seen)) b) (option_map (expr_of liking (like_steps C seen)) c)) (out-Expr x)
  like_match a b c x = ap (λ (m : Like Expr). m.to x) (opens.expr_match liking (like_steps C seen) a b c)

  pub like_aggregate : (a : Aggregate) (b : Expr) (x : Expr) → (expr_of liking (like_steps C seen) (exprs.Aggregate a b)).to x ≡ expr_like C seen (layers.Expr-F.Aggregate a (expr_of liking (like_steps C seen) b)) (out-Expr x)
  like_aggregate a b x = ap (λ (m : Like Expr). m.to x) (opens.expr_aggregate liking (like_steps C seen) a b)

  pub like_substr : (a : Expr) (b : Expr) (c : Option Expr) (x : Expr) → (expr_of liking (like_steps C seen) (exprs.Substr a b c)).to x ≡ expr_like C seen (layers.Expr-F.Substr (expr_of liking (like_steps C seen) a) (expr_of liking (like_steps C seen) b) (option_map (expr_of liking (like_steps C seen)) c)) (out-Expr x)
  like_substr a b c x = ap (λ (m : Like Expr). m.to x) (opens.expr_substr liking (like_steps C seen) a b c)

  pub like_apply : (a : Function) (b : Expr) (x : Expr) → (expr_of liking (like_steps C seen) (exprs.Apply a b)).to x ≡ expr_like C seen (layers.Expr-F.Apply a (expr_of liking (like_steps C seen) b)) (out-Expr x)
  like_apply a b x = ap (λ (m : Like Expr). m.to x) (opens.expr_apply liking (like_steps C seen) a b)

  pub like_coalesce : (a : List Expr) (x : Expr) → (expr_of liking (like_steps C seen) (exprs.Coalesce a)).to x ≡ expr_like C seen (layers.Expr-F.Coalesce (map (expr_of liking (like_steps C seen)) a)) (out-Expr x)
  like_coalesce a x = ap (λ (m : Like Expr). m.to x) (opens.expr_coalesce liking (like_steps C seen) a)

  pub like_or : (a : List Cond) (x : Cond) → (cond_of liking (like_steps C seen) (conds.Or a)).to x ≡ cond_like (layers.Cond-F.Or (map (cond_of liking (like_steps C seen)) a)) (out-Cond x)
  like_or a x = ap (λ (m : Like Cond). m.to x) (opens.cond_or liking (like_steps C seen) a)

  pub like_and : (a : List Cond) (x : Cond) → (cond_of liking (like_steps C seen) (conds.And a)).to x ≡ cond_like (layers.Cond-F.And (map (cond_of liking (like_steps C seen)) a)) (out-Cond x)
  like_and a x = ap (λ (m : Like Cond). m.to x) (opens.cond_and liking (like_steps C seen) a)

  pub like_not : (a : Cond) (x : Cond) → (cond_of liking (like_steps C seen) (conds.Not a)).to x ≡ cond_like (layers.Cond-F.Not (cond_of liking (like_steps C seen) a)) (out-Cond x)
  like_not a x = ap (λ (m : Like Cond). m.to x) (opens.cond_not liking (like_steps C seen) a)

  pub like_compare : (a : Comparison) (b : Expr) (c : Expr) (x : Cond) → (cond_of liking (like_steps C seen) (conds.Compare a b c)).to x ≡ cond_like (layers.Cond-F.Compare a (expr_of liking (like_steps C seen) b) (expr_of liking (like_steps C seen) c)) (out-Cond x)
  like_compare a b c x = ap (λ (m : Like Cond). m.to x) (opens.cond_compare liking (like_steps C seen) a b c)

  pub like_isnull : (a : Expr) (x : Cond) → (cond_of liking (like_steps C seen) (conds.IsNull a)).to x ≡ cond_like (layers.Cond-F.IsNull (expr_of liking (like_steps C seen) a)) (out-Cond x)
  like_isnull a x = ap (λ (m : Like Cond). m.to x) (opens.cond_isnull liking (like_steps C seen) a)

  pub like_inlist : (a : Expr) (b : List Expr) (x : Cond) → (cond_of liking (like_steps C seen) (conds.InList a b)).to x ≡ cond_like (layers.Cond-F.InList (expr_of liking (like_steps C seen) a) (map (expr_of liking (like_steps C seen)) b)) (out-Cond x)
  like_inlist a b x = ap (λ (m : Like Cond). m.to x) (opens.cond_inlist liking (like_steps C seen) a b)

  pub like_between : (a : Expr) (b : Expr) (c : Expr) (x : Cond) → (cond_of liking (like_steps C seen) (conds.Between a b c)).to x ≡ cond_like (layers.Cond-F.Between (expr_of liking (like_steps C seen) a) (expr_of liking (like_steps C seen) b) (expr_of liking (like_steps C seen) c)) (out-Cond x)
  like_between a b c x = ap (λ (m : Like Cond). m.to x) (opens.cond_between liking (like_steps C seen) a b c)

  pub like_arm : (a x : Arm) → (arm_of liking (like_steps C seen) a).to x ≡ ((cond_of liking (like_steps C seen) a.when).to x.when && (expr_of liking (like_steps C seen) a.result).to x.result)
  like_arm a x = ap (λ (m : Like Arm). m.to x) (opens.arm_out liking (like_steps C seen) a)

  pub like_choice : (a x : Choice) → (choice_of liking (like_steps C seen) a).to x ≡ ((expr_of liking (like_steps C seen) a.when).to x.when && (expr_of liking (like_steps C seen) a.result).to x.result)
  like_choice a x = ap (λ (m : Like Choice). m.to x) (opens.choice_out liking (like_steps C seen) a)

  pub like_signed : (a x : Signed) → (signed_of liking (like_steps C seen) a).to x ≡ (same_flag a.minus x.minus && (expr_of liking (like_steps C seen) a.part).to x.part)
  like_signed a x = ap (λ (m : Like Signed). m.to x) (opens.signed_out liking (like_steps C seen) a)

  pub like_exists : (a : Query) (x : Cond) → (cond_of liking (like_steps C seen) (conds.Exists a)).to x ≡ cond_like (layers.Cond-F.Exists tt) (out-Cond x)
  like_exists a x = ap (λ (m : Like Cond). m.to x) (opens.cond_exists liking (like_steps C seen) a)

  pub like_comparequery : (a : Comparison) (b : Expr) (c : Query) (x : Cond) → (cond_of liking (like_steps C seen) (conds.CompareQuery a b c)).to x ≡ cond_like (layers.Cond-F.CompareQuery a (expr_of liking (like_steps C seen) b) tt) (out-Cond x)
  like_comparequery a b c x = ap (λ (m : Like Cond). m.to x) (opens.cond_comparequery liking (like_steps C seen) a b c)

  pub like_inquery : (a : Expr) (b : Query) (x : Cond) → (cond_of liking (like_steps C seen) (conds.InQuery a b)).to x ≡ cond_like (layers.Cond-F.InQuery (expr_of liking (like_steps C seen) a) tt) (out-Cond x)
  like_inquery a b x = ap (λ (m : Like Cond). m.to x) (opens.cond_inquery liking (like_steps C seen) a b)
