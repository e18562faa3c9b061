-- The examples of specs/Denied, computed: P1 for each row by itself, and then the writes.
use Rattle.std.proofs.Common.{◌≡◌, refl, ◌∙◌, [], ◌∷◌, List, Bool, true, false, Ok}
use Rattle.std.specs.Prelude.{codes}
use Rattle.lb_base.specs.Arithmetic.{in_64_bits, sum_of, product_of}
use Rattle.lb_base.specs.Evaluated.{Evaluated, ◌>>=◌}
use Rattle.lb_base.specs.Truths.{is_true}
use Rattle.lb_base.specs.declared.value.Value.{Value}
use Rattle.lb_mean.specs.Conditions.{cond_step}
use Rattle.lb_mean.specs.Meaning.{means, says}
use Rattle.lb_mean.specs.Meant.{Says}
use Rattle.lb_mean.specs.Setting.{Setting}
use Rattle.lb_mean.specs.Visible.{alone, is_granted_by}
use Rattle.lb_tree.specs.declared.query.Comparison.TheVariants as comparisons
use Rattle.lb_tree.specs.declared.query.Cond.TheOpen as layers
use Rattle.lb_worked.specs.Denied.{RowAllowed, RowDenied, RowMayNotLeave, RowUnseenStays}
use Rattle.lb_worked.specs.Orders.{r}
use Rattle.lb_worked.specs.Permitted.{p1}
use Rattle.lb_worked.specs.Tables.{guarded_by, number, greatest}
use Rattle.lb_worked.specs.Trees.{of, int}
use Rattle.lb_worked.proofs.Computing.{computing, m_cond}

-- whether P1 is true for a row of R
abbrev granted : Setting → List Value → Evaluated Bool
granted S row = is_granted_by S (guarded_by (p1 ∷ []) r) row p1

-- the condition opened by hand
abbrev of_row : List Value → Says → Evaluated Bool
of_row row c = c.test (alone (codes "R") (guarded_by (p1 ∷ []) r) row) >>= λ x. Ok (is_true x)

p1_opened : (S : Setting) → says S p1.condition ≡ cond_step (layers.Cond-F.Compare comparisons.Equal (means S (of (codes "R") (codes "A"))) (means S (int 2)))
unfolding says means
p1_opened S = m_cond S (layers.Cond-F.Compare comparisons.Equal (of (codes "R") (codes "A")) (int 2))

one_one : (S : Setting) → granted S (number 1 ∷ number 1 ∷ []) ≡ Ok false
unfolding means
one_one S = (λ i. of_row (number 1 ∷ number 1 ∷ []) (p1_opened S i)) ∙ simp computing refl

two_greatest : (S : Setting) → granted S (number 2 ∷ number greatest ∷ []) ≡ Ok true
unfolding means
two_greatest S = (λ i. of_row (number 2 ∷ number greatest ∷ []) (p1_opened S i)) ∙ simp computing refl

two_seven : (S : Setting) → granted S (number 2 ∷ number 7 ∷ []) ≡ Ok true
unfolding means
two_seven S = (λ i. of_row (number 2 ∷ number 7 ∷ []) (p1_opened S i)) ∙ simp computing refl

three_seven : (S : Setting) → granted S (number 3 ∷ number 7 ∷ []) ≡ Ok false
unfolding means
three_seven S = (λ i. of_row (number 3 ∷ number 7 ∷ []) (p1_opened S i)) ∙ simp computing refl

three_greatest : (S : Setting) → granted S (number 3 ∷ number greatest ∷ []) ≡ Ok false
unfolding means
three_greatest S = (λ i. of_row (number 3 ∷ number greatest ∷ []) (p1_opened S i)) ∙ simp computing refl

two_three : (S : Setting) → granted S (number 2 ∷ number 3 ∷ []) ≡ Ok true
unfolding means
two_three S = (λ i. of_row (number 2 ∷ number 3 ∷ []) (p1_opened S i)) ∙ simp computing refl

ruleset rows_granted = (one_one, two_greatest, two_seven, three_seven, three_greatest, two_three)

pub row_allowed : RowAllowed
unfolding in_64_bits sum_of product_of
row_allowed = simp computing (simp rows_granted refl)

pub row_denied : RowDenied
unfolding in_64_bits sum_of product_of
row_denied = simp computing (simp rows_granted refl)

pub row_may_not_leave : RowMayNotLeave
unfolding in_64_bits sum_of product_of
row_may_not_leave = simp computing (simp rows_granted refl)

pub row_unseen_stays : RowUnseenStays
unfolding in_64_bits sum_of product_of
row_unseen_stays = simp computing (simp rows_granted refl)
