-- The examples of specs/Permitted, computed: each test of a permission by itself, and then the rows.
use Rattle.std.proofs.Common.{◌≡◌, refl, ◌∙◌, [], ◌∷◌, List, Bool, true, false, pos, Ok, Err}
use Rattle.std.specs.Prelude.{codes, if◌then◌else◌}
use Rattle.lb_base.specs.Arithmetic.{in_64_bits, sum_of, product_of}
use Rattle.lb_base.specs.Evaluated.{Evaluated, ◌>>=◌}
use Rattle.lb_base.specs.declared.fault.Fault.TheVariants.{Overflow}
use Rattle.lb_base.specs.declared.value.Value.{Value}
use Rattle.lb_cat.specs.declared.catalog.PermissionRec.{PermissionRec}
use Rattle.lb_cat.specs.Credentials.{cred}
use Rattle.lb_names.specs.Mentions.{in_query, in_expr, in_cond}
use Rattle.lb_mean.specs.Meaning.{answers, means, says}
use Rattle.lb_mean.specs.Setting.{Setting}
use Rattle.lb_mean.specs.Uses.{uses_in, uses_in_cond, uses_in_query}
use Rattle.lb_base.specs.Truths.{is_true}
use Rattle.lb_tree.specs.declared.query.Comparison.TheVariants as comparisons
use Rattle.lb_tree.specs.declared.query.Cond.TheOpen as layers
use Rattle.lb_mean.specs.Conditions.{cond_step}
use Rattle.lb_mean.specs.Meant.{Says}
use Rattle.lb_mean.specs.Visible.{unguarded, alone, is_granted_by}
use Rattle.lb_worked.specs.Trees.{of, int, plus}
use Rattle.lb_worked.specs.Orders.{r, one, two}
use Rattle.lb_worked.specs.Tables.{guarded_by}
use Rattle.lb_worked.specs.Permitted.{cat, rows, p1, p2, TrueBeforeFault, FaultBeforeTrue, DisabledSavesNone, FalseIsHidden, NoPermission, NothingToCount, SeenBeforeJoined}
use Rattle.lb_worked.proofs.Computing.{computing, m_cond}

abbrev W : List PermissionRec → Setting
W ps = unguarded (cat ps) (cred (cat ps) (codes "ANN") []) rows (pos 0)

abbrev Row : Type 0
Row = List Value

-- in any setting P1 is true for the second row alone, and P2 overflows there
module _ (S : Setting) (ps : List PermissionRec) where
  abbrev granted : Row → PermissionRec → Evaluated Bool
  granted row p = is_granted_by S (guarded_by ps r) row p

  -- the conditions opened by hand
  abbrev of_row : Row → Says → Evaluated Bool
  of_row row c = c.test (alone (codes "R") (guarded_by ps r) row) >>= λ x. Ok (is_true x)

  p1_opened : says S p1.condition ≡ cond_step (layers.Cond-F.Compare comparisons.Equal (means S (of (codes "R") (codes "A"))) (means S (int 2)))
  unfolding says means
  p1_opened = m_cond S (layers.Cond-F.Compare comparisons.Equal (of (codes "R") (codes "A")) (int 2))

  p2_opened : says S p2.condition ≡ cond_step (layers.Cond-F.Compare comparisons.Greater (means S (plus (of (codes "R") (codes "X")) (int 1))) (means S (int 0)))
  unfolding says means
  p2_opened = m_cond S (layers.Cond-F.Compare comparisons.Greater (plus (of (codes "R") (codes "X")) (int 1)) (int 0))

  pub first_one : granted one p1 ≡ Ok false
  unfolding means
  first_one = (λ i. of_row one (p1_opened i)) ∙ simp computing refl

  pub first_two : granted two p1 ≡ Ok true
  unfolding means
  first_two = (λ i. of_row two (p1_opened i)) ∙ simp computing refl

  pub second_one : granted one p2 ≡ Ok true
  unfolding means in_64_bits sum_of
  second_one = (λ i. of_row one (p2_opened i)) ∙ simp computing refl

  pub second_two : granted two p2 ≡ Err Overflow
  unfolding means in_64_bits sum_of
  second_two = (λ i. of_row two (p2_opened i)) ∙ simp computing refl

abbrev either : Evaluated Bool → Evaluated Bool → Evaluated Bool
either a b = a >>= λ x. if x then Ok true else (b >>= λ y. if y then Ok true else Ok false)

abbrev only : Evaluated Bool → Evaluated Bool
only a = a >>= λ x. if x then Ok true else Ok false

-- the rows that pass
abbrev both : Evaluated Bool → Evaluated Bool → Evaluated (List Row)
both a b = a >>= λ x. (b >>= λ y. Ok (if y then two ∷ [] else [])) >>= λ rest. Ok (if x then one ∷ rest else rest)

pub true_before_fault : TrueBeforeFault
true_before_fault = λ i. both (either (first_one (W (p1 ∷ p2 ∷ [])) (p1 ∷ p2 ∷ []) i) (second_one (W (p1 ∷ p2 ∷ [])) (p1 ∷ p2 ∷ []) i)) (either (first_two (W (p1 ∷ p2 ∷ [])) (p1 ∷ p2 ∷ []) i) (granted (W (p1 ∷ p2 ∷ [])) (p1 ∷ p2 ∷ []) two p2))

pub fault_before_true : FaultBeforeTrue
fault_before_true = λ i. both (either (second_one (W (p2 ∷ p1 ∷ [])) (p2 ∷ p1 ∷ []) i) (granted (W (p2 ∷ p1 ∷ [])) (p2 ∷ p1 ∷ []) one p1)) (either (second_two (W (p2 ∷ p1 ∷ [])) (p2 ∷ p1 ∷ []) i) (granted (W (p2 ∷ p1 ∷ [])) (p2 ∷ p1 ∷ []) two p1))

pub disabled_saves_none : DisabledSavesNone
disabled_saves_none = λ i. both (only (second_one (W (record p1 { enabled = false } ∷ p2 ∷ [])) (record p1 { enabled = false } ∷ p2 ∷ []) i)) (only (second_two (W (record p1 { enabled = false } ∷ p2 ∷ [])) (record p1 { enabled = false } ∷ p2 ∷ []) i))

pub false_is_hidden : FalseIsHidden
false_is_hidden = λ i. both (only (first_one (W (p1 ∷ [])) (p1 ∷ []) i)) (only (first_two (W (p1 ∷ [])) (p1 ∷ []) i))

pub no_permission : NoPermission
unfolding answers means says uses_in uses_in_cond uses_in_query in_query in_expr in_cond in_64_bits sum_of product_of
no_permission = simp computing refl

pub nothing_to_count : NothingToCount
unfolding answers means says uses_in uses_in_cond uses_in_query in_query in_expr in_cond in_64_bits sum_of product_of
nothing_to_count = simp computing refl

pub seen_before_joined : SeenBeforeJoined
unfolding answers means says uses_in uses_in_cond uses_in_query in_query in_expr in_cond in_64_bits sum_of product_of
seen_before_joined = simp computing refl
