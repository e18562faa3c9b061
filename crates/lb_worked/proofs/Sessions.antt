-- The examples of specs/Sessions, computed: each permission for each session and row, and then the queries.
use Rattle.std.proofs.Common.{ℕ, ◌≡◌, refl, ◌∙◌, [], ◌∷◌, List, Bool, true, false, Ok, pos}
use Rattle.std.specs.Prelude.{codes}
use Rattle.lb_base.specs.Arithmetic.{in_64_bits, sum_of, product_of}
use Rattle.lb_base.specs.Evaluated.{Evaluated, ◌>>=◌}
use Rattle.lb_base.specs.Truths.{is_true}
use Rattle.lb_base.specs.declared.value.Value.{Value}
use Rattle.lb_cat.specs.declared.catalog.PermissionRec.{PermissionRec}
use Rattle.lb_cat.specs.Credentials.{cred}
use Rattle.lb_mean.specs.Conditions.{cond_step}
use Rattle.lb_mean.specs.Meaning.{means, says}
use Rattle.lb_mean.specs.Meant.{Says}
use Rattle.lb_mean.specs.Setting.{Setting}
use Rattle.lb_mean.specs.Visible.{alone, unguarded, is_granted_by}
use Rattle.lb_tree.specs.declared.query.Atom.TheVariants as atoms
use Rattle.lb_tree.specs.declared.query.Comparison.TheVariants as comparisons
use Rattle.lb_tree.specs.declared.query.Cond.TheOpen as layers
use Rattle.lb_worked.specs.Sessions.{doc, anns, bobs, rows, role, group, po, pr, pg, cat, SeesOwn, OwnerIsNotFree, OneRole, NoRole, RoleIsNoGroup}
use Rattle.lb_worked.specs.Tables.{guarded_by}
use Rattle.lb_worked.specs.Trees.{atom, of, int}
use Rattle.lb_worked.proofs.Computing.{computing, m_cond}

abbrev W : PermissionRec → List ℕ → Setting
W p user = unguarded (cat p) (cred (cat p) user []) rows (pos 0)

-- whether the permission is true for a row of DOC
abbrev granted : PermissionRec → List ℕ → List Value → Evaluated Bool
granted p user row = is_granted_by (W p user) (guarded_by (p ∷ []) doc) row p

-- the conditions opened by hand
abbrev of_row : PermissionRec → List Value → Says → Evaluated Bool
of_row p row c = c.test (alone (codes "DOC") (guarded_by (p ∷ []) doc) row) >>= λ x. Ok (is_true x)

po_opened : (S : Setting) → says S po.condition ≡ cond_step (layers.Cond-F.Compare comparisons.Equal (means S (of (codes "DOC") (codes "OWNER"))) (means S (atom atoms.SessionUser)))
unfolding says means
po_opened S = m_cond S (layers.Cond-F.Compare comparisons.Equal (of (codes "DOC") (codes "OWNER")) (atom atoms.SessionUser))

pr_opened : (S : Setting) → says S pr.condition ≡ cond_step (layers.Cond-F.Compare comparisons.Equal (means S role) (means S (int 1)))
unfolding says means
pr_opened S = m_cond S (layers.Cond-F.Compare comparisons.Equal role (int 1))

pg_opened : (S : Setting) → says S pg.condition ≡ cond_step (layers.Cond-F.Compare comparisons.Equal (means S group) (means S (int 1)))
unfolding says means
pg_opened S = m_cond S (layers.Cond-F.Compare comparisons.Equal group (int 1))

po_ann_anns : granted po (codes "ANN") anns ≡ Ok true
unfolding means
po_ann_anns = (λ i. of_row po anns (po_opened (W po (codes "ANN")) i)) ∙ simp computing refl

po_ann_bobs : granted po (codes "ANN") bobs ≡ Ok false
unfolding means
po_ann_bobs = (λ i. of_row po bobs (po_opened (W po (codes "ANN")) i)) ∙ simp computing refl

po_secadmin_anns : granted po (codes "SECADMIN") anns ≡ Ok false
unfolding means
po_secadmin_anns = (λ i. of_row po anns (po_opened (W po (codes "SECADMIN")) i)) ∙ simp computing refl

po_secadmin_bobs : granted po (codes "SECADMIN") bobs ≡ Ok false
unfolding means
po_secadmin_bobs = (λ i. of_row po bobs (po_opened (W po (codes "SECADMIN")) i)) ∙ simp computing refl

pr_bob_anns : granted pr (codes "BOB") anns ≡ Ok true
unfolding means
pr_bob_anns = (λ i. of_row pr anns (pr_opened (W pr (codes "BOB")) i)) ∙ simp computing refl

pr_bob_bobs : granted pr (codes "BOB") bobs ≡ Ok true
unfolding means
pr_bob_bobs = (λ i. of_row pr bobs (pr_opened (W pr (codes "BOB")) i)) ∙ simp computing refl

pr_ann_anns : granted pr (codes "ANN") anns ≡ Ok false
unfolding means
pr_ann_anns = (λ i. of_row pr anns (pr_opened (W pr (codes "ANN")) i)) ∙ simp computing refl

pr_ann_bobs : granted pr (codes "ANN") bobs ≡ Ok false
unfolding means
pr_ann_bobs = (λ i. of_row pr bobs (pr_opened (W pr (codes "ANN")) i)) ∙ simp computing refl

pg_bob_anns : granted pg (codes "BOB") anns ≡ Ok false
unfolding means
pg_bob_anns = (λ i. of_row pg anns (pg_opened (W pg (codes "BOB")) i)) ∙ simp computing refl

pg_bob_bobs : granted pg (codes "BOB") bobs ≡ Ok false
unfolding means
pg_bob_bobs = (λ i. of_row pg bobs (pg_opened (W pg (codes "BOB")) i)) ∙ simp computing refl

ruleset rows_granted = (po_ann_anns, po_ann_bobs, po_secadmin_anns, po_secadmin_bobs, pr_bob_anns, pr_bob_bobs, pr_ann_anns, pr_ann_bobs, pg_bob_anns, pg_bob_bobs)

pub sees_own : SeesOwn
unfolding in_64_bits sum_of product_of
sees_own = simp computing (simp rows_granted refl)

pub owner_is_not_free : OwnerIsNotFree
unfolding in_64_bits sum_of product_of
owner_is_not_free = simp computing (simp rows_granted refl)

pub one_role : OneRole
unfolding in_64_bits sum_of product_of
one_role = simp computing (simp rows_granted refl)

pub no_role : NoRole
unfolding in_64_bits sum_of product_of
no_role = simp computing (simp rows_granted refl)

pub role_is_no_group : RoleIsNoGroup
unfolding in_64_bits sum_of product_of
role_is_no_group = simp computing (simp rows_granted refl)
