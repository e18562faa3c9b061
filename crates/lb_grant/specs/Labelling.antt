-- Parts of the grant and the revoke of a label. They stand in private contracts alone.
use Rattle.std.specs.Prelude.{ℕ, not, List, [], ◌∷◌, Ok}
use Rattle.lb_base.specs.declared.key.Key.TheVariants as keys
use Rattle.lb_stmt.specs.declared.change.Access.{Access}
use Rattle.lb_stmt.specs.declared.change.LabelName.{LabelName}
use Rattle.lb_cat.specs.declared.catalog.Holding.{Holding}
use Rattle.lb_cat.specs.declared.refusal.Refusal.TheVariants as refusals
use Rattle.lb_cat.specs.Catalog.{Cat, Policy, User, put_user}
use Rattle.lb_cat.specs.Holdings.{holding_of, holds_label, with_holding}
use Rattle.lb_rows.specs.Tables.{Tables}
use Rattle.lb_cat.specs.OrRefused.{OrRefused, ◌>>=◌}
use Rattle.lb_alter.specs.ChangeGrant.{grants, held_refusal, mismatch, reads, user_or_new, with_label, without_label, writes}
use Rattle.lb_alter.specs.Refusing.{◌>>◌, Changed, done, the_label, when}

-- with the label for the accesses, or what stands against it
abbrev pub label_given : Policy → Access → List ℕ → Holding → OrRefused Holding
label_given p access label h = do
  held_refusal (reads access) label h.read
  held_refusal (writes access) label h.write
  mismatch p (with_label access label h)
  Ok (with_label access label h)

-- GRANT SECURITY LABEL, once its policy is there
abbrev pub label_granted : Cat → Tables → Policy → LabelName → List ℕ → Access → OrRefused Changed
label_granted C T p l n access = do
  x ← the_label p l.label
  let h : Holding = holding_of l.policy (user_or_new C n)
  held_refusal (reads access) l.label h.read
  held_refusal (writes access) l.label h.write
  mismatch p (with_label access l.label h)
  grants C T n (with_holding (with_label access l.label h))

-- REVOKE SECURITY LABEL from a user who has a record
abbrev pub label_revoked : Cat → Tables → LabelName → User → OrRefused Changed
label_revoked C T l u = do
  when (not (holds_label l.label (holding_of l.policy u))) (refusals.Unknown l.label)
  done (put_user (with_holding (without_label l.label (holding_of l.policy u)) u) C) T (keys.User u.name ∷ [])
