-- Grants: labels, exemptions, roles, SECADM and privileges.
use Rattle.std.specs.Prelude.{if◌then◌else◌, ℕ, Bool, true, false, not, List, [], ◌∷◌, ◌++◌, find, slice_index_or, Option, None, Some, unwrap_or, option_map}
use Rattle.std.specs.Str.{bytes_eq}
use Rattle.lb_base.specs.declared.key.Key.TheVariants as keys
use Rattle.lb_label.specs.declared.exemption.Exempt.{Exempt}
use Rattle.lb_label.specs.Label.{label_of}
use Rattle.lb_label.specs.Rules.{first_disagreement}
use Rattle.lb_stmt.specs.declared.change.Access.{Access}
use Rattle.lb_stmt.specs.declared.change.Access.TheVariants as accesses
use Rattle.lb_stmt.specs.declared.change.LabelName.{LabelName}
use Rattle.lb_stmt.specs.declared.change.Exempted.{Exempted}
use Rattle.lb_stmt.specs.declared.change.Privilege.{Privilege}
use Rattle.lb_stmt.specs.declared.change.Grantee.{Grantee}
use Rattle.lb_stmt.specs.declared.change.Grantee.TheVariants as grantees
use Rattle.lb_cat.specs.declared.catalog.Holding.{Holding}
use Rattle.lb_cat.specs.declared.catalog.LabelRec.{LabelRec}
use Rattle.lb_cat.specs.declared.refusal.Refusal.{Refusal}
use Rattle.lb_cat.specs.declared.refusal.Refusal.TheVariants as refusals
use Rattle.lb_rows.specs.Tables.{Tables}
use Rattle.lb_rows.specs.Lists.{without}
use Rattle.lb_cat.specs.Catalog.{Cat, Table, Policy, User, user_named, has_role, label_named, no_user, is_among, put_user, put_role, drop_role}
use Rattle.lb_cat.specs.Privileges.{privileges_on, with_privileges, with_granted}
use Rattle.lb_cat.specs.Holdings.{holding_of, with_holding, holds_label, other_than, with_exemptions, without_exemptions}
use Rattle.lb_alter.specs.ChangeLabel.{user_name}
use Rattle.lb_alter.specs.Refusing.{◌>>◌, Changed, when, the_policy, the_label, owner, secadm, done, alters, in_use, exists_already}
use Rattle.lb_cat.specs.OrRefused.{OrRefused, ◌>>=◌}

-- the user's record, and of a name without record a new one
abbrev pub user_or_new : Cat → List ℕ → User
user_or_new C n = unwrap_or (user_named C n) (no_user n)

-- a grant makes the record where there is none
abbrev pub grants : Cat → Tables → List ℕ → (User → User) → OrRefused Changed
grants C T n f = done (put_user (f (user_or_new C n)) C) T (keys.User n ∷ [])

-- what is taken from a name without record changes nothing, and makes none
abbrev pub taken_from : Cat → Option User → (User → User) → Cat
taken_from C None f = C
taken_from C (Some u) f = put_user (f u) C

-- a revoke, which touches the user also where there is no record
abbrev pub revokes : Cat → Tables → List ℕ → (User → User) → OrRefused Changed
revokes C T n f = done (taken_from C (user_named C n) f) T (keys.User n ∷ [])

-- ---- labels

-- the access includes reading
abbrev pub reads : Access → Bool
reads accesses.All = true
reads accesses.Read = true
reads accesses.Write = false

-- the access includes writing
abbrev pub writes : Access → Bool
writes accesses.All = true
writes accesses.Read = false
writes accesses.Write = true

-- another label is held for an access that is granted
abbrev pub held_refusal : Bool → List ℕ → Option (List ℕ) → Option Refusal
held_refusal true label held = exists_already (other_than label held)
held_refusal false label held = None

-- the label where the access is granted, else what was held
abbrev pub if_granted : Bool → List ℕ → Option (List ℕ) → Option (List ℕ)
if_granted true label held = Some label
if_granted false label held = held

-- the holding with the label for the granted accesses
abbrev pub with_label : Access → List ℕ → Holding → Holding
with_label access label h = record h { read = if_granted (reads access) label h.read; write = if_granted (writes access) label h.write }

-- the elements of a label of the policy
abbrev pub label_elements : Policy → LabelRec → List (List ℕ)
label_elements p l = label_of p.shape l.parts.items

-- the first component in which two labels of the policy break the rule of grants
abbrev pub disagreement : Policy → Option LabelRec → Option LabelRec → Option ℕ
disagreement p (Some read) (Some write) = first_disagreement 0 p.shape (label_elements p read) (label_elements p write)
disagreement p _ _ = None

-- the record of the label that is held
abbrev pub label_held : Policy → Option (List ℕ) → Option LabelRec
label_held p None = None
label_held p (Some n) = label_named p n

-- refused for the component at that place of the policy
abbrev pub mismatch_at : Policy → Option ℕ → Option Refusal
mismatch_at p None = None
mismatch_at p (Some at) = Some (refusals.GrantMismatch (slice_index_or p.components at []))

-- what both labels would be breaks the rule of grants
abbrev pub mismatch : Policy → Holding → Option Refusal
mismatch p h = mismatch_at p (disagreement p (label_held p h.read) (label_held p h.write))

-- GRANT SECURITY LABEL
abbrev pub grant_label : Cat → Tables → List ℕ → LabelName → List ℕ → Access → OrRefused Changed
grant_label C T user l n access = do
  secadm C user
  p ← the_policy C l.policy
  x ← the_label p l.label
  let h : Holding = holding_of l.policy (user_or_new C n)
  held_refusal (reads access) l.label h.read
  held_refusal (writes access) l.label h.write
  mismatch p (with_label access l.label h)
  grants C T n (with_holding (with_label access l.label h))

-- the holding without the label, for both accesses
abbrev pub without_label : List ℕ → Holding → Holding
without_label label h = record h { read = other_than label h.read; write = other_than label h.write }

-- REVOKE SECURITY LABEL
abbrev pub revoke_label : Cat → Tables → List ℕ → LabelName → List ℕ → OrRefused Changed
revoke_label C T user l n = do
  secadm C user
  p ← the_policy C l.policy
  x ← the_label p l.label
  let h : Holding = holding_of l.policy (user_or_new C n)
  when (not (holds_label l.label h)) (refusals.Unknown l.label)
  revokes C T n (with_holding (without_label l.label h))

-- ---- exemptions

-- the user with other exemptions from the rules for the policy
abbrev pub exempting : (Exempted → Exempt → Exempt) → Exempted → List ℕ → User → User
exempting change rule policy u = with_holding (record (holding_of policy u) { exempt = change rule (holding_of policy u).exempt }) u

-- GRANT EXEMPTION
abbrev pub grant_exemption : Cat → Tables → List ℕ → Exempted → List ℕ → List ℕ → OrRefused Changed
grant_exemption C T user rule policy n = do
  secadm C user
  p ← the_policy C policy
  grants C T n (exempting with_exemptions rule policy)

-- REVOKE EXEMPTION
abbrev pub revoke_exemption : Cat → Tables → List ℕ → Exempted → List ℕ → List ℕ → OrRefused Changed
revoke_exemption C T user rule policy n = do
  secadm C user
  p ← the_policy C policy
  revokes C T n (exempting without_exemptions rule policy)

-- ---- roles

-- CREATE ROLE, which touches nothing
abbrev pub create_role : Cat → Tables → List ℕ → List ℕ → OrRefused Changed
create_role C T user n = do
  secadm C user
  when (has_role C n) (refusals.Exists n)
  done (put_role (record { name = n }) C) T []

-- the user has the role
abbrev pub has_role_of : List ℕ → User → Bool
has_role_of n u = is_among u.roles n

-- refused where the role isn't there
abbrev pub the_role : Cat → List ℕ → Option Refusal
the_role C n = when (not (has_role C n)) (refusals.Unknown n)

-- DROP ROLE, which touches nothing
abbrev pub drop_role_of : Cat → Tables → List ℕ → List ℕ → OrRefused Changed
drop_role_of C T user n = do
  secadm C user
  the_role C n
  in_use n (option_map user_name (find (has_role_of n) C.users))
  done (drop_role n C) T []

-- the user with the role, once
abbrev pub with_role : List ℕ → User → User
with_role n u = if has_role_of n u then u else record u { roles = u.roles ++ n ∷ [] }

-- the user without the role
abbrev pub without_role : List ℕ → User → User
without_role n u = record u { roles = without (bytes_eq n) u.roles }

-- GRANT ROLE
abbrev pub grant_role : Cat → Tables → List ℕ → List ℕ → List ℕ → OrRefused Changed
grant_role C T user role n = do
  secadm C user
  the_role C role
  grants C T n (with_role role)

-- REVOKE ROLE
abbrev pub revoke_role : Cat → Tables → List ℕ → List ℕ → List ℕ → OrRefused Changed
revoke_role C T user role n = do
  secadm C user
  the_role C role
  revokes C T n (without_role role)

-- ---- SECADM

-- the user with or without SECADM authority
abbrev pub with_secadm : Bool → User → User
with_secadm given u = record u { secadm = given }

-- GRANT SECADM
abbrev pub grant_secadm : Cat → Tables → List ℕ → List ℕ → OrRefused Changed
grant_secadm C T user n = do
  secadm C user
  grants C T n (with_secadm true)

-- REVOKE SECADM
abbrev pub revoke_secadm : Cat → Tables → List ℕ → List ℕ → OrRefused Changed
revoke_secadm C T user n = do
  secadm C user
  revokes C T n (with_secadm false)

-- ---- privileges on tables

-- the table with privileges of every user given or taken
abbrev pub with_public : Bool → List Privilege → Table → Table
with_public given ps t = record t { public = with_privileges given ps t.public }

-- the user with privileges on the table given or taken
abbrev pub with_user_privileges : Bool → List Privilege → List ℕ → User → User
with_user_privileges given ps table u = with_granted table (with_privileges given ps (privileges_on table u)) u

-- to a user, or to all users
abbrev pub grant_to : Cat → Tables → Table → List Privilege → Grantee → OrRefused Changed
grant_to C T t ps (grantees.User n) = grants C T n (with_user_privileges true ps t.name)
grant_to C T t ps grantees.Public = alters C T (with_public true ps t)

-- from a user, or from all users
abbrev pub revoke_from : Cat → Tables → Table → List Privilege → Grantee → OrRefused Changed
revoke_from C T t ps (grantees.User n) = revokes C T n (with_user_privileges false ps t.name)
revoke_from C T t ps grantees.Public = alters C T (with_public false ps t)

-- GRANT of privileges on a table
abbrev pub grant_privileges : Cat → Tables → List ℕ → List Privilege → List ℕ → Grantee → OrRefused Changed
grant_privileges C T user ps n to = do
  t ← owner C user n
  grant_to C T t ps to

-- REVOKE of privileges on a table
abbrev pub revoke_privileges : Cat → Tables → List ℕ → List Privilege → List ℕ → Grantee → OrRefused Changed
revoke_privileges C T user ps n from = do
  t ← owner C user n
  revoke_from C T t ps from
