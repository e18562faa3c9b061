-- Grants, and names of users and labels, read from left to right by the next token. Each reader follows its production of the
-- grammar; where a keyword may be a name, the reader takes the name, and the next token decides.
use Rattle.std.specs.Prelude.{ℕ, List, ◌++◌, Bool, Some}
use Rattle.std.specs.Option.{option_and_then}
use Rattle.lb_stmt.specs.declared.change.LabelName.{LabelName}
use Rattle.lb_stmt.specs.declared.change.Access.{Access}
use Rattle.lb_stmt.specs.declared.change.Access.TheVariants as accesses
use Rattle.lb_stmt.specs.declared.change.Exempted.{Exempted}
use Rattle.lb_base.specs.declared.rule.Rule.TheVariants as rules
use Rattle.lb_stmt.specs.declared.change.Exempted.TheVariants as exempted
use Rattle.lb_stmt.specs.declared.change.Privilege.{Privilege}
use Rattle.lb_stmt.specs.declared.change.Privilege.TheVariants as privileges
use Rattle.lb_stmt.specs.declared.change.Grantee.{Grantee}
use Rattle.lb_stmt.specs.declared.change.Grantee.TheVariants as grantees
use Rattle.lb_stmt.specs.declared.change.Change.{Change}
use Rattle.lb_stmt.specs.declared.change.Change.TheVariants as changes
use Rattle.lb_tok.specs.declared.kind.Kind.{Kind}
use Rattle.lb_tok.specs.declared.kind.Kind.TheVariants as kinds
use Rattle.lb_tok.specs.Kinds.{Kinds, only, names, has}
use Rattle.lb_tok.specs.Words.{name_in}
use Rattle.lb_readt.specs.Readers.{Reader, seq, give, one, pick, after, made, means, may, listed, choose}
use Rattle.lb_readt.specs.Tokens.{name_at}

-- ---- keywords that may be names

-- a name, and what its keyword is taken for
abbrev pub marked : {A : Type 0} → (Kind → A) → Reader (A × List ℕ)
marked f = one names (λ t. option_and_then (λ n. Some (f t.kind, n)) (name_in t.content))

-- a name, and whether it is the keyword k
unfoldable pub name_or : Kind → Reader (Bool × List ℕ)
name_or k = marked (has (only k))

-- the keyword k, which is a name too
unfoldable pub named_at : Kind → Reader (Unit {0})
named_at k = one (only k) (λ t. option_and_then (λ n. Some tt) (name_in t.content))

-- ---- names of several parts

-- [USER] name
unfoldable pub user_at : Reader (List ℕ)
user_at = seq (may kinds.User) (λ _. name_at)

-- what begins a grantee
abbrev pub in_grantee : Kinds
in_grantee = only kinds.Public ++ only kinds.User ++ names

-- PUBLIC | USER name
unfoldable pub spelt_grantee_at : Reader Grantee
spelt_grantee_at = pick (only kinds.Public) (means kinds.Public grantees.Public) (after kinds.User (made grantees.User name_at))

-- [USER] name | PUBLIC
unfoldable pub grantee_at : Reader Grantee
grantee_at = pick (only kinds.Public) (means kinds.Public grantees.Public) (made grantees.User user_at)

-- after the policy: . name
unfoldable pub label_on : List ℕ → Reader LabelName
label_on p = after kinds.Dot (made (λ l. record { policy = p; label = l }) name_at)

unfoldable pub label_name_at : Reader LabelName
label_name_at = seq name_at label_on

-- ---- grants

unfoldable pub which_access_at : Reader Access
which_access_at = pick (only kinds.All) (means kinds.All accesses.All) (pick (only kinds.Read) (means kinds.Read accesses.Read) (means kinds.Write accesses.Write))

unfoldable pub access_at : Reader Access
access_at = pick (only kinds.For) (after kinds.For (seq which_access_at (λ a. means kinds.Access a))) (give accesses.All)

unfoldable pub down_or_up_at : Reader Exempted
down_or_up_at = pick (only kinds.WriteDown) (means kinds.WriteDown (exempted.Rule rules.WriteDown)) (means kinds.WriteUp (exempted.Rule rules.WriteUp))

unfoldable pub rule_at : Reader Exempted
rule_at =
    pick (only kinds.Db2LbacReadArray) (means kinds.Db2LbacReadArray (exempted.Rule rules.ReadArray))
    (pick (only kinds.Db2LbacReadSet) (means kinds.Db2LbacReadSet (exempted.Rule rules.ReadSet))
    (pick (only kinds.Db2LbacReadTree) (means kinds.Db2LbacReadTree (exempted.Rule rules.ReadTree))
    (pick (only kinds.Db2LbacWriteArray) (after kinds.Db2LbacWriteArray down_or_up_at)
    (pick (only kinds.Db2LbacWriteSet) (means kinds.Db2LbacWriteSet (exempted.Rule rules.WriteSet))
    (pick (only kinds.Db2LbacWriteTree) (means kinds.Db2LbacWriteTree (exempted.Rule rules.WriteTree))
    (means kinds.All exempted.All))))))

-- ON RULE rule FOR name
unfoldable pub rule_of_at : Reader (Exempted × List ℕ)
rule_of_at = after kinds.On (after kinds.Rule (seq rule_at (λ r. after kinds.For (made (λ p. (r, p)) name_at))))

unfoldable pub privilege_at : Reader Privilege
privilege_at =
    pick (only kinds.Select) (means kinds.Select privileges.Select)
    (pick (only kinds.Insert) (means kinds.Insert privileges.Insert)
    (pick (only kinds.Update) (means kinds.Update privileges.Update)
    (means kinds.Delete privileges.Delete)))

unfoldable pub privileges_at : Reader (List Privilege)
privileges_at = listed privilege_at

-- GRANT privileges ON a table, which may be named TABLE or TO

-- after the table: TO (u | PUBLIC)
unfoldable pub granted_on : List Privilege → List ℕ → Reader Change
granted_on rs t = seq (named_at kinds.To) (λ _. made (changes.GrantPrivileges rs t) grantee_at)

-- after TABLE, which is t, and TO, which is n, and a name: where it is TO, and a grantee follows, the table is n
unfoldable pub third_on : List Privilege → List ℕ → List ℕ → Bool × List ℕ → Reader Change
third_on rs t n p = choose p.0 (pick in_grantee (made (changes.GrantPrivileges rs n) grantee_at) (give (changes.GrantPrivileges rs t (grantees.User p.1)))) (give (changes.GrantPrivileges rs t (grantees.User p.1)))

-- after TABLE, which is t, and TO, which is n
unfoldable pub second_to_on : List Privilege → List ℕ → List ℕ → Reader Change
second_to_on rs t n = pick (only kinds.Public ++ only kinds.User) (made (changes.GrantPrivileges rs t) spelt_grantee_at) (seq (name_or kinds.To) (third_on rs t n))

-- after TABLE, which is t, and a name
unfoldable pub second_on : List Privilege → List ℕ → Bool × List ℕ → Reader Change
second_on rs t p = choose p.0 (second_to_on rs t p.1) (granted_on rs p.1)

-- after a name, and whether it is TABLE
unfoldable pub first_on : List Privilege → Bool × List ℕ → Reader Change
first_on rs p = choose p.0 (seq (name_or kinds.To) (second_on rs p.1)) (granted_on rs p.1)

unfoldable pub grant_privileges_at : Reader Change
grant_privileges_at = seq privileges_at (λ rs. after kinds.On (seq (name_or kinds.Table) (first_on rs)))

-- REVOKE privileges ON a table, which may be named TABLE

-- after the table: FROM (u | PUBLIC)
unfoldable pub revoked_on : List Privilege → List ℕ → Reader Change
revoked_on rs t = after kinds.From (made (changes.RevokePrivileges rs t) grantee_at)

unfoldable pub revoked_table_on : List Privilege → Bool × List ℕ → Reader Change
revoked_table_on rs p = choose p.0 (pick names (seq name_at (revoked_on rs)) (revoked_on rs p.1)) (revoked_on rs p.1)

unfoldable pub revoke_privileges_at : Reader Change
revoke_privileges_at = seq privileges_at (λ rs. after kinds.On (seq (name_or kinds.Table) (revoked_table_on rs)))

unfoldable pub grant_label_at : Reader Change
grant_label_at = after kinds.Label (seq label_name_at (λ l. after kinds.To (seq user_at (λ u. made (changes.GrantLabel l u) access_at))))

unfoldable pub grant_exemption_at : Reader Change
grant_exemption_at = after kinds.Exemption (seq rule_of_at (λ r. after kinds.To (made (changes.GrantExemption r.0 r.1) user_at)))

unfoldable pub grant_role_at : Reader Change
grant_role_at = after kinds.Role (seq name_at (λ r. after kinds.To (made (changes.GrantRole r) user_at)))

unfoldable pub grant_secadm_at : Reader Change
grant_secadm_at = after kinds.Secadm (after kinds.On (after kinds.Database (after kinds.To (made changes.GrantSecadm user_at))))

unfoldable pub grant_at : Reader Change
grant_at =
    pick (only kinds.Security) (after kinds.Security grant_label_at)
    (pick (only kinds.Exemption) grant_exemption_at
    (pick (only kinds.Role) grant_role_at
    (pick (only kinds.Secadm) grant_secadm_at
    grant_privileges_at)))

unfoldable pub revoke_label_at : Reader Change
revoke_label_at = after kinds.Label (seq label_name_at (λ l. after kinds.From (made (changes.RevokeLabel l) user_at)))

unfoldable pub revoke_exemption_at : Reader Change
revoke_exemption_at = after kinds.Exemption (seq rule_of_at (λ r. after kinds.From (made (changes.RevokeExemption r.0 r.1) user_at)))

unfoldable pub revoke_role_at : Reader Change
revoke_role_at = after kinds.Role (seq name_at (λ r. after kinds.From (made (changes.RevokeRole r) user_at)))

unfoldable pub revoke_secadm_at : Reader Change
revoke_secadm_at = after kinds.Secadm (after kinds.On (after kinds.Database (after kinds.From (made changes.RevokeSecadm user_at))))

unfoldable pub revoke_at : Reader Change
revoke_at =
    pick (only kinds.Security) (after kinds.Security revoke_label_at)
    (pick (only kinds.Exemption) revoke_exemption_at
    (pick (only kinds.Role) revoke_role_at
    (pick (only kinds.Secadm) revoke_secadm_at
    revoke_privileges_at)))
