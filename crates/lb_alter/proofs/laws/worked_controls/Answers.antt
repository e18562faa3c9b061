use Rattle.std.proofs.Common.{refl, ap, ◌∙◌, ◌++◌, cond, false, ℕ, List, [], ◌∷◌, Some, None, codes}
use Rattle.std.specs.Prelude.{filter, map, option_map}
use Rattle.std.specs.List.{list_any}
use Rattle.lb_base.specs.declared.key.Key.TheVariants as keys
use Rattle.lb_cat.specs.declared.reply.Reply.{Reply}
use Rattle.lb_cat.specs.declared.refusal.Refusal.TheVariants as refusals
use Rattle.lb_stmt.specs.declared.change.PermissionDef.{PermissionDef}
use Rattle.lb_stmt.specs.declared.change.Switch.TheVariants as switches
use Rattle.lb_cat.specs.Catalog.{Table, drop_policy}
use Rattle.lb_cat.specs.Holdings.{has_holding_of, without_holding}
use Rattle.lb_names.specs.Mentions.{Mentions, policy, in_expr, is_policy_mention, is_label_mention}
use Rattle.lb_alter.specs.ChangeControl.{source_refusal, new_permission, with_permission}
use Rattle.lb_alter.specs.ChangePolicy.{table_name, first_label}
use Rattle.lb_alter.specs.ChangeTable.{user_key}
use Rattle.lb_alter.specs.Refusing.{◌>>◌, settled, alters, alters_policy, done, in_use}
use Rattle.lb_alter.specs.Stored.{StoredRules}
use Rattle.lb_alter.specs.WorkedAnswers.{asks_teller}
use Rattle.lb_alter.specs.WorkedControls.{SourcesStandBetween, CalledIsInUse, NamedIsInUse, calling, cust, rules_by, shop, teller, names_label}
use Rattle.lb_alter.proofs.WorkedMentions.{asks, calls, names}
use Rattle.lb_alter.proofs.laws.worked_controls.Goals as goal

pub returns-clause-permissions : goal.returns-clause-permissions
returns-clause-permissions c K = record { secadm = refl; table = refl; taken = refl; elsewhere = refl; mask = refl }

pub returns-clause-masks : goal.returns-clause-masks
returns-clause-masks c K = record { secadm = refl; table = refl; column = refl; taken = refl; elsewhere = refl; permission = refl; other = refl }

pub returns-clause-kinds : goal.returns-clause-kinds
returns-clause-kinds c K = record { switched = refl; dropped = refl }

pub returns-clause-switches : goal.returns-clause-switches
returns-clause-switches c K = refl

pub returns-clause-used : goal.returns-clause-used
returns-clause-used c K = record { role = refl; labelled = refl; column = refl }

two : List ℕ → PermissionDef
two on = record { replace = false; name = codes "TWO"; on = record { table = on; correlation = None }; condition = asks_teller; switch = switches.Enable }

-- what CREATE PERMISSION TWO answers, by what its condition names
created_by : Table → Mentions → Reply
created_by t ms = (settled shop [] (source_refusal shop (codes "TWO") t.name ms >> (Some (refusals.Types 3) >> alters shop [] (with_permission (new_permission (rules_by None (Some (refusals.Types 3))) shop (two t.name)) t)))).reply

between : SourcesStandBetween
unfolding two created_by
between = record { names = refl; source = ap (created_by teller) asks; types = ap (created_by cust) asks }

pub returns-clause-between : goal.returns-clause-between
returns-clause-between c = between

-- what DROP POLICY Q answers, by what the permission ONE names
dropped_by : StoredRules → Mentions → Reply
dropped_by K ms = (settled calling [] (in_use (codes "Q") (option_map table_name (cond (list_any (is_policy_mention (codes "Q")) (ms ++ (in_expr names_label ++ []))) (Some cust) None))
    >> (in_use (codes "Q") (first_label (record { name = codes "X"; parts = record { items = [] } } ∷ []))
    >> done (record (drop_policy (codes "Q") calling) { users = map (without_holding (codes "Q")) calling.users }) [] (keys.Policy (codes "Q") ∷ map user_key (filter (has_holding_of (codes "Q")) calling.users))))).reply

called : (K : StoredRules) → CalledIsInUse K
unfolding dropped_by
called K = ap (λ (ms : Mentions). dropped_by K ms) calls

pub returns-clause-called : goal.returns-clause-called
returns-clause-called c = called

-- what DROP SECURITY LABEL Q.X answers, by what the permission and the mask name
label_by : StoredRules → Mentions → Mentions → Reply
label_by K ms ns = (settled calling [] (in_use (codes "X") (option_map table_name (cond (list_any (is_label_mention (codes "Q") (codes "X")) (ms ++ (ns ++ []))) (Some cust) None))
    >> alters_policy calling [] (record { name = codes "Q"; components = []; shape = []; restrict = false; labels = [] }))).reply

labelled : (K : StoredRules) → NamedIsInUse K
unfolding label_by
labelled K = ap (λ (ms : Mentions). label_by K ms (in_expr names_label)) calls ∙ ap (label_by K (policy (codes "Q") ∷ [])) names

pub returns-clause-named : goal.returns-clause-named
returns-clause-named c = labelled
