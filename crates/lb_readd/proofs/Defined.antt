-- The reader of all definitions is exact for the grammar: the readers of single statements, chosen by their first
-- words.
use Rattle.std.proofs.Common.{Bool, true, false, ℕ, [], ◌++◌, refl}
use Rattle.lb_stmt.specs.declared.change.Change.{Change}
use Rattle.lb_stmt.specs.declared.change.Change.TheVariants as changes
use Rattle.lb_stmt.specs.declared.write.Stmt.TheVariants as stmts
use Rattle.lb_tok.specs.declared.kind.Kind.TheVariants as kinds
use Rattle.lb_tok.specs.Kinds.{Kinds, only}
use Rattle.lb_tok.specs.Form.{Lang, Either, After}
use Rattle.lb_tok.specs.Changes.{IsCreateLabel, IsCreatePolicy, IsCreate, IsAlter, IsDrop, IsChange, IsDefinition}
use Rattle.lb_reade.specs.Expressions.{Readers}
use Rattle.lb_readq.specs.Queries.{readers}
use Rattle.lb_readt.proofs.Combined.{IsReaderOf, then_reads, pick_reads, wide, made_reads, after_reads}
use Rattle.lb_readt.proofs.Tokens.{name_reads}
use Rattle.lb_reade.proofs.Expressions.{Ready}
use Rattle.lb_readq.proofs.Queries.{ready}
use Rattle.lb_readq.proofs.Whole.{Whole'}
use Rattle.lb_readd.specs.Defining.{create_secured_at, create_at, switched_permission_at, switched_mask_at, alter_at, dropped_secured_at, drop_at, change_at, definition_at}
use Rattle.lb_readd.specs.Choosing.{definers}
use Rattle.lb_readd.proofs.Tables.{create_table_reads}
use Rattle.lb_readd.proofs.Altered.{after_alter_table, alter_table_reads}
use Rattle.lb_readd.proofs.Labels.{switch_reads, replace_reads, control_reads, create_label_reads, create_policy_reads, drop_label_reads}
use Rattle.lb_readg.proofs.Grants.{after_grant, grant_reads, revoke_reads}

-- after SECURITY
abbrev Secured : Lang Change
Secured = After kinds.Security (Either (After kinds.Label IsCreateLabel) IsCreatePolicy)

abbrev after_secured : Kinds
after_secured = only kinds.Comma ++ only kinds.Override ++ only kinds.Restrict

create_secured_reads : {b : Bool} {d : ℕ} {w : Readers} → Ready d w → IsReaderOf b d (create_secured_at w) Secured false (only kinds.Security) after_secured
unfolding create_secured_at
create_secured_reads r = wide _ _ refl refl refl (after_reads kinds.Security refl (pick_reads (after_reads kinds.Label refl (create_label_reads r)) create_policy_reads refl))

abbrev in_create : Kinds
in_create = only kinds.Table ++ only kinds.Security ++ only kinds.Role ++ only kinds.Or ++ only kinds.Permission ++ only kinds.Mask

abbrev after_create : Kinds
after_create = only kinds.Security ++ after_secured ++ only kinds.Or ++ only kinds.Enable ++ only kinds.Disable

create_reads : {b : Bool} {d : ℕ} → Ready d (readers d) → IsReaderOf b d (create_at d) IsCreate false in_create after_create
unfolding create_at
create_reads r = wide _ _ refl refl refl (pick_reads create_table_reads
    (pick_reads (create_secured_reads r)
    (pick_reads (after_reads kinds.Role refl (made_reads changes.CreateRole name_reads))
    (then_reads replace_reads (control_reads r) refl) refl) refl) refl)

abbrev in_controls : Kinds
in_controls = only kinds.Table ++ only kinds.Permission ++ only kinds.Mask

alter_reads : {b : Bool} {d : ℕ} {w : Readers} → Ready d w → IsReaderOf b d (alter_at w) IsAlter false in_controls after_alter_table
unfolding alter_at switched_permission_at switched_mask_at
alter_reads r = wide _ _ refl refl refl (pick_reads (alter_table_reads r)
    (pick_reads (after_reads kinds.Permission refl (then_reads name_reads (λ n. made_reads (changes.SwitchPermission n) switch_reads) refl))
    (after_reads kinds.Mask refl (then_reads name_reads (λ n. made_reads (changes.SwitchMask n) switch_reads) refl)) refl) refl)

drop_reads : {b : Bool} {d : ℕ} → IsReaderOf b d drop_at IsDrop false (in_controls ++ only kinds.Role ++ only kinds.Security) []
unfolding drop_at dropped_secured_at
drop_reads = wide _ _ refl refl refl (pick_reads (after_reads kinds.Table refl (made_reads changes.DropTable name_reads))
    (pick_reads (after_reads kinds.Permission refl (made_reads changes.DropPermission name_reads))
    (pick_reads (after_reads kinds.Mask refl (made_reads changes.DropMask name_reads))
    (pick_reads (after_reads kinds.Role refl (made_reads changes.DropRole name_reads))
    (after_reads kinds.Security refl (pick_reads (after_reads kinds.Label refl drop_label_reads) (after_reads kinds.Policy refl (made_reads changes.DropPolicy name_reads)) refl)) refl) refl) refl) refl)

abbrev pub after_change : Kinds
after_change = after_create ++ after_alter_table ++ after_grant

change_reads : {b : Bool} {d : ℕ} → Ready d (readers d) → IsReaderOf b d (change_at d) IsChange false definers after_change
unfolding change_at
change_reads r = wide _ _ refl refl refl (pick_reads (after_reads kinds.Create refl (create_reads r))
    (pick_reads (after_reads kinds.Alter refl (alter_reads r))
    (pick_reads (after_reads kinds.Drop refl drop_reads)
    (pick_reads (after_reads kinds.Grant refl grant_reads)
    (after_reads kinds.Revoke refl revoke_reads) refl) refl) refl) refl)

definition_reads : {b : Bool} {d : ℕ} → Ready d (readers d) → IsReaderOf b d (definition_at d) IsDefinition false definers after_change
unfolding definition_at
definition_reads r = made_reads stmts.Change (change_reads r)

-- of every depth
pub whole : Whole' IsDefinition definition_at definers after_change
whole = record { exact = λ d. (definition_reads {b = true} {d = d} (ready d)).exact refl }
