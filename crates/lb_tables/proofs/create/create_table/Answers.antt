use Rattle.std.proofs.Common.{ap, sym, ◌∙◌, false, List, [], ◌∷◌, length, Option}
use Rattle.std.specs.Prelude.{is_some, nat_le, nat_lt}
use Rattle.lb_base.specs.declared.key.Key.TheVariants as keys
use Rattle.lb_stmt.specs.declared.change.ColumnDef.{ColumnDef}
use Rattle.lb_cat.specs.Catalog.{Cat, Policy, put_table, table_named}
use Rattle.lb_cat.specs.OrRefused.{OrRefused}
use Rattle.lb_cat.specs.Stamps.{Kept, bare}
use Rattle.lb_cat.specs.declared.refusal.LimitOf.TheVariants as limits
use Rattle.lb_cat.specs.declared.refusal.Refusal.TheVariants as refusals
use Rattle.lb_rows.specs.Tables.{put_version}
use Rattle.lb_alter.specs.ChangeTable.{columns_in, columns_refusal, flaws_refusal, key_refusal, keys_in, new_table, policy_of, policy_refusal, secured_refusal}
use Rattle.lb_alter.specs.Refusing.{◌>>◌, Changed, done, each_passes, when}
use Rattle.lb_tables.proofs.Passed.{all_makeable}
use Rattle.lb_changed.proofs.Steps.{passes_then}
use Rattle.lb_tables.proofs.create.create_table.Goals as goal

pub created-requires-clause-makeable : goal.created-requires-clause-makeable
created-requires-clause-makeable c =
    all_makeable c.args.policy.now c.args.elements.now c.in_ok-columns_refusal.ensures
    (ap (λ b. flaws_refusal b false false c.args.elements.now (columns_in c.args.elements.now)) (sym c.is_some.ensures) ∙ c.in_ok-flaws_refusal.ensures)

pub returns : goal.returns
returns c T =
    let K : Kept = c.args.catalog.now in
    let C : Cat = bare K in
    let ds : List ColumnDef = columns_in c.args.elements.now in
    let made : OrRefused Changed = done (put_table (new_table c.args.user.now c.args.name.now c.args.elements.now c.args.policy.now) C) (put_version (record { name = c.args.name.now; rows = [] }) T) (keys.Table c.args.name.now ∷ keys.Rows c.args.name.now ∷ []) in
    let labelled : OrRefused Changed = each_passes (λ (d : ColumnDef). secured_refusal (policy_of C c.args.policy.now) d.secured) ds >> made in
    let sorted : OrRefused Changed = flaws_refusal (is_some c.args.policy.now) false false c.args.elements.now ds >> labelled in
    let protected : OrRefused Changed = policy_refusal C c.args.policy.now >> sorted in
    let keyed : OrRefused Changed = each_passes (key_refusal ds) (keys_in c.args.elements.now) >> protected in
    let named : OrRefused Changed = columns_refusal [] ds >> keyed in
    let few : OrRefused Changed = when (nat_lt 64 (length ds)) (refusals.Limit limits.Columns 64) >> named in
    let room : OrRefused Changed = when (nat_le 64 (length C.tables)) (refusals.Limit limits.Tables 64) >> few in
    passes_then K T c.created.result (when (is_some (table_named C c.args.name.now)) (refusals.Exists c.args.name.now)) room c.in_ok-table_is_new.ensures.test
    (passes_then K T c.created.result (when (nat_le 64 (length C.tables)) (refusals.Limit limits.Tables 64)) few c.in_ok-tables_leave_room.ensures
    (passes_then K T c.created.result (when (nat_lt 64 (length ds)) (refusals.Limit limits.Columns 64)) named c.in_ok-columns_are_few.ensures
    (passes_then K T c.created.result (columns_refusal [] ds) keyed c.in_ok-columns_refusal.ensures
    (passes_then K T c.created.result (each_passes (key_refusal ds) (keys_in c.args.elements.now)) protected c.in_ok-keys_refusal.ensures
    (passes_then K T c.created.result (policy_refusal C c.args.policy.now) sorted c.in_ok-policy_refusal.ensures
    (passes_then K T c.created.result (flaws_refusal (is_some c.args.policy.now) false false c.args.elements.now ds) labelled
    (ap (λ b. flaws_refusal b false false c.args.elements.now ds) (sym c.is_some.ensures) ∙ c.in_ok-flaws_refusal.ensures)
    (passes_then K T c.created.result (each_passes (λ (d : ColumnDef). secured_refusal (policy_of C c.args.policy.now) d.secured) ds) made
    (ap (λ (p : Option Policy). each_passes (λ (d : ColumnDef). secured_refusal p d.secured) ds) (sym c.policy_of.ensures) ∙ c.in_ok-labels_refusal.ensures)
    (c.created.ensures T))))))))
