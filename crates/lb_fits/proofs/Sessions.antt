-- What a sound catalogue and the session's credentials give a write.
use Rattle.std.proofs.Common.{ℕ, ◌≡◌, refl, Bool, true, false, cond, List, [], ◌∷◌, Option, Some, None}
use Rattle.std.specs.Prelude.{find, option_map, unwrap_or}
use Rattle.std.specs.List.{AllByRecursion}
use Rattle.std.specs.Option.{option_and_then}
use Rattle.lb_base.specs.declared.key.Key.{Key}
use Rattle.lb_base.specs.declared.key.Key.TheVariants as keys
use Rattle.lb_base.specs.declared.value.Value.TheVariants as values
use Rattle.arrayvec.specs.ArrayVec.{ArrayVec}
use Rattle.lb_cat.specs.declared.cred.Cred.{Cred}
use Rattle.lb_cat.specs.declared.cred.CredLabel.{CredLabel}
use Rattle.lb_cat.specs.Catalog.{Cat, Table, Policy, table_named, policy_named, is_table}
use Rattle.lb_cat.specs.Credentials.{held_of, no_label, is_cred_label_of}
use Rattle.lb_mean.specs.Refused.{policy_of_table}
use Rattle.lb_answer.specs.Bases.{label_held}
use Rattle.lb_alter.specs.Columns.{HasItsColumns, HasOneLabelColumn}
use Rattle.lb_alter.specs.Fits.{IsLabelIfHeld, FitsPolicy, FitsIfThere, CredFits}
use Rattle.lb_alter.specs.Labelled.{LabelsBelong}
use Rattle.lb_alter.specs.Sound.{IsSound}
use Rattle.lb_alter.specs.Stored.{StoredRules}
use Rattle.lb_alter.proofs.SoundUsers.{all_found}
use Rattle.lb_fits.specs.Given.{OwnFits, KeepsColumns}

pub keeps_columns : (rules : StoredRules) (C : Cat) → IsSound rules C → (n : List ℕ) (t : Table) → table_named C n ≡ Some t → KeepsColumns C t
keeps_columns rules C s n t e =
    let l : HasOneLabelColumn t = all_found HasOneLabelColumn (is_table n) C.tables t s.label_columns e in
    let b : LabelsBelong C t = all_found (LabelsBelong C) (is_table n) C.tables t s.belonging e in
    let c : HasItsColumns t = all_found HasItsColumns (is_table n) C.tables t s.columns e in
    record { one = l.one; belonging = b; key = c.key }

written_label : (p : Policy) (o : Option (ArrayVec ℕ)) → IsLabelIfHeld p.shape o → OwnFits (Some p) (option_map values.Label o)
written_label p None h = tt
written_label p (Some parts) h = h

held_on : (p : Policy) (b : Bool) (l : CredLabel) (ls : List CredLabel) → is_cred_label_of p.name l ≡ b → FitsPolicy p l → IsLabelIfHeld p.shape (unwrap_or (find (is_cred_label_of p.name) ls) (no_label p.name)).write
    → IsLabelIfHeld p.shape (unwrap_or (cond b (Some l) (find (is_cred_label_of p.name) ls)) (no_label p.name)).write
held_on p true l ls e f rest = (f e).1
held_on p false l ls e f rest = rest

held : (p : Policy) (ls : List CredLabel) → AllByRecursion (FitsPolicy p) ls → IsLabelIfHeld p.shape (unwrap_or (find (is_cred_label_of p.name) ls) (no_label p.name)).write
held p [] h = tt
held p (l ∷ ls) h = held_on p (is_cred_label_of p.name l) l ls refl h.0 (held p ls h.1)

held_of_policy : (c : Cred) (o : Option Policy) → FitsIfThere c o → OwnFits o (label_held c o)
held_of_policy c None h = tt
held_of_policy c (Some p) h = written_label p (held_of c p.name).write (held p c.labels h)

held_of_name : (C : Cat) (c : Cred) → ((ks : List Key) → CredFits ks C c) → (o : Option (List ℕ)) → OwnFits (option_and_then (policy_named C) o) (label_held c (option_and_then (policy_named C) o))
held_of_name C c h None = tt
held_of_name C c h (Some n) = let f : CredFits (keys.Policy n ∷ []) C c = h (keys.Policy n ∷ []) in held_of_policy c (policy_named C n) f.0

pub own_fits : (C : Cat) (c : Cred) → ((ks : List Key) → CredFits ks C c) → (t : Table) → OwnFits (policy_of_table C t) (label_held c (policy_of_table C t))
own_fits C c h t = held_of_name C c h t.policy
