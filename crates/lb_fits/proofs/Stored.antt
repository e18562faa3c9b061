-- The label that is stored is one of the table's policy.
use Rattle.std.proofs.Common.{◌≡◌, subst, Bool, true, false, Option, Some, None, Ok, Err}
use Rattle.std.specs.Prelude.{if◌then◌else◌}
use Rattle.lb_base.specs.declared.value.Value.{Value}
use Rattle.lb_base.specs.declared.value.Value.TheVariants as values
use Rattle.lb_label.specs.declared.access.Fail.{Fail}
use Rattle.lb_cat.specs.declared.refusal.Refusal.{Refusal}
use Rattle.lb_cat.specs.Catalog.{Table, Policy}
use Rattle.lb_answer.specs.Basis.{Basis}
use Rattle.lb_answer.specs.Checks.{own_label, given_label, restricts}
use Rattle.lb_fits.specs.Given.{IsItsLabel, OwnFits}
use Rattle.lb_fits.specs.Laws.{StoredFits}
use Rattle.lb_fits.proofs.Steps.{same_ok}

module _ {S : Type 0} (p : Option Policy) (b : Basis S) (t : Table) where
  own_fits : (o : Option Value) (stored : Value) → OwnFits p o → own_label p b t o ≡ Ok stored → IsItsLabel p stored
  own_fits None stored h e = absurd cc
  own_fits (Some l) stored h e = subst (IsItsLabel p) (same_ok l stored e) h

  by_rule : (r : Bool) (refusal : Refusal) (stored : Value) → OwnFits p b.own_label → (if r then Err refusal else own_label p b t b.own_label) ≡ Ok stored → IsItsLabel p stored
  by_rule true refusal stored h e = absurd cc
  by_rule false refusal stored h e = own_fits b.own_label stored h e

  given_fits : (l : Value) (f : Option Fail) (stored : Value) → OwnFits p b.own_label → IsItsLabel p l → given_label p b t l f ≡ Ok stored → IsItsLabel p stored
  given_fits l None stored h i e = subst (IsItsLabel p) (same_ok l stored e) i
  given_fits l (Some f) stored h i e = by_rule (restricts p b t p) _ stored h e

  pub stored_fits : (l stored : Value) → StoredFits p b t l stored
  stored_fits values.Null stored h i e = own_fits b.own_label stored h e
  stored_fits (values.Int n) stored h i e = absurd i
  stored_fits (values.Text text) stored h i e = absurd i
  stored_fits (values.Date day) stored h i e = absurd i
  stored_fits (values.Label parts) stored h i e = given_fits (values.Label parts) (b.fails (values.Label parts)) stored h i e
