use Rattle.std.proofs.Common.{ℕ, ◌≡◌, ap, sym, ◌∙◌, List, Option, Some}
use Rattle.std.specs.Prelude.{Result, Ok, Err}
use Rattle.std.specs.List.{list_any}
use Rattle.std.specs.Option.{option_map}
use Rattle.std.specs.Arc.{arc_value}
use Rattle.lb_cat.specs.declared.catalog.UserRec.{UserRec}
use Rattle.lb_cat.specs.declared.refusal.Refusal.TheVariants as refusals
use Rattle.lb_cat.specs.Catalog.{User}
use Rattle.lb_cat.specs.Stamps.{Kept}
use Rattle.lb_alter.specs.ChangeLabel.{user_name}
use Rattle.lb_alter.specs.Refusing.{in_use}
use Rattle.lb_changed.specs.declared.changed.Changed.{Changed as Made}
use Rattle.lb_changed.specs.declared.stop.Stop.{Stop}
use Rattle.lb_changed.specs.Made.{is_rows}
use Rattle.lb_grant.proofs.Leaving.{made_so}
use Rattle.lb_changed.proofs.Steps.{passes_then, refuses_as, stops_then}
use Rattle.lb_grant.proofs.role.drop_role.Goals as goal

pub returns-in_ok-changed-in-None : goal.returns-in_ok-changed-in-None
returns-in_ok-changed-in-None c T =
    let K : Kept = c.args.catalog.now in
    let n : List ℕ = c.args.role.now in
    let made : Result Made Stop = Ok c.done.result in
    passes_then K T made _ _ c.in_ok-secadm.ensures
    (passes_then K T made _ _ c.in_ok-the_role.ensures
    (passes_then K T made _ _ (ap (λ (o : Option User). in_use n (option_map user_name o)) (sym c.in-None.ensures))
    (made_so K T _ _ _ _ _ c.in_ok-changed-in-None.ensures.bare c.empty.ensures
    (c.done.ensures K T c.in_ok-changed-in-None.ensures.stamps (ap (list_any is_rows) c.empty.ensures)))))

pub returns-in-Some : goal.returns-in-Some
returns-in-Some c T =
    let K : Kept = c.args.catalog.now in
    let n : List ℕ = c.args.role.now in
    let name : (arc_value c.in-Some.by.now).name ≡ c.deref.result.now.name = ap (λ (u : UserRec). u.name) (sym c.deref.ensures) in
    let made : Result Made Stop = Err c.in_use.result in
    passes_then K T made _ _ c.in_ok-secadm.ensures
    (passes_then K T made _ _ c.in_ok-the_role.ensures
    (stops_then K T _ _ c.in_use.result
    (refuses_as _ _ c.in_use.result
    (ap (λ (o : Option User). in_use n (option_map user_name o)) (sym c.in-Some.ensures) ∙ ap (λ (m : List ℕ). Some (refusals.InUse n m)) name)
    c.in_use.ensures)))
