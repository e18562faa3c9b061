use Rattle.std.proofs.Common.{ℕ, ◌≡◌, ap, sym, ◌∙◌, false, List}
use Rattle.std.specs.Prelude.{Result, Ok}
use Rattle.std.specs.List.{list_any}
use Rattle.lb_cat.specs.declared.refusal.Refusal.TheVariants as refusals
use Rattle.lb_cat.specs.Catalog.{has_role, put_role}
use Rattle.lb_cat.specs.Stamps.{Kept, bare}
use Rattle.lb_alter.specs.Refusing.{when}
use Rattle.lb_changed.specs.declared.changed.Changed.{Changed as Made}
use Rattle.lb_changed.specs.declared.stop.Stop.{Stop}
use Rattle.lb_changed.specs.Made.{is_rows}
use Rattle.lb_grant.proofs.Leaving.{made_so}
use Rattle.lb_changed.proofs.Steps.{passes_then}
use Rattle.lb_grant.proofs.role.create_role.Goals as goal

pub returns : goal.returns
returns c T =
    let K : Kept = c.args.catalog.now in
    let n : List ℕ = c.args.role.now in
    let new : has_role (bare K) n ≡ false = sym c.role.ensures.bare ∙ sym c.is_some.ensures ∙ c.if-is_some.false in
    let made : Result Made Stop = Ok c.done.result in
    passes_then K T made _ _ c.in_ok-secadm.ensures
    (passes_then K T made _ _ (ap (λ b. when b (refusals.Exists n)) new)
    (made_so K T _ _ _ _ _ (c.in_ok-changed.ensures.bare ∙ ap (λ (m : List ℕ). put_role (record { name = m }) (bare K)) c.in_ok-copy.ensures) c.empty.ensures
    (c.done.ensures K T c.in_ok-changed.ensures.stamps (ap (list_any is_rows) c.empty.ensures))))
