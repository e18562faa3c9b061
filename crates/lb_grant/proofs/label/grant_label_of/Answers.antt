use Rattle.std.proofs.Common.{ℕ, ◌≡◌, ap, subst, ◌∙◌, List, Ok}
use Rattle.std.specs.Prelude.{Result, Err}
use Rattle.std.proofs.lemmas.Result.{err_from_is_err_and}
use Rattle.lb_cat.specs.declared.catalog.Holding.{Holding}
use Rattle.lb_cat.specs.Catalog.{Policy}
use Rattle.lb_cat.specs.Holdings.{holding_of, with_holding}
use Rattle.lb_cat.specs.OrRefused.{OrRefused}
use Rattle.lb_cat.specs.Stamps.{Kept, bare, bare_policy}
use Rattle.lb_alter.specs.ChangeGrant.{grants, held_refusal, mismatch, reads, user_or_new, with_label, writes}
use Rattle.lb_alter.specs.Refusing.{Changed}
use Rattle.lb_changed.specs.declared.changed.Changed.{Changed as Made}
use Rattle.lb_changed.specs.declared.stop.Stop.{Stop}
use Rattle.lb_changed.specs.Given.{IsRefused}
use Rattle.lb_changed.specs.Made.{Makes}
use Rattle.lb_grant.specs.Labelling.{label_given}
use Rattle.lb_grant.proofs.Labels.{at_once}
use Rattle.lb_grant.proofs.Leaving.{granted}
use Rattle.lb_changed.proofs.Steps.{given_then, refused_then}
use Rattle.lb_grant.proofs.label.grant_label_of.Goals as goal

pub returns : goal.returns
returns c T =
    let K : Kept = c.args.catalog.now in
    let n : List ℕ = c.args.to.now in
    let label : List ℕ = c.args.label.now.label in
    let p : Policy = bare_policy c.args.policy.now in
    let h : Holding = holding_of c.args.label.now.policy (user_or_new (bare K) n) in
    let rest : Holding → OrRefused Changed = λ x. grants (bare K) T n (with_holding x) in
    let held : c.in_ok-held.held ≡ h = c.in_ok-held.ensures ∙ ap (holding_of c.args.label.now.policy) c.in_ok-before.ensures.record in
    let given : label_given p c.args.access label h ≡ Ok c.in_ok-holding.holding = subst (λ (x : Holding). label_given p c.args.access label x ≡ Ok c.in_ok-holding.holding) held c.in_ok-holding.ensures in
    given_then K T c.leaves.result _ _ _ c.in_ok-the_label.ensures
    (subst (λ (g : OrRefused Changed). Makes K T g c.leaves.result) (at_once (held_refusal (reads c.args.access) label h.read) (held_refusal (writes c.args.access) label h.write) (mismatch p (with_label c.args.access label h)) (with_label c.args.access label h) rest)
    (given_then K T c.leaves.result _ rest _ given
    (granted K T c.leaves.result n (with_holding c.in_ok-holding.holding) c.in_ok-changed.changed
    (c.in_ok-changed.ensures.record ∙ ap (with_holding c.in_ok-holding.holding) c.in_ok-before.ensures.record)
    (c.in_ok-changed.ensures.name ∙ c.in_ok-before.ensures.name)
    (c.leaves.ensures T))))

pub returns-in_err-holding : goal.returns-in_err-holding
returns-in_err-holding c T =
    let K : Kept = c.args.catalog.now in
    let n : List ℕ = c.args.to.now in
    let label : List ℕ = c.args.label.now.label in
    let p : Policy = bare_policy c.args.policy.now in
    let h : Holding = holding_of c.args.label.now.policy (user_or_new (bare K) n) in
    let rest : Holding → OrRefused Changed = λ x. grants (bare K) T n (with_holding x) in
    let held : c.in_ok-held.held ≡ h = c.in_ok-held.ensures ∙ ap (holding_of c.args.label.now.policy) c.in_ok-before.ensures.record in
    let stop : Stop = c.in_err-holding.field-0.0 in
    let made : Result Made Stop = Err stop in
    let refused : IsRefused (label_given p c.args.access label h) stop = subst (λ (x : Holding). IsRefused (label_given p c.args.access label x) stop) held c.in_err-holding.ensures in
    let from = err_from_is_err_and c.from_residual-in_err-holding.result c.from_residual-in_err-holding.ensures.1 in
    rw (from.1, from.2) (given_then K T made _ _ _ c.in_ok-the_label.ensures
    (subst (λ (g : OrRefused Changed). Makes K T g made) (at_once (held_refusal (reads c.args.access) label h.read) (held_refusal (writes c.args.access) label h.write) (mismatch p (with_label c.args.access label h)) (with_label c.args.access label h) rest)
    (refused_then K T (label_given p c.args.access label h) rest stop refused)))
