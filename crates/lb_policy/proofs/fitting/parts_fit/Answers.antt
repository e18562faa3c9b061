use Rattle.std.proofs.Common.{ℕ, ◌≡◌, ap, sym, subst, ◌∙◌, ◌+◌, suc, ◌<◌, List, [], ◌∷◌, ◌++◌, take, drop, length, map, arith}
use Rattle.std.proofs.Math.ListN.{get_or}
use Rattle.std.proofs.Math.Seq.{drop-cons}
use Rattle.std.proofs.lemmas.List.{map-append, take_more}
use Rattle.std.proofs.lemmas.Result.{err_from_is_err_and}
use Rattle.lb_stmt.specs.declared.change.LabelPart.{LabelPart}
use Rattle.lb_cat.specs.Catalog.{Policy}
use Rattle.lb_cat.specs.Stamps.{bare_policy}
use Rattle.lb_alter.specs.ChangeLabel.{part_refusal, parts_refusal}
use Rattle.lb_changed.specs.Given.{Refuses}
use Rattle.lb_policy.specs.Before.{turned}
use Rattle.lb_policy.proofs.Components.{turned_more}
use Rattle.lb_policy.proofs.Parts.{part_passes, part_stops}
use Rattle.lb_policy.proofs.fitting.parts_fit.Goals as goal

abbrev before_at : List LabelPart → ℕ → List (List ℕ)
before_at parts i = turned (map (λ (x : LabelPart). x.component) (take i parts))

next_at : (parts : List LabelPart) (i : ℕ) (x : LabelPart) → i < length parts → x ≡ get_or parts i x → drop i parts ≡ x ∷ drop (i + 1) parts
next_at parts i x inside is =
    let one : suc i ≡ i + 1 = omega arith in
    drop-cons parts i x inside ∙ ap (λ (j : ℕ). get_or parts i x ∷ drop j parts) one ∙ ap (λ (y : LabelPart). y ∷ drop (i + 1) parts) (sym is)

more_at : (parts : List LabelPart) (i : ℕ) (x : LabelPart) → i < length parts → x ≡ get_or parts i x → before_at parts (i + 1) ≡ x.component ∷ before_at parts i
more_at parts i x inside is =
    ap (λ (xs : List LabelPart). turned (map (λ (y : LabelPart). y.component) xs)) (take_more parts i x inside ∙ ap (λ (y : LabelPart). take i parts ++ y ∷ []) (sym is))
    ∙ ap turned (map-append (λ (y : LabelPart). y.component) (take i parts) (x ∷ []))
    ∙ turned_more (map (λ (y : LabelPart). y.component) (take i parts)) x.component

pub returns-in_err-part_fits : goal.returns-in_err-part_fits
returns-in_err-part_fits c =
    let P : Policy = bare_policy c.args.policy.now in
    let ps : List LabelPart = c.args.parts.now in
    let i : ℕ = c.loop-place.place in
    let x : LabelPart = c.index-parts-place.result in
    let p = err_from_is_err_and c.from_residual.result c.from_residual.ensures.1 in
    rw (p.1, p.2) (subst (λ t. Refuses t c.in_err-part_fits.field-0.0) (sym (c.loop-place.invariant ∙ ap (parts_refusal P (before_at ps i)) (next_at ps i x c.loop-place-test.true c.index-parts-place.is)))
    (part_stops P (before_at ps i) x (drop (i + 1) ps) c.in_err-part_fits.field-0.0
    (subst (λ (xs : List LabelPart). Refuses (part_refusal P (turned (map (λ (y : LabelPart). y.component) xs)) x) c.in_err-part_fits.field-0.0) c.before-in-loop-place.ensures c.in_err-part_fits.ensures)))

pub loop-place-preserved : goal.loop-place-preserved
loop-place-preserved c =
    let P : Policy = bare_policy c.args.policy.now in
    let ps : List LabelPart = c.args.parts.now in
    let i : ℕ = c.loop-place.place in
    let x : LabelPart = c.index-parts-place.result in
    c.loop-place.invariant
    ∙ ap (parts_refusal P (before_at ps i)) (next_at ps i x c.loop-place-test.true c.index-parts-place.is)
    ∙ part_passes P (before_at ps i) x (drop (i + 1) ps) (ap (λ (xs : List LabelPart). part_refusal P (turned (map (λ (y : LabelPart). y.component) xs)) x) (sym c.before-in-loop-place.ensures) ∙ c.in_ok-part_fits.ensures)
    ∙ ap (λ (ms : List (List ℕ)). parts_refusal P ms (drop (i + 1) ps)) (sym (more_at ps i x c.loop-place-test.true c.index-parts-place.is))
