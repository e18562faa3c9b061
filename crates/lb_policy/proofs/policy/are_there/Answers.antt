use Rattle.std.proofs.Common.{ℕ, ◌≡◌, ap, sym, ◌∙◌, ◌+◌, suc, List, ◌∷◌, take, drop, arith}
use Rattle.std.proofs.Math.ListN.{get_or}
use Rattle.std.proofs.Math.Seq.{drop-cons}
use Rattle.std.proofs.lemmas.List.{take_more}
use Rattle.lb_cat.specs.Catalog.{Cat, is_among}
use Rattle.lb_cat.specs.Stamps.{bare}
use Rattle.lb_cat.specs.declared.refusal.Refusal.TheVariants as refusals
use Rattle.lb_alter.specs.ChangePolicy.{components_refusal}
use Rattle.lb_alter.specs.Refusing.{when}
use Rattle.lb_policy.specs.Before.{turned}
use Rattle.lb_policy.proofs.Components.{component_passes, turned_more}
use Rattle.lb_policy.proofs.policy.are_there.Goals as goal

pub loop-place-preserved : goal.loop-place-preserved
loop-place-preserved c =
    let C : Cat = bare c.args.catalog.now in
    let ns : List (List ℕ) = c.args.names.now in
    let i : ℕ = c.loop-place.place in
    let n : List ℕ = c.index-names-place.result in
    let before : List (List ℕ) = turned (take i ns) in
    let rest : List (List ℕ) = drop (i + 1) ns in
    let one : suc i ≡ i + 1 = omega arith in
    let next : drop i ns ≡ n ∷ rest = drop-cons ns i n c.loop-place-test.true ∙ ap (λ (j : ℕ). get_or ns i n ∷ drop j ns) one ∙ ap (λ (m : List ℕ). m ∷ rest) (sym c.index-names-place.is) in
    let more : turned (take (i + 1) ns) ≡ n ∷ before =
    ap turned (take_more ns i n c.loop-place-test.true) ∙ turned_more (take i ns) (get_or ns i n) ∙ ap (λ (m : List ℕ). m ∷ before) (sym c.index-names-place.is) in
    c.loop-place.invariant
    ∙ ap (components_refusal C before) next
    ∙ component_passes C before n rest c.in_ok-is_there.ensures (ap (λ (ms : List (List ℕ)). when (is_among (turned ms) n) (refusals.Exists n)) (sym c.before-in-loop-place.ensures) ∙ c.in_ok-is_first.ensures)
    ∙ ap (λ (ms : List (List ℕ)). components_refusal C ms rest) (sym more)
