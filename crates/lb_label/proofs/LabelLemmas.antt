-- Labels, component by component: from the parts of a label to the lists of elements that they stand for.
use Rattle.std.proofs.Common.{◌≡◌, refl, ap, sym, ◌∙◌, ℕ, zero, suc, ◌+◌, ◌<◌, ◌≤◌, Bool, true, false, cond, if◌then◌else◌, List, [], ◌∷◌, length, drop, get_or, Option, None, Some, subst, arith}
use Rattle.std.proofs.lemmas.List.{drop_more, drop_all}
use Rattle.lb_label.specs.declared.access.Fail.{Fail}
use Rattle.lb_label.specs.declared.kind.Access.{Access}
use Rattle.lb_base.specs.declared.rule.Rule.{Rule}
use Rattle.lb_label.specs.Component.{Definition}
use Rattle.lb_label.specs.Label.{IsLabel, IsPart, elements_in, label_of}
use Rattle.lb_label.specs.Rules.{agrees, failing_rule, failure_or, first_disagreement, first_failure}

pub label_length : (shape : List Definition) (parts : List ℕ) → IsLabel shape parts → length shape ≡ length parts
label_length [] [] is = refl
label_length [] (p ∷ parts) is = absurd is
label_length (c ∷ shape) [] is = absurd is
label_length (c ∷ shape) (p ∷ parts) is = ap suc (label_length shape parts is.1)

part_at : (shape : List Definition) (parts : List ℕ) (at : ℕ) (d : Definition) → IsLabel shape parts → at < length shape → IsPart (get_or shape at d) (get_or parts at 0)
part_at [] parts at d is within = absurd (omega arith)
part_at (c ∷ shape) [] at d is within = absurd is
part_at (c ∷ shape) (p ∷ parts) zero d is within = is.0
part_at (c ∷ shape) (p ∷ parts) (suc at) d is within = part_at shape parts at d is.1 (omega arith)

pub label_part : (shape : List Definition) (parts : List ℕ) (at : ℕ) (c : Definition) → IsLabel shape parts → at < length shape → ((d : Definition) → c ≡ get_or shape at d) → IsPart c (get_or parts at 0)
label_part shape parts at c is within here = subst (λ d. IsPart d (get_or parts at 0)) (sym (here c)) (part_at shape parts at c is within)

rest_at : (shape : List Definition) (at : ℕ) (c : Definition) → at < length shape → ((d : Definition) → c ≡ get_or shape at d) → drop at shape ≡ c ∷ drop (at + 1) shape
rest_at shape at c within here = drop_more shape at c within ∙ ap (λ d. d ∷ drop (at + 1) shape) (sym (here c))

parts_at : (shape : List Definition) (parts : List ℕ) (at : ℕ) → IsLabel shape parts → at < length shape → drop at parts ≡ get_or parts at 0 ∷ drop (at + 1) parts
parts_at shape parts at is within =
    let within' : at < length parts = rw (label_length shape parts is) at within in
    drop_more parts at 0 within'

-- the first failure in what is left of the components
abbrev pub failure_left : Access → (Rule → Bool) → List Definition → List ℕ → List ℕ → ℕ → Option Fail
failure_left access exempt shape user value at = first_failure access exempt at (drop at shape) (label_of (drop at shape) (drop at user)) (label_of (drop at shape) (drop at value))

pub failure_step : (access : Access) (exempt : Rule → Bool) (shape : List Definition) (user value : List ℕ) (at : ℕ) (c : Definition) → IsLabel shape user → IsLabel shape value
    → at < length shape → ((d : Definition) → c ≡ get_or shape at d)
    → failure_left access exempt shape user value at
    ≡ failure_or at (failing_rule access exempt c (elements_in c (get_or user at 0)) (elements_in c (get_or value at 0))) (failure_left access exempt shape user value (at + 1))
failure_step access exempt shape user value at c u v within here =
    λ i. first_failure access exempt at (rest_at shape at c within here i) (label_of (rest_at shape at c within here i) (parts_at shape user at u within i)) (label_of (rest_at shape at c within here i) (parts_at shape value at v within i))

pub failure_end : (access : Access) (exempt : Rule → Bool) (shape : List Definition) (user value : List ℕ) (at : ℕ) → length shape ≤ at → failure_left access exempt shape user value at ≡ None
failure_end access exempt shape user value at past =
    ap (λ s. first_failure access exempt at s (label_of s (drop at user)) (label_of s (drop at value))) (drop_all at shape past)

abbrev pub disagreement_left : List Definition → List ℕ → List ℕ → ℕ → Option ℕ
disagreement_left shape read write at = first_disagreement at (drop at shape) (label_of (drop at shape) (drop at read)) (label_of (drop at shape) (drop at write))

pub disagreement_step : (shape : List Definition) (read write : List ℕ) (at : ℕ) (c : Definition) → IsLabel shape read → IsLabel shape write
    → at < length shape → ((d : Definition) → c ≡ get_or shape at d)
    → disagreement_left shape read write at ≡ (if agrees c (elements_in c (get_or read at 0)) (elements_in c (get_or write at 0)) then disagreement_left shape read write (at + 1) else Some at)
disagreement_step shape read write at c r w within here =
    λ i. first_disagreement at (rest_at shape at c within here i) (label_of (rest_at shape at c within here i) (parts_at shape read at r within i)) (label_of (rest_at shape at c within here i) (parts_at shape write at w within i))

pub disagreement_end : (shape : List Definition) (read write : List ℕ) (at : ℕ) → length shape ≤ at → disagreement_left shape read write at ≡ None
disagreement_end shape read write at past =
    ap (λ s. first_disagreement at s (label_of s (drop at read)) (label_of s (drop at write))) (drop_all at shape past)
