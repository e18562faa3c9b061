-- The kinds of parts in text order, with the kind that they have in common so far.
use Rattle.std.specs.Prelude.{ℕ, List, [], ◌∷◌, Option, Some, None, Ok}
use Rattle.lb_names.specs.Kinds.{Kind, Common, one, with_kind, null}
use Rattle.lb_names.specs.Typed.{Typed, ◌>>=◌}
use Rattle.lb_names.specs.Places.{Place}
use Rattle.lb_names.specs.Carriers.{Means, Says, Arms, Choices}

-- the kind that all have with the kind so far, none where two differ
abbrev pub kind_of_all : Common → List Means → Place → ℕ → Typed Common
kind_of_all so_far [] P n = Ok (so_far, n)
kind_of_all so_far (m ∷ ms) P n = m.kind P n >>= λ x. kind_of_all (with_kind so_far x.0) ms P x.1

-- the kind so far with that of one more
abbrev pub kind_with : Common → Means → Place → ℕ → Typed Common
kind_with so_far m P n = m.kind P n >>= λ x. Ok (with_kind so_far x.0, x.1)

-- the kind so far with that of a part that may be missing
abbrev pub kind_of_any : Common → Option Means → Place → ℕ → Typed Common
kind_of_any so_far None P n = Ok (so_far, n)
kind_of_any so_far (Some m) P n = kind_with so_far m P n

-- the kind that two parts have in common
unfoldable pub kind_of_two : Means → Means → Place → ℕ → Typed Common
kind_of_two m k P n = m.kind P n >>= λ x. kind_with (one x.0) k P x.1

-- the kind that three parts have in common
unfoldable pub kind_of_three : Means → Means → Means → Place → ℕ → Typed Common
kind_of_three m k l P n = kind_of_two m k P n >>= λ x. kind_with x.0 l P x.1

-- the kind that a part and a list have in common
unfoldable pub kind_with_all : Means → List Means → Place → ℕ → Typed Common
kind_with_all m ms P n = m.kind P n >>= λ x. kind_of_all (one x.0) ms P x.1

-- ---- WHEN and THEN

-- the kind of the result of WHEN condition THEN result
unfoldable pub kind_of_arm : Arms → Place → ℕ → Typed Kind
kind_of_arm arm P n = arm.when.typed P n >>= λ x. arm.result.kind P x.1

-- the kind so far with those of the results of these arms
abbrev pub kind_of_arms : Common → List Arms → Place → ℕ → Typed Common
kind_of_arms so_far [] P n = Ok (so_far, n)
kind_of_arms so_far (arm ∷ arms) P n = kind_of_arm arm P n >>= λ x. kind_of_arms (with_kind so_far x.0) arms P x.1

-- the kind of the results of a CASE
unfoldable pub kind_of_results : List Arms → Option Means → Place → ℕ → Typed Common
kind_of_results arms otherwise P n = kind_of_arms (one null) arms P n >>= λ x. kind_of_any x.0 otherwise P x.1

-- a kind and that of one more
unfoldable pub and_kind : Kind → Means → Place → ℕ → Typed (Kind × Kind)
and_kind k m P n = m.kind P n >>= λ x. Ok ((k, x.0), x.1)

-- the kinds of both parts of WHEN value THEN result
unfoldable pub kinds_of_choice : Choices → Place → ℕ → Typed (Kind × Kind)
kinds_of_choice c P n = c.when.kind P n >>= λ x. and_kind x.0 c.result P x.1

-- the kind of the operands and that of the results
abbrev pub kinds_of_choices : Common → Common → List Choices → Place → ℕ → Typed (Common × Common)
kinds_of_choices operands results [] P n = Ok ((operands, results), n)
kinds_of_choices operands results (c ∷ cs) P n = kinds_of_choice c P n >>= λ x. kinds_of_choices (with_kind operands x.0.0) (with_kind results x.0.1) cs P x.1

-- of a CASE with an operand, before its ELSE
unfoldable pub kinds_of_match : Means → List Choices → Place → ℕ → Typed (Common × Common)
kinds_of_match m choices P n = m.kind P n >>= λ x. kinds_of_choices (one x.0) (one null) choices P x.1

-- conditions have no kind
abbrev pub all_typed : List Says → Place → ℕ → Typed (Unit {0})
all_typed [] P n = Ok (tt, n)
all_typed (c ∷ cs) P n = c.typed P n >>= λ x. all_typed cs P x.1
