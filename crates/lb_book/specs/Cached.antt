-- Plans that are kept, each under the canonical text of its statement, the one used last at the front.
use Rattle.std.specs.Prelude.{ℕ, Bool, not, List, ◌++◌, filter, find, Option, option_map}
use Rattle.std.specs.Str.{bytes_eq}
use Rattle.lb_base.specs.declared.key.Key.{Key}

-- a plan, the text of its statement, and the keys that it depends on
pub record Cached (P : Type 0) : Type 0 where
  pub text : List ℕ
  pub plan : P
  pub keys : List Key

-- it is the plan of that text
abbrev pub is_plan_of : {P : Type 0} → List ℕ → Cached P → Bool
is_plan_of text c = bytes_eq c.text text

-- the plan of that text, where one is kept
abbrev pub plan_of : {P : Type 0} → List ℕ → List (Cached P) → Option P
plan_of text cs = option_map (λ c. c.plan) (find (is_plan_of text) cs)

-- the plan of that text comes to the front
abbrev pub fronted : {P : Type 0} → List ℕ → List (Cached P) → List (Cached P)
fronted text cs = filter (is_plan_of text) cs ++ filter (λ c. not (is_plan_of text c)) cs
