-- What passes a test. It stands in private contracts alone.
use Rattle.std.specs.Prelude.{Bool, Option, None, Some, if◌then◌else◌}

-- what is there, if it passes the test
abbrev pub passing : {A : Type 0} → (A → Bool) → Option A → Option A
passing test None = None
passing test (Some x) = if test x then Some x else None
