-- Conditions over texts: what the evaluation of a stored condition needs of its operands.
use Rattle.std.specs.Prelude.{ℕ, List, Option, None, Some}
use Rattle.std.specs.Str.{bytes_eq}
use Rattle.lb_base.specs.Compare.{truth_of}
use Rattle.lb_base.specs.declared.value.Value.{Value}
use Rattle.lb_base.specs.declared.value.Value.TheVariants as values
use Rattle.lb_base.specs.declared.truth.Truth.{Truth}
use Rattle.lb_base.specs.declared.truth.Truth.TheVariants as truths

-- the value, where it is a text
abbrev pub text_of : Value → Option (List ℕ)
text_of (values.Text t) = Some t
text_of _ = None

-- two texts are equal byte by byte; without both it is unknown
abbrev pub same_text : Option (List ℕ) → Option (List ℕ) → Truth
same_text (Some a) (Some b) = truth_of (bytes_eq a b)
same_text _ _ = truths.Unknown
