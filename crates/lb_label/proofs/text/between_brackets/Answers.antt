use Rattle.std.proofs.Common.{◌≡◌, ◌<◌, lit<, subst, sym, Some, None, false}
use Rattle.std.specs.Option.{IfNone}
use Rattle.std.proofs.lemmas.Str.Pattern.{strip_prefix_char, strip_suffix_char}
use Rattle.lb_label.specs.LabelText.{is_bracketed}
use Rattle.lb_label.proofs.TextLemmas.{not_bracketed_front, brackets_none}
use Rattle.lb_label.proofs.text.between_brackets.Goals as goal

pub returns-in_err-strip_prefix-clause-none : goal.returns-in_err-strip_prefix-clause-none
returns-in_err-strip_prefix-clause-none c =
    subst (λ r. IfNone r (is_bracketed c.args.part.now ≡ false)) (sym c.from_residual.ensures) (not_bracketed_front c.args.part.now (strip_prefix_char 40 c.args.part.now None c.in_err-strip_prefix.ensures.cases (lit< tt)))

pub returns-clause-none : goal.returns-clause-none
returns-clause-none c =
    brackets_none c.args.part.now c.in_ok-strip_prefix.field-0.now c.strip_suffix.result
    (strip_prefix_char 40 c.args.part.now (Some c.in_ok-strip_prefix.field-0) c.in_ok-strip_prefix.ensures.cases (lit< tt))
    (strip_suffix_char 41 c.in_ok-strip_prefix.field-0.now c.strip_suffix.result c.strip_suffix.ensures.cases (lit< tt))
