use Rattle.std.proofs.Common.{◌≡◌, ◌∙◌, ◌∷◌, sym, Some, None, eqb}
use Rattle.std.specs.List.{slice_split}
use Rattle.std.proofs.lemmas.List.Splits.{slice_split_first}
use Rattle.std.proofs.lemmas.Str.Pattern.{split_once_first}
use Rattle.lb_label.proofs.TextLemmas.{none_to_cut}
use Rattle.lb_label.proofs.text.cut.Goals as goal

pub returns-in-Some-clause-parts : goal.returns-in-Some-clause-parts
returns-in-Some-clause-parts c =
    let found = split_once_first c.args.separator c.args.text.now (Some (c.in-Some.before, c.in-Some.after)) c.in-Some.ensures.cases c.requires in
    slice_split_first (λ b. eqb b c.args.separator) c.args.text.now 0 found.0 ∙ λ i. (sym found.1) i ∷ slice_split (λ b. eqb b c.args.separator) ((sym found.2) i)

pub returns-in-None-clause-parts : goal.returns-in-None-clause-parts
returns-in-None-clause-parts c = none_to_cut c.args.separator c.args.text.now (split_once_first c.args.separator c.args.text.now None c.in-None.ensures.cases c.requires)
