use Rattle.std.proofs.Common.{◌∙◌, sym, ap, Some}
use Rattle.std.specs.Prelude.{find, option_map}
use Rattle.std.specs.Option.{option_copied}
use Rattle.lb_rows.specs.Kept.{is_of, versions_in}
use Rattle.lb_rows.proofs.There.{Places, version_found, version_in}
use Rattle.lb_rows.proofs.snap.Snap.rows.Goals as goal

pub returns-in-Some : goal.returns-in-Some
returns-in-Some c =
    let kept = sym (ap option_copied c.in-Some.is) ∙ c.found.ensures ∙ ap (λ (ps : Places). find (is_of c.args.table.now) (versions_in ps)) c.as_slice.ensures.value in
    ap Some c.deref.ensures ∙ ap (option_map version_in) kept ∙ sym (version_found c.args.table.now (versions_in c.self.inside.versions.items) c.args.self.now c.self.view_is)

pub returns-in-None : goal.returns-in-None
returns-in-None c =
    let kept = sym (ap option_copied c.in-None.is) ∙ c.found.ensures ∙ ap (λ (ps : Places). find (is_of c.args.table.now) (versions_in ps)) c.as_slice.ensures.value in
    ap (option_map version_in) kept ∙ sym (version_found c.args.table.now (versions_in c.self.inside.versions.items) c.args.self.now c.self.view_is)
