use Rattle.std.proofs.Common.{◌≡◌, ap, sym, ◌∙◌}
use Rattle.std.specs.Arc.{arc_value}
use Rattle.lb_base.specs.declared.key.Key.TheVariants as keys
use Rattle.lb_cat.specs.declared.catalog.UserRec.{UserRec}
use Rattle.lb_cat.specs.Catalog.{User, put_user}
use Rattle.lb_cat.specs.Stamps.{Kept, bare, bare_user, look}
use Rattle.lb_first.proofs.Changing.{changed_next, stamp_is, unchanged_next}
use Rattle.lb_first.proofs.users.change_at.Goals as goal

pub replace-requires : goal.replace-requires
replace-requires g c =
    let K : Kept = c.args.catalog.now in
    let old : Kept = c.args.changed.now in
    let u : UserRec = arc_value c.in-Some.user.now in
    let name : c.in_ok-rec-in-Some.rec.name ≡ u.name =
    ap (λ (x : User). x.name) c.in_ok-rec-in-Some.ensures.bare ∙ c.in_ok-rec-in-Some.ensures.names (bare_user c.deref.result.now) ∙ ap (λ (x : UserRec). x.name) c.deref.ensures in
    c.in_ok-rec-in-Some.ensures.stamp
    ∙ ap (λ (x : UserRec). x.stamp) c.deref.ensures
    ∙ stamp_is K c.args.place u c.requires.different c.in-Some.ensures.kept
    ∙ sym (c.requires.stamps (keys.User u.name))
    ∙ ap (λ n. look old (keys.User n)) (sym name)

pub returns-in_ok-replace-in-Some-clause-bare : goal.returns-in_ok-replace-in-Some-clause-bare
returns-in_ok-replace-in-Some-clause-bare g c =
    let test = g.C.UserTest.test c.args.change.now in
    let change = g.C.UserChange.change c.args.change.now in
    let K : Kept = c.args.catalog.now in
    let u : User = bare_user (arc_value c.in-Some.user.now) in
    let rec : bare_user c.in_ok-rec-in-Some.rec ≡ change u = c.in_ok-rec-in-Some.ensures.bare ∙ ap (λ (x : UserRec). change (bare_user x)) c.deref.ensures in
    c.in_ok-replace-in-Some.ensures.bare
    ∙ (λ i. put_user (rec i) (c.requires.so_far i))
    ∙ ap (λ us. record (bare K) { users = us }) (changed_next test change c.in_ok-rec-in-Some.ensures.names (bare K).users c.args.place u c.requires.different c.in-Some.ensures.bare)

pub returns-in-None-clause-bare : goal.returns-in-None-clause-bare
returns-in-None-clause-bare g c =
    let K : Kept = c.args.catalog.now in
    c.requires.so_far
    ∙ ap (λ us. record (bare K) { users = us }) (unchanged_next (g.C.UserTest.test c.args.change.now) (g.C.UserChange.change c.args.change.now) (bare K).users c.args.place c.in-None.ensures.bare)
