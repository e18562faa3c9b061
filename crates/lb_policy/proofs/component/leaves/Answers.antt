use Rattle.std.proofs.Common.{ap, ◌∙◌, [], ◌∷◌}
use Rattle.std.specs.List.{list_any}
use Rattle.lb_base.specs.declared.key.Key.TheVariants as keys
use Rattle.lb_cat.specs.Catalog.{put_component}
use Rattle.lb_cat.specs.Keys.{has_key}
use Rattle.lb_cat.specs.Stamps.{bare}
use Rattle.lb_changed.specs.Made.{is_rows}
use Rattle.lb_policy.proofs.component.leaves.Goals as goal

pub returns : goal.returns
returns c T =
    let touched = c.in_ok-touched.ensures ∙ ap (λ n. keys.Component n ∷ []) c.in_ok-copy.ensures in
    let made = c.done.ensures c.args.catalog.now T c.in_ok-changed.ensures.stamps (ap (list_any is_rows) touched) in
    record {
      cat = made.cat ∙ c.in_ok-changed.ensures.bare ∙ ap (λ r. put_component r (bare c.args.catalog.now)) c.in_ok-rec.ensures.bare;
      tables = made.tables;
      touched = made.touched ∙ touched;
      version = made.version;
      reply = made.reply;
      stamps = λ k h. made.stamps k (ap (has_key k) touched ∙ h);
    }
