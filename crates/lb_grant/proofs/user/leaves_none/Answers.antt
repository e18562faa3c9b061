use Rattle.std.proofs.Common.{ap, ◌∙◌, [], ◌∷◌}
use Rattle.std.specs.List.{list_any}
use Rattle.lb_base.specs.declared.key.Key.TheVariants as keys
use Rattle.lb_cat.specs.Keys.{has_key}
use Rattle.lb_cat.specs.Stamps.{Kept, bare, look}
use Rattle.lb_changed.specs.Made.{is_rows}
use Rattle.lb_grant.proofs.user.leaves_none.Goals as goal

pub returns : goal.returns
returns c T =
    let touched = c.in_ok-touched.ensures ∙ ap (λ n. keys.User n ∷ []) c.in_ok-copy.ensures in
    let made = c.done.ensures c.args.catalog.now T (λ k. ap (λ (K : Kept). look K k) c.in_ok-same.ensures) (ap (list_any is_rows) touched) in
    record {
      cat = made.cat ∙ ap bare c.in_ok-same.ensures;
      tables = made.tables;
      touched = made.touched ∙ touched;
      version = made.version;
      reply = made.reply;
      stamps = λ k h. made.stamps k (ap (has_key k) touched ∙ h);
    }
