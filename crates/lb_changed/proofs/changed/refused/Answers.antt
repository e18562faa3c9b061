use Rattle.std.proofs.Common.{refl, ap, ◌∙◌, []}
use Rattle.lb_cat.specs.Stamps.{bare, look, Kept}
use Rattle.lb_rows.specs.Lists.{without}
use Rattle.lb_changed.specs.Made.{is_touched}
use Rattle.lb_changed.proofs.Rows.{rows_stay}
use Rattle.lb_changed.proofs.changed.refused.Goals as goal

pub returns : goal.returns
returns c T = record {
  cat = ap bare c.in_ok-catalog.ensures;
  tables = ap (λ ks. without (is_touched ks) T) c.empty.ensures ∙ rows_stay [] T refl;
  touched = c.empty.ensures;
  version = tt;
  reply = refl;
  stamps = λ k _. ap (λ (K : Kept). look K k) c.in_ok-catalog.ensures;
}
