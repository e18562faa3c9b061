use Rattle.std.proofs.Common.{ℕ, ◌≡◌, ap, sym, ◌∙◌, List, [], ◌∷◌}
use Rattle.std.specs.List.{list_any}
use Rattle.lb_base.specs.declared.key.Key.TheVariants as keys
use Rattle.lb_cat.specs.Catalog.{drop_component}
use Rattle.lb_cat.specs.Keys.{has_key}
use Rattle.lb_cat.specs.Stamps.{Kept, bare, look, without_kept_component}
use Rattle.lb_changed.specs.Made.{is_rows}
use Rattle.lb_policy.proofs.Dropped.{component_untouched}
use Rattle.lb_policy.proofs.component.drops.Goals as goal

pub returns : goal.returns
returns c T =
    let n : List ℕ = c.args.name.now in
    let K : Kept = c.args.catalog.now in
    let touched = c.in_ok-touched.ensures ∙ ap (λ m. keys.Component m ∷ []) c.in_ok-copy.ensures in
    let kept : c.drop_component.new.self ≡ without_kept_component n K = c.drop_component.ensures.kept ∙ ap (without_kept_component n) c.in_ok-changed.ensures in
    let made = c.left.ensures K T (λ k h. ap (λ (L : Kept). look L k) kept ∙ (c.stamps_follow_their_records.ensures K).drop_component n k ∙ component_untouched K n k [] (sym (ap (has_key k) touched) ∙ h)) (ap (list_any is_rows) touched) in
    record {
      cat = made.cat ∙ c.drop_component.ensures.bare ∙ ap (λ (L : Kept). drop_component n (bare L)) c.in_ok-changed.ensures;
      tables = made.tables;
      touched = made.touched ∙ touched;
      version = made.version;
      reply = made.reply;
      stamps = λ k h. made.stamps k (ap (has_key k) touched ∙ h);
    }
