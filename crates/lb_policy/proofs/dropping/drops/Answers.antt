use Rattle.std.proofs.Common.{ℕ, ◌≡◌, false, ap, sym, ◌∙◌, List, ◌∷◌, [], ◌++◌, map}
use Rattle.std.specs.Prelude.{filter}
use Rattle.std.specs.List.{list_any}
use Rattle.lb_base.specs.declared.key.Key.{Key}
use Rattle.lb_base.specs.declared.key.Key.TheVariants as keys
use Rattle.lb_cat.specs.Catalog.{User, drop_policy}
use Rattle.lb_cat.specs.Holdings.{has_holding_of, without_holding}
use Rattle.lb_cat.specs.Keys.{has_key}
use Rattle.lb_cat.specs.Stamps.{Kept, bare, look}
use Rattle.lb_alter.specs.ChangeTable.{user_key}
use Rattle.lb_changed.specs.Made.{is_rows}
use Rattle.lb_first.proofs.Changing.{all_changed}
use Rattle.lb_policy.proofs.Dropped.{no_holding_lost, no_rows, policy_untouched}
use Rattle.lb_policy.proofs.dropping.drops.Goals as goal

pub returns : goal.returns
returns c T =
    let n : List ℕ = c.args.name.now in
    let K : Kept = c.args.catalog.now in
    let before : Kept = c.in_ok-changed.changed in
    let holders : List User = filter (has_holding_of n) (bare K).users in
    let touched : c.in_ok-touched.touched ≡ keys.Policy n ∷ map user_key holders =
    c.in_ok-touched.ensures ∙ ap (λ (ks : List Key). ks ++ map user_key holders) (c.in_ok-policy.ensures ∙ ap (λ m. keys.Policy m ∷ []) c.in_ok-copy.ensures) in
    let stamps : (k : Key) → has_key k (keys.Policy n ∷ map user_key holders) ≡ false → look c.drop_policy.new.self k ≡ look K k =
    λ k h. ap (λ (L : Kept). look L k) c.drop_policy.ensures.kept ∙ (c.stamps_follow_their_records.ensures before).drop_policy n k ∙ policy_untouched before n k (map user_key holders) h ∙ c.in_ok-changed.ensures.stamps k in
    let made = c.left.ensures K T (λ k h. stamps k (sym (ap (has_key k) touched) ∙ h)) (ap (list_any is_rows) touched ∙ no_rows holders) in
    record {
      cat = made.cat ∙ c.drop_policy.ensures.bare ∙ ap (drop_policy n) c.in_ok-changed.ensures.bare ∙ ap (λ us. record (drop_policy n (bare K)) { users = us }) (all_changed (has_holding_of n) (without_holding n) (no_holding_lost n) (bare K).users);
      tables = made.tables;
      touched = made.touched ∙ touched;
      version = made.version;
      reply = made.reply;
      stamps = λ k h. made.stamps k (ap (has_key k) touched ∙ h);
    }
