use Rattle.std.proofs.Common.{ℕ, ap, refl, ◌∙◌, cond, List}
use Rattle.std.specs.Prelude.{filter}
use Rattle.lb_cat.specs.Catalog.{User, drop_table}
use Rattle.lb_cat.specs.Privileges.{has_grant_on}
use Rattle.lb_cat.specs.Stamps.{Kept, bare, look}
use Rattle.lb_rows.specs.Lists.{without}
use Rattle.lb_changed.specs.Made.{is_touched}
use Rattle.lb_drop.proofs.Gone.{rows_gone, untouched}
use Rattle.lb_drop.proofs.Users.{all_without}
use Rattle.lb_drop.proofs.dropping.dropped.Goals as goal

pub returns : goal.returns
returns c T =
    let K : Kept = c.args.catalog.now in
    let n : List ℕ = c.args.name.now in
    let holders : List User = filter (has_grant_on n) (bare K).users in
    record {
      cat = c.drop_table.ensures.bare ∙ ap (drop_table n) c.in_ok-changed.ensures.bare
          ∙ ap (λ (us : List User). record (drop_table n (bare K)) { users = us }) (all_without n (bare K).users);
      tables = ap (λ ks. without (is_touched ks) T) c.in_ok-touched.ensures ∙ rows_gone n holders T;
      touched = c.in_ok-touched.ensures;
      version = tt;
      reply = refl;
      stamps = λ k h. ap (λ (L : Kept). look L k) c.drop_table.ensures.kept
          ∙ (c.stamps_follow_their_records.ensures c.in_ok-changed.changed).drop_table n k
          ∙ ap (λ b. cond b 0 (look c.in_ok-changed.changed k)) (untouched n holders k h)
          ∙ c.in_ok-changed.ensures.stamps k;
    }
