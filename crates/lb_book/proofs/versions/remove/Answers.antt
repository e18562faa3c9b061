use Rattle.std.proofs.Common.{◌≡◌, sym, ap, ◌∙◌, ℕ, suc, ◌+◌, ◌∷◌, drop, List, arith}
use Rattle.std.proofs.Math.Seq.{drop-cons}
use Rattle.std.proofs.Math.ListN.{drop_of_length-le, get_or}
use Rattle.lb_base.specs.declared.key.Key.{Key}
use Rattle.lb_rows.specs.Lists.{without}
use Rattle.lb_book.specs.Leaving.{is_touched_in}
use Rattle.lb_book.proofs.Gone.{gone_more, gone_none}
use Rattle.lb_book.proofs.versions.remove.Goals as goal

pub loop-key-preserved : goal.loop-key-preserved
loop-key-preserved c =
    let ks : List Key = c.args.touched.now in
    let rest : List Key = drop (c.loop-key.key-index + 1) ks in
    let one : suc c.loop-key.key-index ≡ c.loop-key.key-index + 1 = omega arith in
    let next : drop c.loop-key.key-index ks ≡ c.key-item.result ∷ rest =
    drop-cons ks c.loop-key.key-index c.key-item.result c.loop-key-test.true ∙ ap (λ (j : ℕ). get_or ks c.loop-key.key-index c.key-item.result ∷ drop j ks) one ∙ ap (λ (k : Key). k ∷ rest) (sym c.key-item.is) in
    ap (without (is_touched_in rest)) c.remove_under.ensures
    ∙ gone_more c.key-item.result rest c.loop-key.tables
    ∙ ap (λ (js : List Key). without (is_touched_in js) c.loop-key.tables) (sym next)
    ∙ c.loop-key.invariant

pub returns : goal.returns
returns c =
    let ks : List Key = c.args.touched.now in
    sym (gone_none c.loop-key.tables)
    ∙ ap (λ (js : List Key). without (is_touched_in js) c.loop-key.tables) (sym (drop_of_length-le ks (omega (arith, c.loop-key-test.false))))
    ∙ c.loop-key.invariant
