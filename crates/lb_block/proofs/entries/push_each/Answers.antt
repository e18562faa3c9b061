use Rattle.std.proofs.Common.{◌≡◌, ◌++◌, ◌∷◌, [], string_bytes}
use Rattle.lb_block.specs.Parts.{behind_blanks}
use Rattle.lb_block.proofs.Blanks.{names_more}
use Rattle.lb_block.proofs.entries.push_each.Goals as goal

pub loop-name-preserved : goal.loop-name-preserved
loop-name-preserved c =
    let more : string_bytes c.push_word.new.out ≡ string_bytes c.loop-name.out ++ behind_blanks (c.name-item.result ∷ []) = rw (← c.as_str.ensures.same) c.in_ok-push_word.ensures in
    names_more _ _ _ c.args.names.now c.loop-name.name-index c.name-item.result c.loop-name-test.true c.name-item.is c.loop-name.invariant more
