use Rattle.std.proofs.Common.{string_bytes}
use Rattle.std.specs.Prelude.{encode_utf8}
use Rattle.std.specs.Str.Iter.{chars_rest}
use Rattle.lb_page.proofs.Doubled.{one_char}
use Rattle.lb_page.proofs.page.push_doubled.Goals as goal

pub loop-c-preserved : goal.loop-c-preserved
loop-c-preserved c =
    one_char (string_bytes c.loop-c.out) (encode_utf8 c.in-Some.c) (chars_rest c.next.new.self) _ (chars_rest c.loop-c.c-iterator) _ c.loop-c.invariant c.in-Some.ensures.steps.0 c.in_ok-push_char.ensures
