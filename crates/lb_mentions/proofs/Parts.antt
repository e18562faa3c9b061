-- Lists of one mention.
use Rattle.std.proofs.Common.{◌≡◌, sym, Bool, false, ◌||◌}
use Rattle.std.proofs.Math.Bool.{or-false}

pub one_is : (b : Bool) → b ≡ (b || false)
one_is b = sym (or-false b)
