-- Three-valued logic: SQL's AND, OR and NOT with unknown.
use Rattle.std.specs.Prelude.{Bool, true, false}
use Rattle.lb_base.specs.declared.truth.Truth.{Truth}
use Rattle.lb_base.specs.declared.truth.Truth.TheVariants.{True, False, Unknown}

-- it is true
abbrev pub is_true : Truth → Bool
is_true True = true
is_true False = false
is_true Unknown = false

-- it is false
abbrev pub is_false : Truth → Bool
is_false True = false
is_false False = true
is_false Unknown = false

-- NOT
abbrev pub not_of : Truth → Truth
not_of True = False
not_of False = True
not_of Unknown = Unknown

-- AND: false where one is false, true where both are true
abbrev pub and_of : Truth → Truth → Truth
and_of False y = False
and_of True y = y
and_of Unknown False = False
and_of Unknown True = Unknown
and_of Unknown Unknown = Unknown

-- OR: true where one is true, false where both are false
abbrev pub or_of : Truth → Truth → Truth
or_of True y = True
or_of False y = y
or_of Unknown True = True
or_of Unknown False = Unknown
or_of Unknown Unknown = Unknown
