-- What stands between two statements that are tried.
use Rattle.lb_alter.specs.Naming.{stored_rules}
use Rattle.lb_alter.specs.Sound.{IsSound}
use Rattle.lb_cat.specs.Stamps.{Kept, bare}

-- the catalogue, its stamps aside, is sound
abbrev pub IsSoundKept : Kept → Type 0
IsSoundKept K = IsSound stored_rules (bare K)
