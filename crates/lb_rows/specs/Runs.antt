-- What a scan of a table gets at a time.
use Rattle.std.specs.Prelude.{◌≡◌, ℕ, ◌≤◌, ◌<◌, List, drop, length, take}
use Rattle.lb_base.specs.declared.value.Value.{Value}

-- a run: some of the rows from a place on, one after another, at most 256, and at least one where there is any
pub record IsRun (rows : List (List Value)) (place : ℕ) (run : List (List Value)) : Type 0 where
  pub begins : take (length run) (drop place rows) ≡ run
  pub few : length run ≤ 256
  pub some : place < length rows → 0 < length run
