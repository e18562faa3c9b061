-- Places from one on and below another, as a chunk has them.
use Rattle.std.specs.Prelude.{ℕ, Bool, ◌&&◌, nat_le, nat_lt}
use Rattle.lb_rows.specs.declared.edit.ChangedRow.{ChangedRow}

-- the number is from `first` on and below `end`
abbrev pub is_within : ℕ → ℕ → ℕ → Bool
is_within first end n = nat_le first n && nat_lt n end

-- the change is of a row at such a place
abbrev pub is_change_within : ℕ → ℕ → ChangedRow → Bool
is_change_within first end change = is_within first end change.place
