-- Days: their range as numbers, their form yyyy-mm-dd, and their parts.
use Rattle.std.specs.Prelude.{ℕ, ◌+◌, ◌*◌, ◌-◌, Bool, ◌&&◌, ◌==◌, List, length, slice_index, nat_le, Option, Some, None, if◌then◌else◌, ℤ, pos, negsuc, ◌≤ℤ◌}
use Rattle.std.specs.Char.{is_ascii_digit}
use Rattle.jiff_core.specs.Calendar.{days_in_month, days_from_civil}

-- a day in days since 1970-01-01, from 0001-01-01, day -719162, to 9999-12-31
abbrev pub IsDay : ℤ → Type 0
IsDay day = (negsuc 719_161 ≤ℤ day) × (day ≤ℤ pos 2_932_896)

-- four digits, `-`, two digits, `-`, two digits
abbrev pub is_written_day : List ℕ → Bool
is_written_day text =
    (length text == 10)
    && is_ascii_digit (slice_index text 0) && is_ascii_digit (slice_index text 1) && is_ascii_digit (slice_index text 2) && is_ascii_digit (slice_index text 3)
    && (slice_index text 4 == 45) && is_ascii_digit (slice_index text 5) && is_ascii_digit (slice_index text 6)
    && (slice_index text 7 == 45) && is_ascii_digit (slice_index text 8) && is_ascii_digit (slice_index text 9)

-- the number that the two digits from a place on spell
abbrev pub two_digits : List ℕ → ℕ → ℕ
two_digits text at = (slice_index text at - 48) * 10 + (slice_index text (at + 1) - 48)

-- the year that a written day begins with
abbrev pub year_in : List ℕ → ℕ
year_in text = two_digits text 0 * 100 + two_digits text 2

-- the calendar has this day, in the years from 1 to 9999
abbrev pub is_true_day : ℕ → ℕ → ℕ → Bool
is_true_day y m d = nat_le 1 y && nat_le y 9999 && nat_le 1 m && nat_le m 12 && nat_le 1 d && nat_le d (days_in_month (pos y) m)

-- the number of the day that the text writes, in days since 1970-01-01
unfoldable pub day_of : List ℕ → Option ℤ
day_of text =
    if is_written_day text && is_true_day (year_in text) (two_digits text 5) (two_digits text 8)
    then Some (days_from_civil (pos (year_in text)) (two_digits text 5) (two_digits text 8))
    else None
