-- YEAR, MONTH and DAY of a day number.
use Rattle.std.specs.Prelude.{ℕ, length, filter, ℤ, pos, ◌+ℤ◌, ◌-ℤ◌, int_le}
use Rattle.std.specs.List.{range_with_len}
use Rattle.jiff_core.specs.Calendar.{days_from_civil}
use Rattle.lb_base.specs.declared.value.Value.{Value}
use Rattle.lb_base.specs.declared.value.Value.TheVariants.{Null, Int, Date}

-- how many of the numbers from 1 to n have their first day on this day or before it
abbrev pub begun_by : ℤ → (ℕ → ℤ) → ℕ → ℕ
begun_by day first n = length (filter (λ k. int_le (first k) day) (range_with_len 1 n))

-- the year: of the years from 1 to 9999 so many have begun
abbrev pub year_of : ℤ → ℕ
year_of day = begun_by day (λ y. days_from_civil (pos y) 1 1) 9999

-- the month: of the months of its year so many have begun
abbrev pub month_of : ℤ → ℕ
month_of day = begun_by day (λ m. days_from_civil (pos (year_of day)) m 1) 12

-- the day of its month, from 1
abbrev pub day_in_month : ℤ → ℤ
day_in_month day = (day -ℤ days_from_civil (pos (year_of day)) (month_of day) 1) +ℤ pos 1

-- the functions on values; null gives null
abbrev pub year_value : Value → Value
year_value (Date d) = Int (pos (year_of d))
year_value _ = Null

-- MONTH of a value
abbrev pub month_value : Value → Value
month_value (Date d) = Int (pos (month_of d))
month_value _ = Null

-- DAY of a value
abbrev pub day_value : Value → Value
day_value (Date d) = Int (day_in_month d)
day_value _ = Null
