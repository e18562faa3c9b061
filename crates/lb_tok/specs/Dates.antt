-- The text of a day, yyyy-mm-dd. Canonical texts and replies print it.
use Rattle.std.specs.Prelude.{ℕ, zero, suc, ◌+◌, ◌/◌, ◌%◌, Bool, not, ◌&&◌, List, [], ◌∷◌, ◌++◌, if◌then◌else◌, ℤ, pos, negsuc, int_lt}
use Rattle.jiff_core.specs.Calendar.{days_from_civil}

-- the greatest number from 1 to n that passes the test, and 0 where none does
unfoldable pub last_to : ℕ → (ℕ → Bool) → ℕ
last_to zero p = 0
last_to (suc n) p = if p (suc n) then suc n else last_to n p

-- the first day does not come before the second
abbrev pub has_begun : ℤ → ℤ → Bool
has_begun day first = not (int_lt day first)

-- the last year that has begun on the day with this number, of the years from 1 to 9999
unfoldable pub year_on : ℤ → ℕ
year_on day = last_to 9999 (λ y. has_begun day (days_from_civil (pos y) 1 1))

-- the last month of that year that has begun
unfoldable pub month_on : ℤ → ℕ
month_on day = last_to 12 (λ m. has_begun day (days_from_civil (pos (year_on day)) m 1))

-- the last day of that month that has begun
unfoldable pub day_on : ℤ → ℕ
day_on day = last_to 31 (λ d. has_begun day (days_from_civil (pos (year_on day)) (month_on day) d))

-- the last two decimal digits
abbrev pub two : ℕ → List ℕ
two n = (48 + n / 10 % 10) ∷ (48 + n % 10) ∷ []

-- yyyy-mm-dd
abbrev pub day_text : ℕ → ℕ → ℕ → List ℕ
day_text y m d = two (y / 100) ++ (two y ++ 45 ∷ (two m ++ 45 ∷ two d))

-- a day of the years from 1 to 9999
abbrev pub is_day : ℤ → Bool
is_day day = has_begun day (negsuc 719161) && has_begun (pos 2932896) day

-- how a day is written; a number that is no day gives no text
unfoldable pub date_text : ℤ → List ℕ
date_text day = if is_day day then day_text (year_on day) (month_on day) (day_on day) else []
