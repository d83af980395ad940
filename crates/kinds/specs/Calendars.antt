-- The Gregorian and the Julian calendar from 1900 on. Assumes nothing.
use Rattle.std.specs.Prelude.{ℕ, ◌+◌, ◌-◌, ◌*◌, ◌%◌, Bool, cond, not, ◌&&◌, ◌||◌, List, [], ◌∷◌, map, ◌==◌, slice_index, sum, count_by, nat_le, if◌then◌else◌, Result, Ok, Err}
use Rattle.std.specs.List.{range_with_len}
use Rattle.kinds.specs.declared.calendar.Calendar.{Calendar}
use Rattle.kinds.specs.declared.calendar.Calendar.TheVariants.{Gregorian, Julian}
use Rattle.kinds.specs.declared.calendar.UnknownCalendar.{UnknownCalendar}

-- a year is a leap year where 4 divides it; a Gregorian one that 100 divides, only where 400 does
abbrev pub leap : Calendar → ℕ → Bool
leap Gregorian y = y % 4 == 0 && (not (y % 100 == 0) || y % 400 == 0)
leap Julian y = y % 4 == 0

-- how many of the k years from 1900 on are leap years
abbrev pub leaps : Calendar → ℕ → ℕ
leaps c k = count_by (leap c) (range_with_len 1900 k)

-- the day number of 1 January 1900
abbrev pub start : Calendar → ℕ
start Gregorian = 1
start Julian = 13

-- the day number of 1 January of a year: 365 days more for each year since 1900, and one for each leap year among them
abbrev pub new_year : Calendar → ℕ → ℕ
new_year c y = start c + 365 * (y - 1900) + leaps c (y - 1900)

-- the days of a month from 1 to 12, by whether the year is a leap year; no other month has any
abbrev pub month_length : Bool → ℕ → ℕ
month_length long m = slice_index (0 ∷ 31 ∷ cond long 29 28 ∷ 31 ∷ 30 ∷ 31 ∷ 30 ∷ 31 ∷ 31 ∷ 30 ∷ 31 ∷ 30 ∷ 31 ∷ []) m

-- the days of the months before a month, which begin with month 1
abbrev pub days_before : Bool → ℕ → ℕ
days_before long m = sum (map (month_length long) (range_with_len 1 (m - 1)))

-- the calendar is 0 or 1 in a file
abbrev pub calendar_byte : Calendar → ℕ
calendar_byte Gregorian = 0
calendar_byte Julian = 1

-- and back: 0 is Gregorian, any other number Julian (`calendar_from` and `day_shape` take 0 and 1 alone)
abbrev pub calendar_of : ℕ → Calendar
calendar_of b = cond (b == 0) Gregorian Julian

-- a byte as a calendar; a byte that is no calendar's is told as it is
abbrev pub calendar_from : ℕ → Result Calendar UnknownCalendar
calendar_from b = if nat_le b 1 then Ok (calendar_of b) else Err (record { 0 = b })

-- the day numbers of 1 January of the 300 years from 1900 on, which the private tables hold
abbrev pub first_days : Calendar → List ℕ
first_days c = map (new_year c) (range_with_len 1900 300)
