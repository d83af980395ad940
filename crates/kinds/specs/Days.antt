-- Days of two calendars, from 1900 to 2199. Assumes nothing.
use Rattle.std.specs.Prelude.{◌≡◌, ℕ, ◌+◌, ◌-◌, Bool, ◌&&◌, List, [], ◌∷◌, ◌++◌, ◌==◌, nat_le, slice_index}
use Rattle.kinds.specs.declared.calendar.Calendar.{Calendar}
use Rattle.kinds.specs.declared.calendar.Calendar.TheVariants.{Gregorian}
use Rattle.kinds.specs.declared.day.Day.{Day}
use Rattle.kinds.specs.Calendars.{leap, new_year, month_length, days_before, calendar_byte, calendar_of}
use Rattle.kinds.specs.Payloads.{Shape, word, two_bytes}
use Rattle.kinds.specs.Ranges.{within}

-- the year that the fields stand for, from 1900 to 2199
abbrev pub year_of : Day → ℕ
year_of d = 1899 + within 300 (d.year - 1899)

-- the month, from 1 to 12
abbrev pub month_of : Day → ℕ
month_of d = within 12 d.month

-- the day of the month, one that the month has
abbrev pub date_of : Day → ℕ
date_of d = within (month_length (leap d.calendar (year_of d)) (month_of d)) d.date

-- 1 January of the year, and the days passed since
abbrev pub day_number : Day → ℕ
day_number d = new_year d.calendar (year_of d) + days_before (leap d.calendar (year_of d)) (month_of d) + (date_of d - 1)

-- whether two dates tell one day, by its number
abbrev pub same_day : Day → Day → Bool
same_day d e = day_number d == day_number e

-- a day that exists, in the range
abbrev pub exists : Calendar → ℕ → ℕ → ℕ → Bool
exists c y m d = (nat_le 1900 y && nat_le y 2199) && ((nat_le 1 m && nat_le m 12) && (nat_le 1 d && nat_le d (month_length (leap c y) m)))

-- a payload of five bytes: the calendar, the year in two (the low one first), the month and the day
abbrev pub day_bytes : Day → List ℕ
day_bytes d = calendar_byte d.calendar ∷ two_bytes (year_of d) ++ (month_of d ∷ date_of d ∷ [])

-- the day that a payload is read as
abbrev pub day_of : List ℕ → Day
day_of p = record { calendar = calendar_of (slice_index p 0); year = word (slice_index p 1) (slice_index p 2); month = slice_index p 3; date = slice_index p 4 }

-- a payload is a day's when its calendar is 0 or 1 and the day exists
abbrev pub day_shape : Shape
day_shape = record { number = 2; least = 5; most = 5; proper = λ p. nat_le (slice_index p 0) 1 && exists (calendar_of (slice_index p 0)) (word (slice_index p 1) (slice_index p 2)) (slice_index p 3) (slice_index p 4) }

-- 1 January 1900
abbrev pub first_day : Day
first_day = record { calendar = Gregorian; year = 1900; month = 1; date = 1 }

-- two days with the same calendar, year, month and day of the month
pub record SameDate (d e : Day) : Type 0 where
  pub calendar : d.calendar ≡ e.calendar
  pub year : year_of d ≡ year_of e
  pub month : month_of d ≡ month_of e
  pub date : date_of d ≡ date_of e
