-- A day is known by its payload, and days that agree are the same: lemmas that the code's ghost members cite, and that no reader has to believe. Assumes nothing.
use Rattle.std.specs.Prelude.{◌≡◌, ◌/◌, ◌%◌, true, refl}
use Rattle.std.proofs.Common.{sym, ap, ◌∙◌, arith, rules}
use Rattle.std.specs.Cmp.Rules.{comparing}
use Rattle.kinds.specs.declared.calendar.Calendar.{Calendar}
use Rattle.kinds.specs.declared.calendar.Calendar.TheVariants.{Gregorian, Julian}
use Rattle.kinds.specs.declared.day.Day.{Day}
use Rattle.kinds.specs.Calendars.{calendar_byte, calendar_of}
use Rattle.kinds.specs.Days.{year_of, month_of, date_of, day_number, day_bytes, same_day, SameDate}

pub calendar_back : (c : Calendar) → calendar_of (calendar_byte c) ≡ c
calendar_back Gregorian = refl
calendar_back Julian = refl

pub day_known : (x y : Day) → day_bytes x ≡ day_bytes y → SameDate x y
day_known x y e =
    let c : calendar_byte x.calendar ≡ calendar_byte y.calendar = cc in
    let low : year_of x % 256 ≡ year_of y % 256 = cc in
    let high : year_of x / 256 ≡ year_of y / 256 = cc in
    record { calendar = sym (calendar_back x.calendar) ∙ ap calendar_of c ∙ calendar_back y.calendar; year = omega arith; month = cc; date = cc }

pub day_kept : (x y : Day) → SameDate x y → same_day x y ≡ true
day_kept x y s =
    let calendar : x.calendar ≡ y.calendar = s.calendar in
    let year : year_of x ≡ year_of y = s.year in
    let month : month_of x ≡ month_of y = s.month in
    let date : date_of x ≡ date_of y = s.date in
    let number : day_number x ≡ day_number y = cc in
    Prim.search (comparing, rules)
