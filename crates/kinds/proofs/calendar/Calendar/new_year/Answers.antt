use Rattle.std.proofs.Common.{ℕ, ◌-◌, ◌<◌, ◌≤◌, arith}
use Rattle.std.proofs.lemmas.List.FromFn.{get_or-map-range_with_len, length-range_with_len}
use Rattle.std.proofs.lemmas.List.Sums.{count_by-le-length}
use Rattle.std.specs.List.{range_with_len}
use Rattle.kinds.specs.declared.calendar.Calendar.{Calendar}
use Rattle.kinds.specs.Calendars.{leap, new_year}
use Rattle.kinds.proofs.calendar.Calendar.new_year.Goals as goal

year_small : (c : Calendar) (y : ℕ) → y ≤ 2199 → new_year c y < 120000
year_small c y h = grind (arith, count_by-le-length (leap c) (range_with_len 1900 (y - 1900)), length-range_with_len)

pub returns : goal.returns
returns c =
    let is = get_or-map-range_with_len (new_year c.args.self) 1900 300 c.from.result c.args.year 0 (omega arith) (omega arith) in
    record { is = rw c.first_days.ensures is; small = rw (c.first_days.ensures, is) (year_small c.args.self c.args.year c.requires.last) }
