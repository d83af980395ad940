-- Days and their payloads. Assumes nothing.
use Rattle.std.proofs.Common.{◌≡◌, ℕ, ◌+◌, ◌-◌, ◌/◌, ◌%◌, ◌<◌, ◌≤◌, Bool, true, false, List, [], ◌∷◌, length, get_or, Some, IfSome, arith}
use Rattle.std.proofs.lemmas.Bool.Decides.{nat_tests}
use Rattle.std.proofs.lemmas.Grind.{common_steps, elements}
use Rattle.std.specs.Bool.{then_some}
use Rattle.std.specs.Result.{result_ok}
use Rattle.kinds.specs.declared.calendar.Calendar.{Calendar}
use Rattle.kinds.specs.declared.day.Day.{Day}
use Rattle.kinds.specs.Agreement.{calendar_back}
use Rattle.kinds.specs.Calendars.{leap, month_length, calendar_byte, calendar_from}
use Rattle.kinds.specs.Days.{year_of, month_of, exists, day_bytes, day_shape}
use Rattle.kinds.specs.Payloads.{word, valid}
use Rattle.kinds.specs.Ranges.{within}

pub month_some : (b : Bool) (m : ℕ) → 1 ≤ m → m ≤ 12 → 0 < month_length b m
month_some true m low high = grind (arith, nat_tests)
month_some false m low high = grind (arith, nat_tests)

-- what is stored stands for a day, so its payload is valid
pub day_valid : (d : Day) → valid day_shape (day_bytes d) ≡ true
day_valid d =
    let y = year_of d in
    let year : word (y % 256) (y / 256) ≡ y = omega arith in
    let some = month_some (leap d.calendar y) (month_of d) (omega arith) (omega arith) in
    rw (year, calendar_back d.calendar) (grind (arith, nat_tests))

-- a number of the range stands for itself
pub within_same : (k n : ℕ) → 1 ≤ n → n ≤ k → within k n ≡ n
within_same k n low high = grind (arith, common_steps)

byte_back : (b : ℕ) (k : Calendar) → Some k ≡ result_ok (calendar_from b) → calendar_byte k ≡ b
byte_back b k e = grind (arith, nat_tests)

five_bytes : (p : List ℕ) → length p ≡ 5 → get_or p 0 0 ∷ get_or p 1 0 ∷ get_or p 2 0 ∷ get_or p 3 0 ∷ get_or p 4 0 ∷ [] ≡ p
five_bytes p e = grind (arith, elements)

-- the payload of a day is the bytes that it was read from
pub day_back : (p : List ℕ) (k : Calendar) (y : ℕ) (b : Bool) → length p ≡ 5 → get_or p 1 0 < 256 → Some k ≡ result_ok (calendar_from (get_or p 0 0)) → y ≡ word (get_or p 1 0) (get_or p 2 0) → b ≡ exists k y (get_or p 3 0) (get_or p 4 0) → IfSome (then_some b (record { calendar = k; year = y; month = get_or p 3 0; date = get_or p 4 0 })) (λ d. day_bytes d ≡ p)
day_back p k y false five small ek ey e = tt
day_back p k y true five small ek ey e =
    let m = get_or p 3 0 in
    let d = get_or p 4 0 in
    let byte = byte_back (get_or p 0 0) k ek in
    let year : 1899 + within 300 (y - 1899) ≡ y = grind (arith, nat_tests) in
    let month : within 12 m ≡ m = grind (arith, nat_tests) in
    let date : within (month_length (leap k y) m) d ≡ d = within_same _ d (grind (arith, nat_tests)) (grind (arith, nat_tests)) in
    let low : y % 256 ≡ get_or p 1 0 = omega arith in
    let high : y / 256 ≡ get_or p 2 0 = omega arith in
    rw (year, month, date, byte, low, high) (five_bytes p five)
