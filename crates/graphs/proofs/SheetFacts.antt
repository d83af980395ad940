-- The days of a sheet, month by month. Assumes nothing.
use Rattle.std.proofs.Common.{◌≡◌, ℕ, zero, suc, ◌+◌, ◌-◌, ◌*◌, ◌<◌, ◌≤◌, true, false, Bool, cond, map, length, get_or, take, Some, None, Option, List, ◌++◌, ◌∷◌, ◌&&◌, ◌==◌, leb, ltb, arith, ap, sym, ◌∙◌}
use Rattle.std.proofs.lemmas.Bool.Decides.{nat_tests}
use Rattle.std.proofs.lemmas.Option.{slice_get-get_or}
use Rattle.std.proofs.lemmas.List.{map-id, length-append}
use Rattle.std.proofs.lemmas.List.FromFn.{length-range_with_len, get_or-range_with_len, length-map-range_with_len, get_or-map-range_with_len, take-map-range_with_len, sum_by-map-range_with_len_more}
use Rattle.std.proofs.lemmas.List.Folds.{length-flat_map-take}
use Rattle.std.proofs.lemmas.List.Concat.{length-flat_map, get_or-flat_map}
use Rattle.std.proofs.lemmas.List.Sums.{sum-map, sum_by-le}
use Rattle.std.specs.List.{position, sum, flat_map, range_with_len}
use Rattle.std.specs.Option.{option_map}
use Rattle.kinds.specs.Calendars.{month_length, leap}
use Rattle.kinds.specs.declared.calendar.Calendar.TheVariants.{Gregorian}
use Rattle.graphs.specs.Graphs.{value_at}
use Rattle.graphs.specs.Sheets.{SheetDay, days_of, month_days, sheet_days, entry_of}

-- no month has more than 31 days
pub days_of_few : (y m : ℕ) → days_of y m ≤ 31
days_of_few y m = few (leap Gregorian y) m
  where
    few : (b : Bool) (m : ℕ) → month_length b m ≤ 31
    few true m = grind (arith, nat_tests)
    few false m = grind (arith, nat_tests)

-- so many months have as many days as they have together, at most 31 each, and one month more adds its own
pub length-sheet_days : (y m n : ℕ) → length (sheet_days y m n) ≡ sum (map (days_of y) (range_with_len m n))
length-sheet_days y m n = sym (simp (sum-map, length-flat_map, length-map-range_with_len))

pub length-sheet_days_few : (y m n : ℕ) → length (sheet_days y m n) ≤ 31 * n
length-sheet_days_few y m n = omega (arith, length-sheet_days y m n, sum-map (days_of y) (range_with_len m n), sum_by-le (days_of y) 31 (range_with_len m n) (λ k d h. days_of_few y _), length-range_with_len m n)

pub length-sheet_days_more : (y m k : ℕ) → m ≤ k → length (sheet_days y m (k + 1 - m)) ≡ length (sheet_days y m (k - m)) + days_of y k
length-sheet_days_more y m k h =
    let more : k + 1 - m ≡ k - m + 1 = omega arith in
    rw more (omega (arith, length-sheet_days y m (k - m), length-sheet_days y m (k - m + 1), sum_by-map-range_with_len_more (λ x. x) (days_of y) m (k - m) k (omega arith)))

-- the day of an entry that lies within a month, so many days behind the months before it
pub day_within : (y m c k left entry : ℕ) → m ≤ k → k < m + c → length (sheet_days y m (k - m)) + left ≡ entry → left < days_of y k → value_at (sheet_days y m c) entry ≡ Some (k, left + 1)
day_within y m c k left entry low high is fits =
    let f : ℕ → List SheetDay = λ k. month_days k 1 (days_of y k) in
    let xs : List ℕ = range_with_len m c in
    let i : ℕ = k - m in
    let before : take i xs ≡ range_with_len m i = simp map-id at (take-map-range_with_len (λ (x : ℕ). x) m c i (omega arith)) in
    let month : get_or xs i 0 ≡ k = get_or-range_with_len m c i 0 (omega arith) ∙ omega arith in
    let inside : i < length xs = omega (arith, length-range_with_len m c) in
    let here : left < length (f (get_or xs i 0)) = rw (month, length-map-range_with_len) fits in
    rw (← is, ← before)
    (slice_get-get_or (sheet_days y m c) (length (flat_map f (take i xs)) + left) (0, 0) (omega (arith, length-flat_map-take f xs i 0 inside))
    ∙ ap Some (get_or-flat_map f xs i left 0 (0, 0) inside here ∙ ap (λ k. get_or (f k) left (0, 0)) month ∙ get_or-map-range_with_len (λ d. (k, d)) 1 (days_of y k) left (left + 1) (0, 0) fits (omega arith)))

-- the first place that passes, of a list with one element more
position-cons : {X : Type 0} (p : X → Bool) (x : X) (xs : List X) → position p (x ∷ xs) ≡ cond (p x) (Some 0) (option_map suc (position p xs))
position-cons p x xs = grind (arith, nat_tests)

-- where a day stands: among a stretch of days of one month, or behind them
stretch_step : (m a n k d : ℕ) (o : Option ℕ) → cond (m == k && a == d) (Some 0) (option_map suc (cond (m == k && (leb (a + 1) d && ltb d (a + 1 + n))) (Some (d - (a + 1))) (option_map (λ j. n + j) o))) ≡ cond (m == k && (leb a d && ltb d (a + suc n))) (Some (d - a)) (option_map (λ j. suc n + j) o)
stretch_step m a n k d None = grind (arith, nat_tests)
stretch_step m a n k d (Some i) = grind (arith, nat_tests)

no_stretch : (m a k d : ℕ) (o : Option ℕ) → o ≡ cond (m == k && (leb a d && ltb d (a + 0))) (Some (d - a)) (option_map (λ j. 0 + j) o)
no_stretch m a k d None = grind (arith, nat_tests)
no_stretch m a k d (Some i) = grind (arith, nat_tests)

entry_of_stretch : (m a n k d : ℕ) (rest : List SheetDay) → entry_of (month_days m a n ++ rest) (k, d) ≡ cond (m == k && (leb a d && ltb d (a + n))) (Some (d - a)) (option_map (λ j. n + j) (entry_of rest (k, d)))
entry_of_stretch m a zero k d rest = no_stretch m a k d (entry_of rest (k, d))
entry_of_stretch m a (suc n) k d rest =
    position-cons (λ x. x.0 == k && x.1 == d) (m, a) (month_days m (a + 1) n ++ rest)
    ∙ ap (λ o. cond (m == k && a == d) (Some 0) (option_map suc o)) (entry_of_stretch m (a + 1) n k d rest) ∙ stretch_step m a n k d (entry_of rest (k, d))

-- a month, and the months behind it
month_step : (m c k d n here before after : ℕ) → (m ≡ k → (here ≡ n) × (before ≡ 0)) → (m < k → before ≡ n + after) → cond (m == k && (leb 1 d && ltb d (1 + n))) (Some (d - 1)) (option_map (λ j. n + j) (cond ((leb (m + 1) k && ltb k (m + 1 + c)) && (leb 1 d && leb d here)) (Some (after + (d - 1))) None)) ≡ cond ((leb m k && ltb k (m + suc c)) && (leb 1 d && leb d here)) (Some (before + (d - 1))) None
month_step m c k d n here before after same later = grind (arith, nat_tests)

-- a day of the months stands behind the months before its own; no other day is there
pub entry_of_days : (y m c k d : ℕ) → entry_of (sheet_days y m c) (k, d) ≡ cond ((leb m k && ltb k (m + c)) && (leb 1 d && leb d (days_of y k))) (Some (length (sheet_days y m (k - m)) + (d - 1))) None
entry_of_days y m zero k d = grind (arith, nat_tests)
entry_of_days y m (suc c) k d =
    let first = λ (e : m ≡ k). let none : k - m ≡ 0 = omega arith in ap (λ n. length (sheet_days y m n)) none in
    let later = λ (h : m < k). let more : k - m ≡ suc (k - (m + 1)) = omega arith in let step : length (sheet_days y m (k - m)) ≡ days_of y m + length (sheet_days y (m + 1) (k - (m + 1))) = rw (more, length-append, length-map-range_with_len) in step in
    entry_of_stretch m 1 (days_of y m) k d (sheet_days y (m + 1) c)
    ∙ ap (λ o. cond (m == k && (leb 1 d && ltb d (1 + days_of y m))) (Some (d - 1)) (option_map (λ j. days_of y m + j) o)) (entry_of_days y (m + 1) c k d)
    ∙ month_step m c k d (days_of y m) (days_of y k) (length (sheet_days y m (k - m))) (length (sheet_days y (m + 1) (k - (m + 1)))) (λ e. (ap (days_of y) (sym e), first e)) later
