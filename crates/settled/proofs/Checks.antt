-- The common check of the settled examples: what it passes holds. Assumes nothing.
use Rattle.std.proofs.Common.{◌≡◌, ℕ, ◌/◌, ◌%◌, Bool, true, false, ◌&&◌, not, eqb, leb, List, [], ◌∷◌, length, Some, refl, ap, arith}
use Rattle.std.proofs.lemmas.Bool.{and_parts, eqb-true, leb-true, not-true, false≢true}
use Rattle.std.proofs.lemmas.Slice.Eq.{bytes_eq-Decides}
use Rattle.std.specs.Str.{bytes_eq}
use Rattle.expressions.proofs.Main.{is_meant, is_wrong}
use Rattle.expressions.specs.Machine.{Answer, good, bad, go, step, start}
use Rattle.expressions.specs.Grammar.{most_bytes}
use Rattle.expressions.specs.Wordings.RefusedAs.{no_expression as refused}
use Rattle.files.proofs.Records.{word_of}
use Rattle.files.specs.Encoding.{encode, entry_kind, framed}
use Rattle.files.specs.Reading.{Refused as FileRefused}
use Rattle.files.specs.declared.counts.Counts.{Counts}
use Rattle.kinds.specs.Days.{exists, day_number, day_shape}
use Rattle.kinds.specs.Calendars.{calendar_byte}
use Rattle.kinds.specs.Names.{text, name_shape}
use Rattle.kinds.specs.declared.calendar.Calendar.{Calendar}
use Rattle.kinds.specs.declared.calendar.Calendar.TheVariants.{Gregorian, Julian}
use Rattle.kinds.specs.declared.day.Day.{Day}
use Rattle.kinds.specs.Payloads.{valid}
use Rattle.refusals.specs.declared.Refusal.TheVariants.{NoSuchDay}
use Rattle.settled.proofs.Joining.{all_hold, joins_these, these_joined}
use Rattle.settled.specs.Settled.{Example, is_day, no_expression, file, joins, dated, no_day, Holds, all_souls, names, links, day_file, table, Settled}

-- the machine that reads wordings stops at a place
abbrev stops_at : ℕ → Answer → Bool
stops_at at (good e) = false
stops_at at (bad k) = eqb k at

stops : (at : ℕ) (a : Answer) → stops_at at a ≡ true → a ≡ bad at
stops at (good e) h = absurd (false≢true h)
stops at (bad k) h = ap bad (eqb-true k at h)

-- a wording stands for an expression that joins just these pairs, so many
abbrev joins_so : List (ℕ × ℕ × ℕ) → ℕ → Answer → Bool
joins_so pairs tally (good e) = joins_these all_souls e pairs tally
joins_so pairs tally (bad at) = false

joined : (wording : List ℕ) (pairs : List (ℕ × ℕ × ℕ)) (tally : ℕ) (a : Answer)
    → go start wording 0 ≡ a → joins_so pairs tally a ≡ true → Holds (joins wording pairs tally)
joined wording pairs tally (good e) is h = (e, is_meant wording e is, these_joined all_souls e pairs tally h)
joined wording pairs tally (bad at) is h = absurd (false≢true h)

-- a file with a date that does not exist is refused where its entry lies, behind the head
day_refused : (d : Day) → is_day d ≡ false
    → (room : Counts) → FileRefused day_shape room (day_file d) (NoSuchDay 6)
day_refused d h room = record {
  before = Some (record { payloads = []; links = [] });
  left = framed entry_kind (calendar_byte d.calendar ∷ d.year % 256 ∷ d.year / 256 ∷ d.month ∷ d.date ∷ []);
  is = refl;
  fits = record { entries = omega arith; links = omega arith; values = tt; all_sound = tt };
  more = refl;
  first = rw (not_valid d.calendar d.year d.month d.date h) refl;
}
  where
    not_valid : (c : Calendar) (y m k : ℕ) → exists c y m k ≡ false
        → valid day_shape (calendar_byte c ∷ y % 256 ∷ y / 256 ∷ m ∷ k ∷ []) ≡ false
    not_valid Gregorian y m k h = rw (word_of y) h
    not_valid Julian y m k h = rw (word_of y) h

not_there : (d : Day) (n at : ℕ) → is_day d ≡ false → n ≡ 14 → at ≡ 6 → Holds (no_day d n at)
not_there d n at h number place = rw number (rw place (h, day_refused d h, refl))

abbrev passes : Example → Bool
passes (no_expression wording n at) = leb (length wording) most_bytes && (stops_at at (go start wording 0) && eqb n 21)
passes (file bytes) = bytes_eq bytes (encode name_shape text names links)
passes (joins wording pairs tally) = joins_so pairs tally (go start wording 0)
passes (dated d k) = is_day d && eqb (day_number d) k
passes (no_day d n at) = not (is_day d) && (eqb n 14 && eqb at 6)

holds : (x : Example) → passes x ≡ true → Holds x
holds (no_expression wording n at) h =
    let p = and_parts (leb (length wording) most_bytes) _ h in
    let q = and_parts (stops_at at (go start wording 0)) _ p.1 in
    (refused (leb-true _ _ p.0) (is_wrong wording at (stops at (go start wording 0) q.0)), rw (eqb-true n 21 q.1) refl)
holds (file bytes) h = (bytes_eq-Decides bytes _).0 h
holds (joins wording pairs tally) h = joined wording pairs tally (go start wording 0) refl h
holds (dated d k) h = let p = and_parts (is_day d) _ h in (p.0, eqb-true _ k p.1)
holds (no_day d n at) h =
    let p = and_parts (not (is_day d)) _ h in
    let q = and_parts (eqb n 14) _ p.1 in
    not_there d n at (not-true (is_day d) p.0) (eqb-true n 14 q.0) (eqb-true at 6 q.1)

pub settled : Settled table
unfolding go step
settled = record { hold = all_hold Holds passes holds table refl }
