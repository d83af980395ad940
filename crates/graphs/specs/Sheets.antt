-- The graph of a sheet, which shows some months of a year of the Gregorian calendar. Assumes nothing.
use Rattle.std.specs.Prelude.{ℕ, ◌+◌, Bool, cond, ◌&&◌, List, [], ◌∷◌, map, length, Some, None, Option, ◌==◌, nat_eq, nat_le, nat_lt, slice_index_or, position}
use Rattle.std.specs.List.{range_with_len, flat_map}
use Rattle.std.specs.Option.{option_map}
use Rattle.kinds.specs.Calendars.{leap, month_length}
use Rattle.kinds.specs.declared.calendar.Calendar.TheVariants.{Gregorian}
use Rattle.graphs.specs.declared.link.Link.{Link}
use Rattle.graphs.specs.Graphs.{Graph, valued}

-- which sheets there are: the year lies in the range of days, the months are one, two or three, and December is the last that there can be
abbrev pub sheet_in_range : ℕ → ℕ → ℕ → Bool
sheet_in_range year month count = (nat_le 1900 year && nat_le year 2199) && ((nat_le 1 month && nat_le 1 count) && (nat_le count 3 && nat_le (month + count) 13))

-- how many days a month of a Gregorian year has
abbrev pub days_of : ℕ → ℕ → ℕ
days_of year month = month_length (leap Gregorian year) month

-- a day of a sheet: its month, and its day of the month
abbrev pub SheetDay : Type 0
SheetDay = ℕ × ℕ

-- the days of a month from a day on, so many
abbrev pub month_days : ℕ → ℕ → ℕ → List SheetDay
month_days month first days = map (λ d. (month, d)) (range_with_len first days)

-- the days of so many months from a month on, in order
abbrev pub sheet_days : ℕ → ℕ → ℕ → List SheetDay
sheet_days year month count = flat_map (λ m. month_days m 1 (days_of year m)) (range_with_len month count)

-- so many months of a year, from a month on, as a sheet shows them
pub record Months : Type 0 where
  pub year : ℕ
  pub month : ℕ
  pub count : ℕ

-- their days, in order
abbrev pub days_in : Months → List SheetDay
days_in m = sheet_days m.year m.month m.count

-- the day of an entry ((0, 0) past the end)
abbrev pub day_at : List SheetDay → ℕ → SheetDay
day_at days i = slice_index_or days i (0, 0)

-- the number of the entry that a day has among some days
abbrev pub entry_of : List SheetDay → SheetDay → Option ℕ
entry_of days day = position (λ x. x.0 == day.0 && x.1 == day.1) days

-- the letters d, w and m
abbrev pub day_letter : ℕ
day_letter = 100

abbrev pub week_letter : ℕ
week_letter = 119

abbrev pub month_letter : ℕ
month_letter = 109

abbrev pub link_to : ℕ → ℕ → ℕ → Link
link_to from letter to = record { from = from; letter = letter; to = to }

-- a link of a letter to so many days later, where that day is among the n of the sheet
abbrev pub later : ℕ → ℕ → ℕ → ℕ → Option Link
later n i letter steps = cond (nat_lt (i + steps) n) (Some (link_to i letter (i + steps))) None

-- the three places of a day, for the links `d` a day on, `w` a week on, and `m` to the day with its number in the month that follows
abbrev pub places_of : List SheetDay → ℕ → List (Option Link)
places_of days i =
    later (length days) i day_letter 1
    ∷ later (length days) i week_letter 7
    ∷ option_map (link_to i month_letter) (entry_of days ((day_at days i).0 + 1, (day_at days i).1))
    ∷ []

-- an entry for each day, which holds its number within the month; each has its three places
abbrev pub sheet_graph : List SheetDay → Graph
sheet_graph days = valued nat_eq (map (λ day. day.1) days) (flat_map (places_of days) (range_with_len 0 (length days)))
