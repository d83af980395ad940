-- Settled examples: what the definitions say of a book, of wordings over it and of some days, in one table. Assumes nothing.
use Rattle.std.specs.Prelude.{◌≡◌, ℕ, Bool, true, false, List, [], ◌∷◌, ◌++◌, length, map, codes}
use Rattle.std.specs.List.{All}
use Rattle.expressions.specs.Exprs.{Expr}
use Rattle.expressions.specs.Wordings.{Means, Refused}
use Rattle.files.specs.Encoding.{encode, written}
use Rattle.files.specs.Reading.{Refused as FileRefused}
use Rattle.files.specs.declared.counts.Counts.{Counts}
use Rattle.graphs.specs.Books.{book_of}
use Rattle.graphs.specs.Graphs.{Graph}
use Rattle.graphs.specs.declared.link.Link.{Link}
use Rattle.kinds.specs.Calendars.{calendar_byte}
use Rattle.kinds.specs.Days.{exists, day_number, day_shape}
use Rattle.kinds.specs.Names.{text, same_name, name_shape, name_of}
use Rattle.kinds.specs.Payloads.{two_bytes}
use Rattle.kinds.specs.declared.calendar.Calendar.{Calendar}
use Rattle.kinds.specs.declared.calendar.Calendar.TheVariants.{Gregorian, Julian}
use Rattle.kinds.specs.declared.day.Day.{Day}
use Rattle.kinds.specs.declared.name.Name.{Name}
use Rattle.queries.specs.Meanings.{Told, JoinedPairs}
use Rattle.queries.specs.declared.found.Found.TheVariants.{Steps}
use Rattle.refusals.specs.Table.{numbered}
use Rattle.refusals.specs.declared.Refusal.TheVariants.{NotAnExpression, NoSuchDay}
use Rattle.settled.specs.declared.Example.{Example as Given}
use Rattle.settled.specs.declared.Example.TheVariants.{File, NoExpression, Joins, Dated, NoDay}

-- All Souls, copied three times and once cut short: its names, its links by the letters c (99) and p (112), and its graph
abbrev pub names : List Name
names = map name_of (codes "All Souls" ∷ codes "All Souls" ∷ codes "All Soul" ∷ codes "All Souls" ∷ [])

abbrev pub links : List Link
links =
    record { from = 0; letter = 99; to = 1 }
    ∷ record { from = 1; letter = 99; to = 2 }
    ∷ record { from = 2; letter = 99; to = 3 }
    ∷ record { from = 0; letter = 112; to = 3 }
    ∷ []

abbrev pub all_souls : Graph
all_souls = book_of same_name names links

-- the bytes of its file
abbrev pub all_souls_bytes : List ℕ
all_souls_bytes =
    (2 ∷ 0 ∷ 1 ∷ 0 ∷ 1 ∷ 0 ∷ [])
    ++ (9 ∷ 0 ∷ 2 ∷ 0 ∷ codes "All Souls")
    ++ (9 ∷ 0 ∷ 2 ∷ 0 ∷ codes "All Souls")
    ++ (8 ∷ 0 ∷ 2 ∷ 0 ∷ codes "All Soul")
    ++ (9 ∷ 0 ∷ 2 ∷ 0 ∷ codes "All Souls")
    ++ (3 ∷ 0 ∷ 3 ∷ 0 ∷ 0 ∷ 99 ∷ 1 ∷ [])
    ++ (3 ∷ 0 ∷ 3 ∷ 0 ∷ 1 ∷ 99 ∷ 2 ∷ [])
    ++ (3 ∷ 0 ∷ 3 ∷ 0 ∷ 2 ∷ 99 ∷ 3 ∷ [])
    ++ (3 ∷ 0 ∷ 3 ∷ 0 ∷ 0 ∷ 112 ∷ 3 ∷ [])

-- just these pairs are joined, in their order, each by so many steps and never by fewer; and so many pairs they are
pub record JoinsJust (g : Graph) (e : Expr) (pairs : List (ℕ × ℕ × ℕ)) (tally : ℕ) : Type 0 where
  pub joined : JoinedPairs g e (map (λ pair. (pair.0, pair.1)) pairs)
  pub told : All (λ pair. Told g e pair.0 pair.1 (Steps pair.2)) pairs
  pub tallied : length pairs ≡ tally

-- the file of a book of one day
abbrev pub day_file : Day → List ℕ
day_file d =
    let payload = calendar_byte d.calendar ∷ two_bytes d.year ++ (d.month ∷ d.date ∷ []) in
    written day_shape (record { payloads = payload ∷ []; links = [] })

pub data Example : Type 0 where
  -- a text is no expression, and is refused by a number at a place
  no_expression : List ℕ → ℕ → ℕ → Example
  -- these bytes are the file of All Souls
  file : List ℕ → Example
  -- over All Souls a wording joins just these pairs, each by so many steps, and so many pairs
  joins : List ℕ → List (ℕ × ℕ × ℕ) → ℕ → Example
  -- a date has a day number
  dated : Day → ℕ → Example
  -- there is no such date, and a file of it is refused by a number at a place
  no_day : Day → ℕ → ℕ → Example

-- a date of a calendar
abbrev pub on : Calendar → ℕ → ℕ → ℕ → Day
on c y m d = record { calendar = c; year = y; month = m; date = d }

abbrev pub is_day : Day → Bool
is_day d = exists d.calendar d.year d.month d.date

-- what an example says
abbrev pub Holds : Example → Type 0
Holds (no_expression wording n at) =
    Refused wording (NotAnExpression at) × (numbered (NotAnExpression at) ≡ (n, at, NotAnExpression at))
Holds (file bytes) = bytes ≡ encode name_shape text names links
Holds (joins wording pairs tally) = (e : Expr) × Means wording e × JoinsJust all_souls e pairs tally
Holds (dated d k) = (is_day d ≡ true) × (day_number d ≡ k)
Holds (no_day d n at) =
    (is_day d ≡ false)
    × ((room : Counts) → FileRefused day_shape room (day_file d) (NoSuchDay at))
    × (numbered (NoSuchDay at) ≡ (n, at, NoSuchDay at))

-- each entry with itself and with all that were copied from it, one after the other, by as many copies
abbrev pub copied_along : List (ℕ × ℕ × ℕ)
copied_along =
    (0, 0, 0) ∷ (0, 1, 1) ∷ (0, 2, 2) ∷ (0, 3, 3)
    ∷ (1, 1, 0) ∷ (1, 2, 1) ∷ (1, 3, 2)
    ∷ (2, 2, 0) ∷ (2, 3, 1)
    ∷ (3, 3, 0)
    ∷ []

abbrev pub table : List Example
table =
    no_expression (codes "") 21 0
    ∷ no_expression (codes "a|") 21 2
    ∷ no_expression (codes "a)") 21 1
    ∷ file all_souls_bytes
    ∷ joins (codes "(c+)=") ((0, 1, 1) ∷ (0, 3, 3) ∷ (1, 3, 2) ∷ []) 3
    ∷ joins (codes "(c=)+") ((0, 1, 1) ∷ []) 1
    ∷ joins (codes "((c+)~c)=") ((0, 3, 3) ∷ (1, 3, 2) ∷ []) 2
    ∷ joins (codes "c=|p") ((0, 1, 1) ∷ (0, 3, 1) ∷ []) 2
    ∷ joins (codes "0~") [] 0
    ∷ joins (codes "c*") copied_along 10
    ∷ dated (on Julian 2023 12 25) 45297
    ∷ dated (on Gregorian 2024 1 7) 45297
    ∷ dated (on Julian 1900 2 29) 72
    ∷ no_day (on Gregorian 1900 2 29) 14 6
    ∷ []

-- what an example of code says
abbrev pub said : Given → Example
said (NoExpression wording n at) = no_expression wording.now n at
said (File bytes) = file bytes.now
said (Joins wording pairs tally) = joins wording.now pairs.now tally
said (Dated d k) = dated d k
said (NoDay d n at) = no_day d n at

-- each of the examples holds
pub record Settled (examples : List Example) : Type 0 where
  pub hold : All Holds examples
