-- The book in the program's input, and why an input is refused. Assumes nothing.
use Rattle.std.specs.Prelude.{◌≡◌, ℕ, ◌<◌, ◌≤◌, List, length}
use Rattle.expressions.specs.Exprs.{Expr}
use Rattle.expressions.specs.Wordings.{Worded, Refused as WordingRefused}
use Rattle.files.specs.Encoding.{raw_book, encode, Fits}
use Rattle.files.specs.Reading.{Refused}
use Rattle.files.specs.declared.counts.Counts.{Counts}
use Rattle.graphs.specs.Books.{book_of}
use Rattle.graphs.specs.Graphs.{Graph}
use Rattle.graphs.specs.declared.link.Link.{Link}
use Rattle.refusals.specs.Table.{number, place}
use Rattle.refusals.specs.declared.Refusal.{Refusal}
use Rattle.refusals.specs.declared.Refusal.TheVariants.{InputTooLong, TableTooShort}
use Rattle.tables.specs.Layout.{cells_for}
use Rattle.asking.specs.Input.{most_input, program_room, program_cells, wording, book_file, value_kind}
use Rattle.asking.specs.Kinds.{KindOfValue, kind_by}

-- the file is that of some values and links for which there is room, and means this graph
pub record BookOf (k : KindOfValue) (room : Counts) (file : List ℕ) (g : Graph) : Type 0 where
  pub values : List k.Value
  pub links : List Link
  pub is : file ≡ encode k.shape k.encoded values links
  pub fits : Fits k.shape room (raw_book k.encoded values links)
  pub graph : g ≡ book_of k.alike values links

-- the kind of value of a file, by the number in its head
abbrev pub kind_in : List ℕ → KindOfValue
kind_in file = kind_by (value_kind file)

-- the book in a file, and that the file is refused, both by its kind of value
abbrev pub BookIn : List ℕ → Graph → Type 0
BookIn file g = BookOf (kind_in file) program_room file g

abbrev pub FileRefused : List ℕ → Refusal → Type 0
FileRefused file x = Refused (kind_in file).shape program_room file x

-- why the input is refused: by its length; then by its wording; then by the file; then for want of cells; with its number and place
pub data RefusedAs (input : List ℕ) : Refusal → ℕ → ℕ → Type 0 where
  too_long : most_input < length input → RefusedAs input InputTooLong 10 0
  by_wording : {x : Refusal} → length input ≤ most_input → WordingRefused (wording input) x → RefusedAs input x (number x) (place x)
  by_file : {x : Refusal} {e : Expr} → length input ≤ most_input → Worded (wording input) e → FileRefused (book_file input) x → RefusedAs input x (number x) (place x)
  by_room : {e : Expr} (g : Graph) → length input ≤ most_input → Worded (wording input) e → BookIn (book_file input) g → program_cells < cells_for e g.entries → RefusedAs input TableTooShort 33 0

-- the input is refused so
abbrev pub RefusedBy : List ℕ → Refusal → Type 0
RefusedBy input x = RefusedAs input x (number x) (place x)
