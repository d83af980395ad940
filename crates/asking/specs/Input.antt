-- The parts of the program's input, and the room that the program has. Assumes nothing.
use Rattle.std.specs.Prelude.{ℕ, ◌+◌, ◌*◌, cond, List, length, ◌==◌, nat_lt, slice_index}
use Rattle.std.specs.List.{before_first, after_first}
use Rattle.files.specs.declared.counts.Counts.{Counts}
use Rattle.kinds.specs.Payloads.{word}
use Rattle.listing.specs.Lines.{most_line, most_step}

-- the program takes at most so many bytes
abbrev pub most_input : ℕ
most_input = 8192

-- the room that the program has for a book
abbrev pub program_room : Counts
program_room = record { entries = 16; links = 256 }

-- the room for cells
abbrev pub program_cells : ℕ
program_cells = 4096

-- an answer has at most so many bytes: a first line, and at most one for each two of 16 entries, each of at most as many bytes as are allowed for a line with a path of 999 steps
abbrev pub most_text : ℕ
most_text = (most_line + most_step * 999) * (1 + 16 * 16)

-- what stands before the first byte 10; all of it where there is none
abbrev pub wording : List ℕ → List ℕ
wording input = before_first (λ b. b == 10) input

-- what stands behind the first byte 10; nothing where there is none
abbrev pub book_file : List ℕ → List ℕ
book_file input = after_first (λ b. b == 10) input

-- the value kind that a head tells, in the two bytes of its payload; 0 where the file is too short for a head
abbrev pub value_kind : List ℕ → ℕ
value_kind file = cond (nat_lt (length file) 6) 0 (word (slice_index file 4) (slice_index file 5))
