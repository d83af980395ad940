-- Which files are refused, and why: the rows that the records of a file are held to, one record after the other. Assumes nothing.
use Rattle.std.specs.Prelude.{◌≡◌, ℕ, ◌+◌, Bool, true, false, cond, not, ◌&&◌, ◌||◌, List, [], ◌∷◌, ◌++◌, length, take, drop, IfSome, Some, None, Option, ◌==◌, nat_le, nat_lt, slice_index}
use Rattle.std.specs.Option.{option_map}
use Rattle.graphs.specs.Links.{sound}
use Rattle.graphs.specs.declared.link.Link.{Link}
use Rattle.kinds.specs.Payloads.{Shape, fitting, valid, word}
use Rattle.refusals.specs.Rows.{Row, first_refusal}
use Rattle.refusals.specs.Table.{numbered}
use Rattle.refusals.specs.declared.Refusal.{Refusal}
use Rattle.refusals.specs.declared.Refusal.TheVariants.{HeadingCut, PayloadCut, RecordMisplaced, OtherValueKind, LengthUnfit, NoSuchDay, LinkUnsound, TooManyEntries, TooManyLinks}
use Rattle.files.specs.declared.counts.Counts.{Counts}
use Rattle.files.specs.Encoding.{head_kind, entry_kind, link_kind, Raw, written, counts_of, Fits}

-- the record at the front of some bytes
abbrev pub size_of : List ℕ → ℕ
size_of bs = word (slice_index bs 0) (slice_index bs 1)

abbrev pub kind_of : List ℕ → ℕ
kind_of bs = word (slice_index bs 2) (slice_index bs 3)

abbrev pub payload_of : List ℕ → List ℕ
payload_of bs = take (size_of bs) (drop 4 bs)

abbrev pub link_of : List ℕ → Link
link_of p = record { from = slice_index p 0; letter = slice_index p 1; to = slice_index p 2 }

-- which kinds of record may come: the head first and once, then entries, then links
abbrev pub allowed : Option Counts → ℕ → Bool
allowed None k = k == head_kind
allowed (Some read) k = (k == entry_kind && read.links == 0) || k == link_kind

-- the lengths that a payload may have
abbrev pub fit : Shape → ℕ → ℕ → Bool
fit sh k n = cond (k == head_kind) (n == 2) (cond (k == entry_kind) (fitting sh n) (n == 3))

-- how many entries and links were read
abbrev pub entries_read : Option Counts → ℕ
entries_read None = 0
entries_read (Some read) = read.entries

abbrev pub links_read : Option Counts → ℕ
links_read None = 0
links_read (Some read) = read.links

-- the rows for the record that lies at an offset, at the front of what is left, where `read` counts what was read before (`None`: not even a head)
abbrev pub rows : Shape → Counts → Option Counts → ℕ → List ℕ → List Row
rows sh room read at left =
    (nat_lt (length left) 4, 11, at, HeadingCut at)
    ∷ (not (allowed read (kind_of left)), 12, at, RecordMisplaced at)
    ∷ (not (fit sh (kind_of left) (size_of left)), 13, at, LengthUnfit at)
    ∷ (nat_lt (length left) (4 + size_of left), 11, at, PayloadCut at)
    ∷ (kind_of left == head_kind && not (word (slice_index (payload_of left) 0) (slice_index (payload_of left) 1) == sh.number), 12, at, OtherValueKind at)
    ∷ (kind_of left == entry_kind && not (valid sh (payload_of left)), 14, at, NoSuchDay at)
    ∷ (kind_of left == link_kind && not (sound (entries_read read) (link_of (payload_of left))), 15, at, LinkUnsound at)
    ∷ (kind_of left == entry_kind && nat_le room.entries (entries_read read), 16, at, TooManyEntries at)
    ∷ (kind_of left == link_kind && nat_le room.links (links_read read), 17, at, TooManyLinks at)
    ∷ []

-- the bytes of what was read: of nothing, or of a head, entries and links
abbrev pub bytes_so_far : Shape → Option Raw → List ℕ
bytes_so_far sh None = []
bytes_so_far sh (Some b) = written sh b

-- a record must come: there is no head yet, or the file goes on
abbrev pub due : Option Raw → List ℕ → Bool
due None left = true
due (Some b) [] = false
due (Some b) (x ∷ xs) = true

-- a file is refused: up to some record it is the front of a file of a book that fits, and of the rows that this record breaks the first gives the refusal
pub record Refused (sh : Shape) (room : Counts) (bytes : List ℕ) (x : Refusal) : Type 0 where
  pub before : Option Raw
  pub left : List ℕ
  pub is : bytes ≡ bytes_so_far sh before ++ left
  pub fits : IfSome before (Fits sh room)
  pub more : due before left ≡ true
  pub first : first_refusal (rows sh room (option_map counts_of before) (length (bytes_so_far sh before)) left) ≡ Some (numbered x)
