-- What the reading and the writing of a book answer and leave in memory, and the round trip between them. Assumes nothing.
use Rattle.std.specs.Prelude.{◌≡◌, ℕ, ◌≤◌, min, Bool, not, ◌&&◌, List, [], ◌∷◌, map, length, take, drop, Some, None, Ok, Err, Result, nat_le, nat_lt}
use Rattle.std.specs.List.{AllZip}
use Rattle.graphs.specs.Links.{all_sound}
use Rattle.graphs.specs.declared.link.Link.{Link}
use Rattle.kinds.specs.Payloads.{Shape}
use Rattle.refusals.specs.Rows.{Row, first_refusal}
use Rattle.refusals.specs.Table.{numbered}
use Rattle.refusals.specs.declared.Refusal.{Refusal}
use Rattle.refusals.specs.declared.Refusal.TheVariants.{BookUnwritable, BytesTooShort}
use Rattle.files.specs.declared.counts.Counts.{Counts}
use Rattle.files.specs.Encoding.{Raw, written, raw_book, encode, most_entries, most_links, counts_of, Fits}
use Rattle.files.specs.Reading.{Refused}

-- the room for a book: what the two buffers hold, up to the limits
abbrev pub room_of : {V : Type 0} → List V → List Link → Counts
room_of values links = record { entries = min (length values) most_entries; links = min (length links) most_links }

-- the answer comes wherever it is due: the file of a book that fits is accepted, and a file that the rows refuse is refused so
pub record Decided (sh : Shape) (room : Counts) (bytes : List ℕ) (r : Result Counts Refusal) : Type 0 where
  pub accepted : (b : Raw) → Fits sh room b → bytes ≡ written sh b → r ≡ Ok (counts_of b)
  pub refused : (x : Refusal) → Refused sh room bytes x → r ≡ Err x

-- a book of so many entries that may be written: it keeps the limits, and every link stands among the entries
abbrev pub writable : ℕ → List Link → Bool
writable n links = (nat_le n most_entries && nat_le (length links) most_links) && all_sound n links

module _ {V : Type 0} (sh : Shape) (encoded : V → List ℕ) where
  -- a book was read: it lies at the fronts of the two buffers, each value stored just as its payload is decoded, and what lies behind is as it was
  pub record Held (decoded : List ℕ → V) (bytes : List ℕ) (values values' : List V) (links links' : List Link) (n : Counts) : Type 0 where
    pub file : bytes ≡ encode sh encoded (take n.entries values') (take n.links links')
    pub fits : Fits sh (room_of values links) (raw_book encoded (take n.entries values') (take n.links links'))
    pub counts : n ≡ counts_of (raw_book encoded (take n.entries values') (take n.links links'))
    pub stored : take n.entries values' ≡ map decoded (map encoded (take n.entries values'))
    pub other_values : drop n.entries values' ≡ drop n.entries values
    pub other_links : drop n.links links' ≡ drop n.links links

  -- a reading, by the buffers as they were and as they are, and the answer; a refused one leaves them as they were
  abbrev pub ReadBook : (List ℕ → V) → List ℕ → List V → List V → List Link → List Link → Result Counts Refusal → Type 0
  ReadBook decoded bytes values values' links links' (Ok n) = Held decoded bytes values values' links links' n
  ReadBook decoded bytes values values' links links' (Err x) = Refused sh (room_of values links) bytes x × (values' ≡ values) × (links' ≡ links)

  -- the rows that a writing is held to, for a buffer of so many bytes: a book that may be written, and room for its file
  abbrev pub write_rows : List V → List Link → ℕ → List Row
  write_rows values links room =
      (not (writable (length values) links), 71, 0, BookUnwritable)
      ∷ (nat_lt room (length (encode sh encoded values links)), 72, 0, BytesTooShort)
      ∷ []

  -- a book was written: its file lies at the front of the buffer, and what lies behind is as it was
  pub record Put (values : List V) (links : List Link) (out out' : List ℕ) (n : ℕ) : Type 0 where
    pub none : first_refusal (write_rows values links (length out)) ≡ None
    pub size : n ≡ length (encode sh encoded values links)
    pub front : take n out' ≡ encode sh encoded values links
    pub behind : drop n out' ≡ drop n out

  -- a writing, by the buffer as it was and as it is, and the answer; a refused one leaves it as it was
  abbrev pub WriteBook : List V → List Link → List ℕ → List ℕ → Result ℕ Refusal → Type 0
  WriteBook values links out out' (Ok n) = Put values links out out' n
  WriteBook values links out out' (Err x) = (first_refusal (write_rows values links (length out)) ≡ Some (numbered x)) × (out' ≡ out)

  -- a file that is read and written again is the same file: whatever is written of these values and links, into room for it, is these bytes
  abbrev pub SameFile : List ℕ → List V → List Link → Type 0
  SameFile bytes values links =
      (out out' : List ℕ) (w : Result ℕ Refusal) → length bytes ≤ length out → WriteBook values links out out' w →
      (w ≡ Ok (length bytes)) × (take (length bytes) out' ≡ bytes)

  -- a written book reads back as the same book: whatever is read from these bytes, into room for it, agrees with these values and links
  abbrev pub SameBook : (List ℕ → V) → (V → V → Type 0) → List ℕ → List V → List Link → Type 0
  SameBook decoded agree bytes values links =
      (buffer buffer' : List V) (spare spare' : List Link) (r : Result Counts Refusal) →
      length values ≤ length buffer → length links ≤ length spare → ReadBook decoded bytes buffer buffer' spare spare' r →
      (r ≡ Ok (counts_of (raw_book encoded values links))) × AllZip agree values (take (length values) buffer') × (take (length links) spare' ≡ links)
