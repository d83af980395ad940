-- A book as a file: a head, then the entries, then the links, each a record. Of these `entry_bytes` stands in no promise. Assumes nothing.
use Rattle.std.specs.Prelude.{◌≡◌, ℕ, ◌≤◌, true, List, [], ◌∷◌, ◌++◌, map, length}
use Rattle.std.specs.List.{flat_map, AllByRecursion}
use Rattle.graphs.specs.Links.{sound}
use Rattle.graphs.specs.declared.link.Link.{Link}
use Rattle.kinds.specs.Payloads.{Shape, two_bytes, valid}
use Rattle.files.specs.declared.counts.Counts.{Counts}

-- the kinds of record
abbrev pub head_kind : ℕ
head_kind = 1

abbrev pub entry_kind : ℕ
entry_kind = 2

abbrev pub link_kind : ℕ
link_kind = 3

-- a record: the length of its payload, its kind, the payload
abbrev pub framed : ℕ → List ℕ → List ℕ
framed kind payload = two_bytes (length payload) ++ (two_bytes kind ++ payload)

abbrev pub link_bytes : Link → List ℕ
link_bytes l = l.from ∷ l.letter ∷ l.to ∷ []

-- a book as a file has it: the payloads of its entries, and its links, in their order
pub record Raw : Type 0 where
  pub payloads : List (List ℕ)
  pub links : List Link

-- the records of the links
abbrev pub links_bytes : List Link → List ℕ
links_bytes links = flat_map (λ l. framed link_kind (link_bytes l)) links

-- the file of a book whose values are of the kind of a shape
abbrev pub written : Shape → Raw → List ℕ
written sh b = framed head_kind (two_bytes sh.number) ++ (flat_map (framed entry_kind) b.payloads ++ links_bytes b.links)

-- the records of the entries that hold some values
abbrev pub entry_bytes : {V : Type 0} → (V → List ℕ) → List V → List ℕ
entry_bytes encoded values = flat_map (framed entry_kind) (map encoded values)

-- the book of some values and links, and its file
abbrev pub raw_book : {V : Type 0} → (V → List ℕ) → List V → List Link → Raw
raw_book encoded values links = record { payloads = map encoded values; links = links }

abbrev pub encode : {V : Type 0} → Shape → (V → List ℕ) → List V → List Link → List ℕ
encode sh encoded values links = written sh (raw_book encoded values links)

-- a book in a file has at most so many entries and links
abbrev pub most_entries : ℕ
most_entries = 128

abbrev pub most_links : ℕ
most_links = 1024

abbrev pub counts_of : Raw → Counts
counts_of b = record { entries = length b.payloads; links = length b.links }

-- a book that fits into the room for entries and for links: every payload stands for a value, and every link has a letter from a to z and joins two entries
pub record Fits (sh : Shape) (room : Counts) (b : Raw) : Type 0 where
  pub entries : length b.payloads ≤ room.entries
  pub links : length b.links ≤ room.links
  pub values : AllByRecursion (λ p. valid sh p ≡ true) b.payloads
  pub all_sound : AllByRecursion (λ l. sound (length b.payloads) l ≡ true) b.links
