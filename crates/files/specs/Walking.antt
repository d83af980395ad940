-- What private functions say of the records of a file; no public contract cites this file. Assumes nothing.
use Rattle.std.specs.Prelude.{◌≡◌, ℕ, zero, suc, ◌+◌, ◌≤◌, Bool, true, cond, List, [], ◌∷◌, length, drop, Some, None, Option, Ok, Err, Result, MatchResult, ◌==◌}
use Rattle.refusals.specs.declared.Refusal.{Refusal}
use Rattle.kinds.specs.Payloads.{Shape}
use Rattle.files.specs.declared.counts.Counts.{Counts}
use Rattle.files.specs.declared.frame.RecordKind.{RecordKind}
use Rattle.files.specs.declared.frame.RecordKind.TheVariants.{Head, Entry, Link}
use Rattle.files.specs.declared.frame.UnknownKind.{UnknownKind}
use Rattle.files.specs.Encoding.{head_kind, entry_kind, link_kind, Raw, written, counts_of, Fits}
use Rattle.files.specs.Reading.{size_of, kind_of, payload_of, Refused}

abbrev pub number_of : RecordKind → ℕ
number_of Head = head_kind
number_of Entry = entry_kind
number_of Link = link_kind

-- the kind of this number, or the number where no kind has it
abbrev pub NamesKind : ℕ → Result RecordKind UnknownKind → Type 0
NamesKind n r = MatchResult r (λ k. number_of k ≡ n) (λ e. (e.0 ≡ n) × ((k : RecordKind) → ¬ (number_of k ≡ n)))

-- what was read with one record more, by its kind
abbrev pub counted : Option Counts → ℕ → Counts
counted None k = record { entries = 0; links = 0 }
counted (Some read) k = cond (k == entry_kind) (record { entries = read.entries + 1; links = read.links }) (record { entries = read.entries; links = read.links + 1 })

-- the record at the front is read: the counts with it, and what lies behind it
abbrev pub ReadOn : Option Counts → List ℕ → Counts → List ℕ → Type 0
ReadOn read left more rest = (more ≡ counted read (kind_of left)) × (rest ≡ drop (4 + size_of left) left)

-- the payloads of the first n records
abbrev pub payloads_in : ℕ → List ℕ → List (List ℕ)
payloads_in zero bs = []
payloads_in (suc n) bs = payload_of bs ∷ payloads_in n (drop (4 + size_of bs) bs)

-- what is left after them
abbrev pub behind : ℕ → List ℕ → List ℕ
behind zero bs = bs
behind (suc n) bs = behind n (drop (4 + size_of bs) bs)

-- they are there, and their payloads pass a test
abbrev pub Lies : (List ℕ → Bool) → ℕ → List ℕ → Type 0
Lies test zero bs = Unit {0}
Lies test (suc n) bs = (4 + size_of bs ≤ length bs) × (test (payload_of bs) ≡ true) × Lies test n (drop (4 + size_of bs) bs)

-- a file is checked: it is the file of a book that fits, with these counts, or it is refused
abbrev pub Surveyed : Shape → Counts → List ℕ → Result Counts Refusal → Type 0
Surveyed sh room bytes (Ok counts) = (b : Raw) × (bytes ≡ written sh b) × Fits sh room b × (counts ≡ counts_of b)
Surveyed sh room bytes (Err x) = Refused sh room bytes x
