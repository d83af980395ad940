-- Entries that are linked to a ring. Assumes nothing.
use Rattle.std.specs.Prelude.{ℕ, ◌+◌, if◌then◌else◌, nat_lt}
use Rattle.graphs.specs.declared.link.Link.{Link}

-- by the letter a (97) each entry leads to the next, and the last to the first
abbrev pub ring_link : ℕ → ℕ → Link
ring_link entries from = record { from = from; letter = 97; to = if nat_lt (from + 1) entries then from + 1 else 0 }
