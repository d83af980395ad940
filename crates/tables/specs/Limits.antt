-- The limit of what is evaluated. Assumes nothing.
use Rattle.std.specs.Prelude.{ℕ}

-- a source may have at most so many entries: a rule apart from that of a file
abbrev pub most_entries : ℕ
most_entries = 128
