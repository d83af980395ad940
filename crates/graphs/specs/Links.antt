-- Links between numbered entries. Assumes nothing.
use Rattle.std.specs.Prelude.{ℕ, Bool, cond, ◌&&◌, List, Some, None, Option, ◌==◌, nat_le, nat_lt}
use Rattle.std.specs.List.{list_all}
use Rattle.graphs.specs.declared.link.Link.{Link}

-- a link that stands among n entries: its letter is one of a to z, and both its ends are entries
abbrev pub sound : ℕ → Link → Bool
sound n l = (nat_le 97 l.letter && nat_le l.letter 122) && (nat_lt l.from n && nat_lt l.to n)

-- every link of a list stands among n entries
abbrev pub all_sound : ℕ → List Link → Bool
all_sound n ls = list_all (sound n) ls

-- a link as it reads among n entries: one that does not stand among them reads as nothing
abbrev pub read_among : ℕ → Link → Option Link
read_among n l = cond (sound n l) (Some l) None

-- a link with its two ends exchanged
abbrev pub turned : Link → Link
turned l = record { from = l.to; letter = l.letter; to = l.from }

-- what a place holds, but nothing where that is a link of the letter a
abbrev pub unless : ℕ → Option Link → Option Link
unless a None = None
unless a (Some l) = cond (l.letter == a) None (Some l)
