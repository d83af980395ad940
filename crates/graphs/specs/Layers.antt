-- The graphs of layers over a source. Assumes nothing.
use Rattle.std.specs.Prelude.{ℕ, map}
use Rattle.std.specs.Option.{option_map}
use Rattle.graphs.specs.Graphs.{Graph}
use Rattle.graphs.specs.Links.{turned, unless}

-- each link leads the other way
abbrev pub reversed : Graph → Graph
reversed g = record { entries = g.entries; same = g.same; places = map (option_map turned) g.places }

-- the places of the letter a hold nothing
abbrev pub without : ℕ → Graph → Graph
without a g = record { entries = g.entries; same = g.same; places = map (unless a) g.places }
