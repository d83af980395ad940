-- The graph of a book. Assumes nothing.
use Rattle.std.specs.Prelude.{Bool, List, map, length}
use Rattle.graphs.specs.declared.link.Link.{Link}
use Rattle.graphs.specs.Graphs.{Graph, valued}
use Rattle.graphs.specs.Links.{read_among}

-- the entries hold the values, and place k is link k, as it reads among the entries
abbrev pub book_of : {V : Type 0} → (V → V → Bool) → List V → List Link → Graph
book_of alike values links = valued alike values (map (read_among (length values)) links)
