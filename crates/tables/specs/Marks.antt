-- What a block tells of the links of one letter; no public contract cites this file. Assumes nothing.
use Rattle.std.specs.Prelude.{◌≡◌, ℕ, ◌<◌, ◌⊎◌, List, Some}
use Rattle.graphs.specs.Graphs.{Graph, link_at}
use Rattle.graphs.specs.declared.link.Link.{Link}
use Rattle.languages.specs.Cells.{none}
use Rattle.tables.specs.Blocks.{block_cell}

abbrev pub link : ℕ → ℕ → ℕ → Link
link u a v = record { from = u; letter = a; to = v }

-- one of the first p places holds a link from u to v with the letter a
abbrev pub LinkedBy : Graph → ℕ → ℕ → ℕ → ℕ → Type 0
LinkedBy g p u a v = (k : ℕ) × (k < p) × (link_at g k ≡ Some (link u a v))

-- a cell is 1 where there is such a link, and tells of no path where there is none
abbrev pub Mark : Graph → ℕ → ℕ → ℕ → ℕ → ℕ → Type 0
Mark g p u a v x = (LinkedBy g p u a v × (x ≡ 1)) ⊎ ((LinkedBy g p u a v → ⊥) × (x ≡ none))

-- the first p places are marked in n rows of n cells
abbrev pub Marked : Graph → ℕ → ℕ → ℕ → List ℕ → Type 0
Marked g p a n cells = (u v : ℕ) → u < n → v < n → Mark g p u a v (block_cell n cells u v)
