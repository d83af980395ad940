-- Tables: what a filled one tells. Assumes nothing.
use Rattle.std.specs.Prelude.{◌≡◌, ℕ, ◌<◌, ◌≤◌, List, [], ◌∷◌, length, Some, None, Ok, Err, Result, nat_lt, slice_index}
use Rattle.expressions.specs.Numbering.{part_expr}
use Rattle.expressions.specs.declared.part.Part.{Part}
use Rattle.graphs.specs.Graphs.{Graph}
use Rattle.languages.specs.Cells.{Cell, Lengths}
use Rattle.refusals.specs.Rows.{Row, first_refusal}
use Rattle.refusals.specs.Table.{numbered}
use Rattle.refusals.specs.declared.Refusal.{Refusal}
use Rattle.refusals.specs.declared.Refusal.TheVariants.{SourceTooLarge, TableTooShort}
use Rattle.tables.specs.Layout.{start_of, cells_needed, cell_at}
use Rattle.tables.specs.Limits.{most_entries}

-- every cell of part q is that of its expression over a graph
abbrev pub Shows : Graph → List Part → List ℕ → ℕ → Type 0
Shows g parts table q =
    (u v : ℕ) → u < g.entries → v < g.entries → Cell (Lengths g (part_expr parts q) u v) (cell_at parts table g.entries q u v)

-- so it is for the first p parts
abbrev pub AllShow : Graph → List Part → ℕ → List ℕ → Type 0
AllShow g parts p table = (q : ℕ) → q < p → Shows g parts table q

-- the blocks of the first p parts are filled from a graph, and no cell behind them has changed
pub record Filled (g : Graph) (parts : List Part) (p : ℕ) (table table' : List ℕ) : Type 0 where
  pub kept : length table' ≡ length table
  pub cells : AllShow g parts p table'
  pub behind : (i : ℕ) → start_of parts g.entries p ≤ i → slice_index table' i ≡ slice_index table i

-- the rows that a filling is held to, for a table of so many cells where so many are needed: the source is not too large, and there is room for every cell
abbrev pub fill_rows : Graph → ℕ → ℕ → List Row
fill_rows g needed cells =
    (nat_lt most_entries g.entries, 32, 0, SourceTooLarge)
    ∷ (nat_lt cells needed, 33, 0, TableTooShort)
    ∷ []

-- a filling: the blocks of all parts, and how many entries there are; a refused one changes nothing
abbrev pub Fills : Graph → List Part → List ℕ → List ℕ → Result ℕ Refusal → Type 0
Fills g parts table table' (Ok n) = (first_refusal (fill_rows g (cells_needed parts g.entries) (length table)) ≡ None) × (n ≡ g.entries) × Filled g parts (length parts) table table'
Fills g parts table table' (Err x) = (first_refusal (fill_rows g (cells_needed parts g.entries) (length table)) ≡ Some (numbered x)) × (table' ≡ table)
