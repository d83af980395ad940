-- Cells that are lent for reading. Assumes nothing.
use Rattle.std.specs.Prelude.{◌≡◌, ℕ, ◌-◌, ◌*◌, ◌<◌, List, length}
use Rattle.expressions.specs.declared.part.Part.{Part}
use Rattle.tables.specs.declared.cells.Cells.{Cells}
use Rattle.tables.specs.Blocks.{cell}
use Rattle.tables.specs.Layout.{cell_at}

-- those of some parts, in a table, among n entries
abbrev pub Over : List Part → List ℕ → ℕ → Cells → Type 0
Over parts table n cells = (cells.parts.now ≡ parts) × (cells.table.now ≡ table) × (cells.n ≡ n)

-- the cells of the whole expression, which is the last part: n rows of n
pub record Whole (cells : Cells) (block : List ℕ) : Type 0 where
  pub size : length block ≡ cells.n * cells.n
  pub are : (u v : ℕ) → u < cells.n → v < cells.n → cell block 0 cells.n u v ≡ cell_at cells.parts.now cells.table.now cells.n (length cells.parts.now - 1) u v
