-- Blocks: a row of n cells for each of n entries. Of these only `cell` stands in promises. Assumes nothing.
use Rattle.std.specs.Prelude.{◌≡◌, ℕ, ◌+◌, ◌*◌, ◌<◌, ◌≤◌, Bool, true, false, ◌⊎◌, List, slice_index}
use Rattle.languages.specs.Cells.{none}
use Rattle.tables.specs.declared.block.Block.{Block}

-- the cell of u and v in the block of n rows of n cells that begins at an offset of a table
abbrev pub cell : List ℕ → ℕ → ℕ → ℕ → ℕ → ℕ
cell table base n u v = slice_index table (base + (u * n + v))

-- the cell of u and v in n rows of n cells
abbrev pub block_cell : ℕ → List ℕ → ℕ → ℕ → ℕ
block_cell n cells u v = slice_index cells (u * n + v)

-- n rows of n cells are these
abbrev pub Holds : ℕ → List ℕ → (ℕ → ℕ → ℕ) → Type 0
Holds n cells F = (u v : ℕ) → u < n → v < n → block_cell n cells u v ≡ F u v

-- the cell of u and v in a block
abbrev pub cell_in : Block → ℕ → ℕ → ℕ
cell_in block u v = block_cell block.n block.cells.now u v

-- a block lies where it did, for as many entries
pub record SamePlace (block block' : Block) : Type 0 where
  pub reference : block'.cells.ghost_name ≡ block.cells.ghost_name
  pub entries : block'.n ≡ block.n

-- no cell of a block is above the one that tells of no path
abbrev pub Small : Block → Type 0
Small block = (u v : ℕ) → u < block.n → v < block.n → cell_in block u v ≤ none

-- a cell is kept where a test may answer yes, and tells of no path where it may answer no
abbrev pub KeptIf : (Bool → Type 0) → ℕ → ℕ → Type 0
KeptIf answers c c' = (answers true × (c' ≡ c)) ⊎ (answers false × (c' ≡ none))

-- n rows of n cells are kept where a test may answer yes, and tell of no path where it may answer no
pub record KeptWhere (n : ℕ) (answers : ℕ → ℕ → Bool → Type 0) (before after : List ℕ) : Type 0 where
  pub cells : (u v : ℕ) → u < n → v < n → KeptIf (answers u v) (block_cell n before u v) (block_cell n after u v)
