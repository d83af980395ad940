-- Where the cells of an expression's parts lie in a table, and how many there are. Assumes nothing.
use Rattle.std.specs.Prelude.{ℕ, ◌*◌, List, length}
use Rattle.expressions.specs.Exprs.{Expr}
use Rattle.expressions.specs.Numbering.{parts_from}
use Rattle.expressions.specs.declared.part.Part.{Part}
use Rattle.tables.specs.Blocks.{cell}

-- where the cells of part q begin, among n entries: each part before it, whatever it is, has n rows of n cells
abbrev pub start_of : List Part → ℕ → ℕ → ℕ
start_of parts n q = q * (n * n)

-- how many cells some parts need
abbrev pub cells_needed : List Part → ℕ → ℕ
cells_needed parts n = start_of parts n (length parts)

-- the cell of part q that tells of u and v: in the row of u, and there in the place of v
abbrev pub cell_at : List Part → List ℕ → ℕ → ℕ → ℕ → ℕ → ℕ
cell_at parts table n q u v = cell table (start_of parts n q) n u v

-- how many cells an expression needs: as many as its parts
abbrev pub cells_for : Expr → ℕ → ℕ
cells_for e n = cells_needed (parts_from 0 e) n
