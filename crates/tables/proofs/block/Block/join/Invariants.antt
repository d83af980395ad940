use Rattle.languages.specs.Algebra.{least_below, sat_add}
use Rattle.tables.specs.Blocks.{block_cell}
use Rattle.tables.proofs.Rows.{Rows}
use Rattle.tables.proofs.block.Block.join.Given as goal

abbrev pub invariant-loop-u : goal.invariant-loop-u
invariant-loop-u l = Rows l.n l.u (λ u v. least_below l.n (λ m. sat_add (block_cell l.n l.left u m) (block_cell l.n l.right m v))) l.initial.cells l.cells
