use Rattle.languages.specs.Algebra.{through}
use Rattle.tables.specs.Blocks.{block_cell}
use Rattle.tables.proofs.Rows.{Rows}
use Rattle.tables.proofs.block.Block.relax_rows.Given as goal

abbrev pub invariant-loop-u : goal.invariant-loop-u
invariant-loop-u l = Rows l.n l.u (through l.k (block_cell l.n l.initial.cells)) l.initial.cells l.cells
