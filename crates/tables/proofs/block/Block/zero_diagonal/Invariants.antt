use Rattle.std.proofs.Common.{cond, eqb}
use Rattle.tables.specs.Blocks.{block_cell}
use Rattle.tables.proofs.Rows.{Rows}
use Rattle.tables.proofs.block.Block.zero_diagonal.Given as goal

abbrev pub invariant-loop-u : goal.invariant-loop-u
invariant-loop-u l = Rows l.n l.u (λ u v. cond (eqb u v) 0 (block_cell l.n l.initial.cells u v)) l.initial.cells l.cells
