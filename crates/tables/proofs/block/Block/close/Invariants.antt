use Rattle.languages.specs.Algebra.{closed}
use Rattle.tables.specs.Blocks.{cell_in, Holds, SamePlace}
use Rattle.tables.proofs.block.Block.close.Given as goal

abbrev pub invariant-loop-k : goal.invariant-loop-k
invariant-loop-k l = record {
  place : SamePlace l.initial.self l.self;
  cells : Holds l.initial.self.n l.self.cells.now (closed l.k (cell_in l.initial.self));
}
