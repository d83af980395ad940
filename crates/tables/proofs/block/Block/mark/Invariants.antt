use Rattle.tables.specs.Marks.{Marked}
use Rattle.tables.proofs.block.Block.mark.Given as goal

abbrev pub invariant-loop-place : goal.invariant-loop-place
invariant-loop-place g l = Marked (g.S.Source.graph l.source) l.place l.letter l.n l.cells
