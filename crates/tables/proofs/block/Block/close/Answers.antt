use Rattle.std.proofs.Common.{arith}
use Rattle.tables.specs.Blocks.{cell_in}
use Rattle.tables.proofs.Least.{closed_small}
use Rattle.tables.proofs.block.Block.close.Goals as goal

pub relax_rows-requires-clause-small : goal.relax_rows-requires-clause-small
relax_rows-requires-clause-small c =
    rw c.loop-k.invariant.place.entries
    (λ u v p q. omega (arith, c.loop-k.invariant.cells u v p q, closed_small c.args.self.now.n c.loop-k.k (cell_in c.args.self.now) c.requires u v p q))
