use Rattle.std.proofs.Common.{below_more, arith}
use Rattle.tables.proofs.block.Block.keep_where.Goals as goal

pub loop-u-preserved : goal.loop-u-preserved
loop-u-preserved g c = below_more _ _ c.loop-v.invariant.above (λ v h. c.loop-v.invariant.here v (omega arith))
