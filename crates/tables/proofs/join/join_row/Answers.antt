use Rattle.std.proofs.Common.{arith}
use Rattle.tables.proofs.Least.{least_small}
use Rattle.tables.proofs.join.join_row.Goals as goal

pub lower_row-requires-clause-small : goal.lower_row-requires-clause-small
lower_row-requires-clause-small c = λ v h. omega (arith, c.loop-m.invariant v (omega arith), least_small)
