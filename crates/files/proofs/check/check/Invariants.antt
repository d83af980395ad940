use Rattle.std.proofs.Common.{length, Some}
use Rattle.files.proofs.Growing.{Going}
use Rattle.files.proofs.check.check.Given as goal

abbrev pub invariant-loop-left : goal.invariant-loop-left
invariant-loop-left g l = Going g.K.Payload.Payload.shape l.room l.bytes l.left (Some l.read)

abbrev pub decreases-loop-left : goal.decreases-loop-left
decreases-loop-left g l = length l.left
