use Rattle.std.proofs.Common.{◌≡◌, length}
use Rattle.asking.specs.Tells.{lines_before}
use Rattle.asking.proofs.measure.measure.Given as goal

abbrev pub invariant-loop-u : goal.invariant-loop-u
invariant-loop-u l = l.size ≡ length (lines_before l.evaluated l.u)
