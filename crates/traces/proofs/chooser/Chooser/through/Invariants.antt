use Rattle.std.proofs.Common.{◌≡◌, None}
use Rattle.traces.specs.Choosing.{first, is_middle}
use Rattle.traces.specs.Places.{cells_in}
use Rattle.traces.proofs.chooser.Chooser.through.Given as goal

abbrev pub invariant-loop-middle : goal.invariant-loop-middle
invariant-loop-middle l = first l.middle (is_middle (cells_in l.self) l.least l.left l.right l.u l.v l.k) ≡ None
