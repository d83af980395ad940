use Rattle.std.proofs.Common.{◌≡◌, length}
use Rattle.asking.specs.Tells.{told, led, row_text}
use Rattle.asking.proofs.measure.measure_row.Given as goal

abbrev pub invariant-loop-v : goal.invariant-loop-v
invariant-loop-v l = l.size ≡ length (row_text (told l.evaluated) (led l.evaluated) l.u l.v)
