use Rattle.tables.proofs.Rows.{Lowered}
use Rattle.tables.proofs.relax.lower_row.Given as goal

abbrev pub invariant-loop-v : goal.invariant-loop-v
invariant-loop-v l = Lowered l.v l.first l.middle l.initial.row l.row
