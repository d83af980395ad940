use Rattle.runs.proofs.Going.{Going}
use Rattle.runs.proofs.run.run.Given as goal

abbrev pub invariant-loop-i : goal.invariant-loop-i
invariant-loop-i g l = Going g.S.Source.graph l.requests l.initial.table l.table l.initial.steps l.steps l.initial.answers l.answers l.i l.written l.query
