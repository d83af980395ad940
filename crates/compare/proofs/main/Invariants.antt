use Rattle.std.proofs.Common.{◌≤◌}
use Rattle.compare.proofs.main.Given as goal

abbrev pub invariant-loop-example : goal.invariant-loop-example
invariant-loop-example l = l.agreeing ≤ l.example-index
