use Rattle.std.proofs.Common.{◌≡◌, ℕ, ◌<◌, min, get_or}
use Rattle.tables.proofs.block.Block.lesser.Given as goal

abbrev pub invariant-loop-i : goal.invariant-loop-i
invariant-loop-i l = (k : ℕ) → k < l.i → get_or l.cells k 0 ≡ min (get_or l.left k 0) (get_or l.right k 0)
