use Rattle.std.proofs.Common.{◌≡◌, ℕ, ◌<◌, get_or}
use Rattle.languages.specs.Algebra.{least_below, sat_add}
use Rattle.tables.specs.Blocks.{block_cell}
use Rattle.tables.proofs.join.join_row.Given as goal

abbrev pub invariant-loop-m : goal.invariant-loop-m
invariant-loop-m l = (v : ℕ) → v < l.n → get_or l.row v 0 ≡ least_below l.m (λ j. sat_add (get_or l.left j 0) (block_cell l.n l.right j v))
