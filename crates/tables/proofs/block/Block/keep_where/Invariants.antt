use Rattle.std.proofs.Common.{ℕ, ◌<◌}
use Rattle.tables.specs.Blocks.{block_cell, KeptIf}
use Rattle.tables.proofs.block.Block.keep_where.Given as goal

abbrev pub invariant-loop-u : goal.invariant-loop-u
invariant-loop-u g l = (u : ℕ) → u < l.u → (v : ℕ) → v < l.n → KeptIf (goal.F-post g l.passes u v) (block_cell l.n l.before u v) (block_cell l.n l.cells u v)

abbrev pub invariant-loop-v : goal.invariant-loop-v
invariant-loop-v g l = record {
  above : (u : ℕ) → u < l.u → (v : ℕ) → v < l.n → KeptIf (goal.F-post g l.passes u v) (block_cell l.n l.before u v) (block_cell l.n l.cells u v);
  here : (v : ℕ) → v < l.v → KeptIf (goal.F-post g l.passes l.u v) (block_cell l.n l.before l.u v) (block_cell l.n l.cells l.u v);
}
