use Rattle.std.proofs.Common.{◌≡◌, length, arith, rules}
use Rattle.std.proofs.lemmas.List.{places}
use Rattle.std.proofs.lemmas.Grind.{common_steps}
use Rattle.languages.specs.Algebra.{through}
use Rattle.tables.specs.Blocks.{block_cell}
use Rattle.tables.proofs.Rows.{row_over, row_cell}
use Rattle.tables.proofs.block.Block.relax_rows.Goals as goal

pub loop-u-preserved : goal.loop-u-preserved
loop-u-preserved c =
    let len : length c.relax_row.new.row ≡ c.args.self.now.n = search rules in
    row_over c.args.self.now.n c.loop-u.u (through c.args.k (block_cell c.args.self.now.n c.args.self.now.cells.now)) c.args.self.now.cells.now c.loop-u.cells c.relax_row.new.row c.loop-u-test.true (omega arith) len
    (λ v h.
    let a = row_cell c.args.self.now.n c.loop-u.u v c.loop-u.cells h in
    let a' = c.loop-u.invariant.rest c.loop-u.u v (omega arith) c.loop-u-test.true h in
    let b = c.loop-u.invariant.rest c.loop-u.u c.args.k (omega arith) c.loop-u-test.true c.requires.middle in
    let d = row_cell c.args.self.now.n c.args.k v c.args.self.now.cells.now h in
    grind (arith, common_steps, places, a, a', b, d, c.relax_row.ensures v (omega arith), c.copy_from_slice.ensures.after)) c.loop-u.invariant
