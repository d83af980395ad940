use Rattle.std.proofs.Common.{◌≡◌, length, ap, ◌∙◌, arith, rules}
use Rattle.languages.specs.Algebra.{sat_add}
use Rattle.tables.specs.Blocks.{block_cell}
use Rattle.tables.proofs.Rows.{row_over, row_cell}
use Rattle.tables.proofs.Least.{least_same}
use Rattle.tables.proofs.block.Block.join.Goals as goal

pub loop-u-preserved : goal.loop-u-preserved
loop-u-preserved c =
    let len : length c.join_row.new.row ≡ c.args.self.now.n = search rules in
    row_over c.args.self.now.n c.loop-u.u _ c.args.self.now.cells.now c.loop-u.cells c.join_row.new.row c.loop-u-test.true (omega arith) len
    (λ v h. c.join_row.ensures v (omega arith) ∙ least_same c.args.self.now.n _ _ (λ m k. ap (λ x. sat_add x (block_cell c.args.self.now.n c.args.right.now m v)) (row_cell c.args.self.now.n c.loop-u.u m c.args.left.now k))) c.loop-u.invariant
