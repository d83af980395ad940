use Rattle.std.proofs.Common.{arith}
use Rattle.asking.proofs.Sizes.{lines_upto, listing_short}
use Rattle.asking.proofs.measure.measure.Goals as goal

pub overflow_add-size : goal.overflow_add-size
overflow_add-size c =
    let e = c.args.evaluated in
    let upto = lines_upto e c.loop-u.u c.loop-u-test.true in
    omega (arith, upto, listing_short e, c.loop-u.invariant, c.measure_row-size.ensures)
