use Rattle.std.proofs.Common.{◌≡◌, suc, ◌+◌, arith}
use Rattle.asking.specs.Tells.{told, led}
use Rattle.asking.proofs.Sizes.{row_upto, row_short, row_length}
use Rattle.asking.proofs.measure.measure_row.Goals as goal

pub overflow_add-size : goal.overflow_add-size
overflow_add-size c =
    let e = c.args.evaluated in
    let upto = row_upto (told e) (led e) c.args.u c.loop-v.v e.entries c.loop-v-test.true in
    omega (arith, upto, row_short e c.args.u c.requires.first, c.loop-v.invariant, c.put_pair-size.ensures.size)

pub loop-v-preserved : goal.loop-v-preserved
loop-v-preserved c =
    let e = c.args.evaluated in
    let next : c.loop-v.v + 1 ≡ suc c.loop-v.v = omega arith in
    rw next (omega (arith, row_length (told e) (led e) c.args.u c.loop-v.v, c.loop-v.invariant, c.put_pair-size.ensures.size))
