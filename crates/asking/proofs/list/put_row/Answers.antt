use Rattle.std.proofs.Common.{arith}
use Rattle.asking.specs.Tells.{told, led}
use Rattle.asking.proofs.Listing.{row_more}
use Rattle.asking.proofs.Made.{put_more}
use Rattle.asking.proofs.Sizes.{row_upto}
use Rattle.asking.proofs.list.put_row.Goals as goal

pub put_pair-end-requires-clause-room : goal.put_pair-end-requires-clause-room
put_pair-end-requires-clause-room c =
    let e = c.args.evaluated in
    let upto = row_upto (told e) (led e) c.args.u c.loop-v.v e.entries c.loop-v-test.true in
    omega (arith, upto, c.loop-v.invariant.size, c.requires.room)

pub loop-v-preserved : goal.loop-v-preserved
loop-v-preserved c =
    let e = c.args.evaluated in
    let more = row_more (told e) (led e) c.args.u c.loop-v.v in
    put_more _ _ _ _ _ _ _ _ _ more c.loop-v.invariant c.put_pair-end.ensures
