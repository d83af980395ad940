use Rattle.std.proofs.Common.{arith}
use Rattle.listing.specs.Lines.{first_line}
use Rattle.queries.specs.Pairs.{tallied}
use Rattle.asking.specs.Tells.{told, led, pairs_text}
use Rattle.asking.proofs.Listing.{pairs_more}
use Rattle.asking.proofs.Made.{lines_more}
use Rattle.asking.proofs.Sizes.{lines_upto}
use Rattle.asking.proofs.list.list.Goals as goal

pub put_row-end-requires-clause-room : goal.put_row-end-requires-clause-room
put_row-end-requires-clause-room c =
    let upto = lines_upto c.args.evaluated c.loop-u.u c.loop-u-test.true in
    omega (arith, upto, c.loop-u.invariant.size, c.requires)

pub loop-u-preserved : goal.loop-u-preserved
loop-u-preserved c =
    let d = told c.args.evaluated in
    let w = led c.args.evaluated in
    let n = c.args.evaluated.entries in
    lines_more (first_line n (tallied d n n)) (pairs_text d w n c.loop-u.u) _ _ _ _ _ _ _ _
    (pairs_more d w n c.loop-u.u) c.loop-u.invariant c.put_row-end.ensures
