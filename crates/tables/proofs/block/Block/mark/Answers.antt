use Rattle.std.proofs.Common.{arith}
use Rattle.tables.proofs.Marking.{inside, marked_passed, marked_more}
use Rattle.tables.proofs.block.Block.mark.Goals as goal
use Rattle.tables.proofs.block.Block.mark.Goals.{then-link-letter, else-link-letter}

pub loop-place-preserved : goal.loop-place-preserved
loop-place-preserved g c =
    let graph = g.S.Source.graph c.args.source.now in
    let n = c.args.self.now.n in
    let l = c.in-Some.link in
    let at = c.in-Some.ensures in
    let h = inside graph (g.met.S.Source.lawful c.args.source.now) c.loop-place.place n l at c.requires in
    elim c.if-link-letter.branch [
      | then-link-letter w ↦ rw w.cells-is (marked_more graph c.loop-place.place c.args.letter n c.loop-place.cells l at w.if-link-letter.true h.0 h.1 (omega arith) c.loop-place.invariant)
      | else-link-letter w ↦ rw w.cells-is (marked_passed graph c.loop-place.place c.args.letter n c.loop-place.cells l at w.if-link-letter.false c.loop-place.invariant)
    ]
