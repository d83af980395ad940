use Rattle.std.proofs.Common.{◌*◌, length, ap, arith, rules}
use Rattle.std.proofs.lemmas.List.{places}
use Rattle.tables.proofs.Rows.{row_end}
use Rattle.tables.proofs.Filling.{front_shown, filled_more}
use Rattle.tables.proofs.evaluate.fill_blocks.Goals as goal

pub fill-requires-clause-shown : goal.fill-requires-clause-shown
fill-requires-clause-shown g c =
    rw c.split_at_mut-done.ensures.front (front_shown (g.S.Source.graph c.args.source.now) c.args.parts.now c.loop-q.q _ c.loop-q.table (omega (arith, ap (λ k. c.loop-q.q * (k * k)) c.requires.entries)) c.loop-q.invariant.cells)

pub loop-q-preserved : goal.loop-q-preserved
loop-q-preserved g c =
    let r = row_end c.loop-q.q (c.args.n * c.args.n) (length c.args.parts.now) c.loop-q-test.true in
    rw (c.split_at_mut-done.ensures.front, c.split_at_mut-done.ensures.back)
    (filled_more (g.S.Source.graph c.args.source.now) c.args.n c.requires.entries c.args.parts.now c.loop-q.q c.args.table.now c.loop-q.table _ c.fill.new.self.cells.now c.loop-q.invariant (search (rules, places)) (omega arith) c.fill.ensures.cells (search rules))
