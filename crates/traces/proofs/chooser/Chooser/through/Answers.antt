use Rattle.std.proofs.Common.{sym, ap, arith}
use Rattle.traces.specs.Choosing.{is_middle, over}
use Rattle.traces.specs.Places.{cells_in}
use Rattle.traces.proofs.Firsts.{first_found}
use Rattle.traces.proofs.Leads.{middle_told}
use Rattle.traces.proofs.chooser.Chooser.through.Goals as goal

pub returns-then-k-before : goal.returns-then-k-before
returns-then-k-before c =
    let d = cells_in c.args.self.now in
    let m = c.loop-middle.middle in
    let is = middle_told d c.args.least c.args.left c.args.right c.args.u c.args.v c.args.k m c.cell-before.result c.cell.result (sym c.cell-before.ensures) (sym c.cell.ensures) c.if-least-before.true (omega arith) in
    sym (ap (over c.args.left c.args.right) (first_found m c.args.self.now.cells.n (is_middle d c.args.least c.args.left c.args.right c.args.u c.args.v c.args.k) c.loop-middle-test.true c.loop-middle.invariant is))
