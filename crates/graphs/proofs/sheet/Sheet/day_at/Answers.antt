use Rattle.std.proofs.Common.{arith, sym}
use Rattle.std.proofs.lemmas.Option.{slice_get_past}
use Rattle.graphs.proofs.SheetFacts.{day_within, length-sheet_days_more}
use Rattle.graphs.proofs.sheet.Sheet.day_at.Goals as goal

pub loop-month-preserved : goal.loop-month-preserved
loop-month-preserved c = grind (arith, length-sheet_days_more)

pub returns-then-left-length-clause-is : goal.returns-then-left-length-clause-is
returns-then-left-length-clause-is c =
    let s = c.args.self.now in
    sym (day_within s.year s.month s.count c.in-Some.month c.loop-month.left c.args.entry (grind arith) (grind arith) (grind arith) (grind arith))

pub returns-clause-is : goal.returns-clause-is
returns-clause-is c = grind (arith, slice_get_past)
