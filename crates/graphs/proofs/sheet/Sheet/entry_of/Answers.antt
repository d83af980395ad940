use Rattle.std.proofs.Common.{arith}
use Rattle.std.proofs.lemmas.Bool.Decides.{nat_tests}
use Rattle.graphs.proofs.SheetFacts.{entry_of_days}
use Rattle.graphs.proofs.sheet.Sheet.entry_of.Goals as goal
use Rattle.graphs.proofs.sheet.Sheet.entry_of.Goals.{then-contains, else-contains}

pub returns : goal.returns
returns c =
    let s = c.args.self.now in
    rw (entry_of_days s.year s.month s.count c.args.month c.args.date)
    (elim c.if-contains.branch [ then-contains w ↦ grind (arith, nat_tests) | else-contains w ↦ grind (arith, nat_tests) ])
