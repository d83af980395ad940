use Rattle.std.proofs.Common.{arith}
use Rattle.std.proofs.lemmas.Bool.Decides.{nat_tests}
use Rattle.graphs.proofs.SheetFacts.{length-sheet_days_few}
use Rattle.graphs.proofs.sheet.Sheet.days.Goals as goal

pub returns-clause-few : goal.returns-clause-few
returns-clause-few c = grind (arith, nat_tests, length-sheet_days_few)
