use Rattle.std.proofs.Common.{arith}
use Rattle.std.proofs.lemmas.Bool.Decides.{nat_tests}
use Rattle.graphs.proofs.sheet.Sheet.new.Goals as goal

pub returns-else-contains : goal.returns-else-contains
returns-else-contains c = grind (arith, nat_tests)
