use Rattle.std.proofs.Common.{◌≡◌, false, eqb, arith}
use Rattle.std.proofs.lemmas.Bool.Decides.{nat_tests}
use Rattle.asking.proofs.Kinded.{worked_names}
use Rattle.asking.specs.Input.{value_kind}
use Rattle.asking.proofs.ask.work.Goals as goal

pub returns-in_default : goal.returns-in_default
returns-in_default c =
    let other : eqb (value_kind c.args.file.now) 2 ≡ false = grind (arith, nat_tests) in
    worked_names _ _ _ _ _ _ other c.work_as-in_default.ensures
