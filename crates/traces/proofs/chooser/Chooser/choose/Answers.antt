use Rattle.std.proofs.Common.{arith}
use Rattle.std.proofs.lemmas.Bool.Decides.{nat_tests}
use Rattle.expressions.proofs.Numbered.{part_stands}
use Rattle.traces.proofs.chooser.Chooser.choose.Goals as goal

pub inside-first-requires : goal.inside-first-requires
inside-first-requires c =
    let s = rw c.in-Either.is at (part_stands c.args.self.now.cells.parts.now c.args.q c.args.self.now.cells.formed c.requires.part) in
    record { part = grind (arith, nat_tests); from = c.requires.from; to = c.requires.to }

pub through-requires-clause-left : goal.through-requires-clause-left
through-requires-clause-left c =
    let s = rw c.in-Join.is at (part_stands c.args.self.now.cells.parts.now c.args.q c.args.self.now.cells.formed c.requires.part) in
    record { part = grind (arith, nat_tests); from = c.requires.from; to = c.requires.to }
