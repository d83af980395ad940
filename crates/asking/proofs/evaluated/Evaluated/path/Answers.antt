use Rattle.std.proofs.Common.{arith}
use Rattle.std.proofs.lemmas.Grind.{common_steps}
use Rattle.queries.proofs.Tracing.{traces_chosen}
use Rattle.asking.proofs.Paths.{path_accepted}
use Rattle.asking.proofs.evaluated.Evaluated.path.Goals as goal

pub unwrap-count-requires : goal.unwrap-count-requires
unwrap-count-requires c = path_accepted _ _ _ _ _ _ _ c.trace.ensures.traced c.args.self.ready c.args.self.unaltered (omega (arith, c.args.self.all)) (omega (arith, c.args.self.all)) c.requires.short c.requires.room

pub returns-clause-chosen : goal.returns-clause-chosen
returns-clause-chosen c = let h = traces_chosen _ _ _ _ _ _ _ c.trace.ensures.traced in grind (arith, common_steps)
