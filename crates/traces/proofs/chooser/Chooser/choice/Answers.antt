use Rattle.traces.proofs.Standing.{tells}
use Rattle.traces.proofs.chooser.Chooser.choice.Goals as goal

pub returns : goal.returns
returns c = rw (c.choose.ensures, c.cell.ensures) (tells c.args.self.now c.args.q c.args.u c.args.v c.requires)
