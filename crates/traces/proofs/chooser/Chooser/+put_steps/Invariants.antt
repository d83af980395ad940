use Rattle.std.proofs.Common.{◌+◌}
use Rattle.traces.specs.Places.{cells_in}
use Rattle.traces.proofs.chooser.Chooser.+put_steps.Given as goal

abbrev pub decreases-put_steps : goal.decreases-put_steps
decreases-put_steps l = l.q + cells_in l.self.now l.q l.u l.v
