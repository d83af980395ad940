use Rattle.runs.proofs.Followed.{runs_obey_lem}
use Rattle.runs.proofs.law.runs_obey.Goals as goal

pub returns : goal.returns
returns c = runs_obey_lem
