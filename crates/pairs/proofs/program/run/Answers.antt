use Rattle.pairs.proofs.Cut.{ends_known}
use Rattle.pairs.proofs.program.run.Goals as goal

pub returns : goal.returns
returns g c = ends_known _ _ _ _ _ _ c.in_ok-input.ensures c.deref.ensures.value c.answer_input.ensures
