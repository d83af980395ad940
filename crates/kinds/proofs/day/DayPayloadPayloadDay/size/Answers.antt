use Rattle.kinds.proofs.DayFacts.{day_valid}
use Rattle.kinds.proofs.day.DayPayloadPayloadDay.size.Goals as goal

pub returns-clause-valid : goal.returns-clause-valid
returns-clause-valid c = day_valid c.args._value.now
