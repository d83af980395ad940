use Rattle.std.proofs.Common.{arith}
use Rattle.kinds.specs.Calendars.{leap}
use Rattle.kinds.proofs.DayFacts.{month_some}
use Rattle.kinds.proofs.day.Day.on_date.Goals as goal

pub kept_within-requires : goal.kept_within-requires
kept_within-requires c = omega (arith, month_some (leap c.args.self.now.calendar c.in_year.result) c.in_month.result (omega arith) (omega arith))
