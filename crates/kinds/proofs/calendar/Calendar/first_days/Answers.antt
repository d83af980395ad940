use Rattle.kinds.proofs.calendar.Calendar.first_days.Goals as goal

pub returns-in-Gregorian : goal.returns-in-Gregorian
returns-in-Gregorian c = rw c.in-Gregorian.is

pub returns-in-Julian : goal.returns-in-Julian
returns-in-Julian c = rw c.in-Julian.is
