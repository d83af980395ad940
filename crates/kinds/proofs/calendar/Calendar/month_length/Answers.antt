use Rattle.kinds.proofs.calendar.Calendar.month_length.Goals as goal

pub returns-in-2 : goal.returns-in-2
returns-in-2 c = rw (c.in-2.is, ← c.is_leap.ensures, c.if-is_leap.true)

pub returns-in-2-2 : goal.returns-in-2-2
returns-in-2-2 c = rw (c.in-2.is, ← c.is_leap.ensures, c.if-is_leap.false)
