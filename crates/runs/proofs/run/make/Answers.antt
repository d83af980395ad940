use Rattle.runs.proofs.Making.{made_parse, made_evaluate, made_lookup, made_next, made_tally, made_trace}
use Rattle.runs.proofs.run.make.Goals as goal

pub returns-in-Tally : goal.returns-in-Tally
returns-in-Tally g c = made_tally _ _ _ _ _ c.in-Tally.is _ c.tally.ensures.tallied

pub returns-in-Parse : goal.returns-in-Parse
returns-in-Parse g c = made_parse _ _ _ _ _ c.in-Parse.text c.in-Parse.is _ _ c.parse.ensures.parsed

pub returns-in-Evaluate : goal.returns-in-Evaluate
returns-in-Evaluate g c = made_evaluate _ _ _ _ _ c.in-Evaluate.source c.in-Evaluate.is _ _ _ c.evaluate.ensures.evaluated c.evaluate.ensures.meant

pub returns-in-Lookup : goal.returns-in-Lookup
returns-in-Lookup g c = made_lookup _ _ _ _ _ _ _ c.in-Lookup.is _ c.lookup.ensures.looked

pub returns-in-Next : goal.returns-in-Next
returns-in-Next g c = made_next _ _ _ _ _ _ c.in-Next.is _ c.next.ensures.answered

pub returns-in-Trace : goal.returns-in-Trace
returns-in-Trace g c = made_trace _ _ _ _ _ _ _ _ _ c.in-Trace.is c.min-room.ensures _ _ c.trace.ensures.traced
