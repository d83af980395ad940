use Rattle.std.proofs.Common.{rules}
use Rattle.pairs.proofs.Written.{written_on}
use Rattle.pairs.proofs.writing.write_text.Goals as goal

pub loop-written-preserved : goal.loop-written-preserved
loop-written-preserved g c = (search rules, written_on _ _ _ _ _ _ c.loop-written.invariant.1 c.in_ok-written.ensures.taken)
