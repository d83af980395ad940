use Rattle.listing.specs.Puts.{PutAt}
use Rattle.asking.specs.Tells.{lines_before}
use Rattle.asking.proofs.list.list.Given as goal

abbrev pub invariant-loop-u : goal.invariant-loop-u
invariant-loop-u l = PutAt (lines_before l.evaluated l.u) 0 l.end l.fn.text l.text
