use Rattle.listing.specs.Puts.{PutAt}
use Rattle.asking.specs.Tells.{told, led, row_text}
use Rattle.asking.proofs.list.put_row.Given as goal

abbrev pub invariant-loop-v : goal.invariant-loop-v
invariant-loop-v l = PutAt (row_text (told l.evaluated) (led l.evaluated) l.u l.v) l.at l.end l.fn.text l.text
