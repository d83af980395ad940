use Rattle.std.proofs.Common.{◌≡◌, ◌+◌, ◌-◌, ◌*◌, length}
use Rattle.expressions.specs.Reads.{AtomRead, ItemsRead, RunsRead}
use Rattle.expressions.proofs.reader.Reader.+reader.Given as goal

abbrev pub decreases-atom : goal.decreases-atom
decreases-atom l = 4 * (length l.self.now.text.now - l.self.now.at)

abbrev pub decreases-item : goal.decreases-item
decreases-item l = 4 * (length l.self.now.text.now - l.self.now.at) + 1

abbrev pub decreases-run : goal.decreases-run
decreases-run l = 4 * (length l.self.now.text.now - l.self.now.at) + 2

abbrev pub decreases-expression : goal.decreases-expression
decreases-expression l = 4 * (length l.self.now.text.now - l.self.now.at) + 3

abbrev pub invariant-item-loop-sign : goal.invariant-item-loop-sign
invariant-item-loop-sign l = record {
  read : AtomRead l.fn.self.text.now l.fn.self.at l.fn.self.draft l.self.draft l.self.at;
  text : l.self.text.now ≡ l.fn.self.text.now;
}

abbrev pub decreases-item-loop-sign : goal.decreases-item-loop-sign
decreases-item-loop-sign l = length l.self.text.now - l.self.at

abbrev pub invariant-run-loop-left : goal.invariant-run-loop-left
invariant-run-loop-left l = record {
  read : ItemsRead l.fn.self.text.now l.fn.self.at l.fn.self.draft l.self.draft l.self.at;
  text : l.self.text.now ≡ l.fn.self.text.now;
}

abbrev pub decreases-run-loop-left : goal.decreases-run-loop-left
decreases-run-loop-left l = length l.self.text.now - l.self.at

abbrev pub invariant-expression-loop-left : goal.invariant-expression-loop-left
invariant-expression-loop-left l = record {
  read : RunsRead l.fn.self.text.now l.fn.self.at l.fn.self.draft l.self.draft l.self.at;
  text : l.self.text.now ≡ l.fn.self.text.now;
}

abbrev pub decreases-expression-loop-left : goal.decreases-expression-loop-left
decreases-expression-loop-left l = length l.self.text.now - l.self.at
