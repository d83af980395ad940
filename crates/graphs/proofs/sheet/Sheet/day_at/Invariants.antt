use Rattle.std.proofs.Common.{◌≡◌, ◌+◌, ◌-◌, ◌≤◌, length}
use Rattle.graphs.specs.Sheets.{sheet_days}
use Rattle.graphs.proofs.sheet.Sheet.day_at.Given as goal

abbrev pub invariant-loop-month : goal.invariant-loop-month
invariant-loop-month l = record {
  low : l.self.month ≤ l.month-iterator.start;
  high : l.month-iterator.start ≤ l.month-iterator.end;
  end : l.month-iterator.end ≡ l.self.month + l.self.count;
  passed : length (sheet_days l.self.year l.self.month (l.month-iterator.start - l.self.month)) + l.left ≡ l.initial.left;
}
