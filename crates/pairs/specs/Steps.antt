-- What private functions say; no public contract cites this file. Assumes nothing.
use Rattle.std.specs.Prelude.{ℕ, List}
use Rattle.asking.specs.Answers.{Listed}
use Rattle.asking.specs.declared.answer.Answer.{Answer}
use Rattle.pairs.specs.Program.{RefusalLine}

-- the text that is due for an input, by what it is said to be
abbrev pub DueBy : List ℕ → Answer → List ℕ → Type 0
DueBy input (Answer.Listed n) text = Listed input text
DueBy input (Answer.Refused n) text = RefusalLine input text
