-- The steps that a table chooses, and the lines that they make; no public contract cites this file. Assumes nothing.
use Rattle.std.specs.Prelude.{◌≡◌, ℕ, ◌<◌, ◌≤◌, false, List, [], length, Some, None, Option, is_none}
use Rattle.languages.specs.Cells.{long}
use Rattle.languages.specs.declared.step.Step.{Step}
use Rattle.listing.specs.Lines.{pair_line, long_line}
use Rattle.queries.specs.Calls.{found_in}
use Rattle.queries.specs.Conditions.{entries_in, whole_cell}
use Rattle.queries.specs.Taking.{chosen_in}
use Rattle.queries.specs.declared.condition.Condition.{Condition}
use Rattle.queries.specs.declared.found.Found.{Found}
use Rattle.queries.specs.declared.found.Found.TheVariants.{Steps, Long, Absent}

-- a table leads to steps: for each pair that a path is told of, its steps are chosen
abbrev pub Unaltered : Condition → List ℕ → Type 0
Unaltered q table = (u v : ℕ) → u < entries_in q → v < entries_in q → whole_cell q table u v < long → is_none (chosen_in q table u v) ≡ false

-- those that are chosen, if any
abbrev pub steps_of : Option (List Step) → List Step
steps_of None = []
steps_of (Some s) = s

-- the line of a pair, by what a lookup finds and a trace writes; no line where there is no path
abbrev pub pair_text : ℕ → ℕ → List Step → Found → List ℕ
pair_text u v path (Steps k) = pair_line u v k path
pair_text u v path Long = long_line u v
pair_text u v path Absent = []

-- no line of a pair has more bytes than this
abbrev pub LinesWithin : ℕ → Condition → List ℕ → Type 0
LinesWithin most q table =
    (u v : ℕ) → u < entries_in q → v < entries_in q
    → length (pair_text u v (steps_of (chosen_in q table u v)) (found_in (whole_cell q table u v))) ≤ most
