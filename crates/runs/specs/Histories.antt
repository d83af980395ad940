-- Histories: the calls of one query, each with what it answered. Assumes nothing.
use Rattle.std.specs.Prelude.{ℕ, List, Option, Result}
use Rattle.graphs.specs.Graphs.{Graph}
use Rattle.languages.specs.declared.step.Step.{Step}
use Rattle.queries.specs.declared.found.Found.{Found}
use Rattle.refusals.specs.Rows.{Row}
use Rattle.refusals.specs.declared.Refusal.{Refusal}

-- a question, and what it answered: a trace's buffer stands as how many steps it has room for, and what a trace answered as the steps that it wrote
pub data Question : Type 0 where
  lookup : ℕ → ℕ → Result Found Refusal → Question
  next : Option (ℕ × ℕ) → Result (Option (ℕ × ℕ)) Refusal → Question
  tally : Result ℕ Refusal → Question
  trace : ℕ → ℕ → ℕ → Result (List Step) Refusal → Question

-- a call, and what it answered: a wording was read; an expression was evaluated, into a table of so many cells, over the graph that the source means, and held to some rows before those of an evaluation; or a question was asked
pub data Event : Type 0 where
  wording : List ℕ → Result Unit Refusal → Event
  evaluation : ℕ → List Row → Graph → Result Unit Refusal → Event
  question : Question → Event

-- the latest call stands first
abbrev pub History : Type 0
History = List Event
