-- The steps that are chosen for the whole expression, as a function; no public contract cites this file. Assumes nothing.
use Rattle.std.specs.Prelude.{ℕ, ◌-◌, List, Option}
use Rattle.languages.specs.declared.step.Step.{Step}
use Rattle.traces.specs.Taking.{chosen}
use Rattle.queries.specs.declared.condition.Condition.{Condition}
use Rattle.queries.specs.Conditions.{list_in, count_in, entries_in}

-- the steps that the cells choose for the whole expression, or none where they lead to no steps
abbrev pub chosen_in : Condition → List ℕ → ℕ → ℕ → Option (List Step)
chosen_in q table u v = chosen (list_in q) table (entries_in q) (count_in q - 1) u v
