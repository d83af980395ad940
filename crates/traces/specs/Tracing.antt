-- What a trace is refused by, and what it leaves. Assumes nothing.
use Rattle.std.specs.Prelude.{◌≡◌, ℕ, ◌-◌, ◌||◌, List, [], ◌∷◌, length, Some, None, Ok, Err, Option, Result, ◌==◌, nat_le, nat_lt, is_none}
use Rattle.expressions.specs.declared.part.Part.{Part}
use Rattle.languages.specs.Cells.{long}
use Rattle.languages.specs.declared.step.Step.{Step}
use Rattle.refusals.specs.Rows.{Row, first_refusal}
use Rattle.refusals.specs.Table.{numbered}
use Rattle.refusals.specs.declared.Refusal.{Refusal}
use Rattle.refusals.specs.declared.Refusal.TheVariants.{NoSuchEntry, TableCut, NoPath, OnlyLongPaths, StepsTooShort, TableAltered}
use Rattle.tables.specs.Layout.{cells_needed, cell_at}
use Rattle.traces.specs.Choosing.{whole_count, Taken}
use Rattle.traces.specs.Leading.{Leads}

-- the row of the cells that choose the steps: they may lead to none
abbrev pub steps_row : Option (List Step) → List Row
steps_row found = (is_none found, 49, 0, TableAltered) ∷ []

-- the rows that a path is held to: what its cell tells, the room for the steps, and the cells that choose them
abbrev pub path_rows : ℕ → ℕ → Option (List Step) → List Row
path_rows c room found =
    (nat_lt long c, 44, 0, NoPath)
    ∷ (c == long, 45, 0, OnlyLongPaths)
    ∷ (nat_lt room c, 46, 0, StepsTooShort)
    ∷ steps_row found

-- the rows that a trace is held to: the pair, the table, and then the path
abbrev pub trace_rows : List Part → List ℕ → ℕ → ℕ → ℕ → ℕ → Option (List Step) → List Row
trace_rows parts table n u v room found =
    (nat_le n u || nat_le n v, 42, 0, NoSuchEntry)
    ∷ (nat_lt (length table) (cells_needed parts n), 43, 0, TableCut)
    ∷ path_rows (whole_count parts table n u v) room found

-- steps are taken just where no row applies: those that are chosen, as many as the cell tells, stand at the front, and what lies behind them is as it was; a refusal changes nothing
abbrev pub TakenBy : List Row → ℕ → Option (List Step) → List Step → List Step → Result ℕ Refusal → Type 0
TakenBy rows c found steps steps' (Ok k) = (first_refusal rows ≡ None) × (k ≡ c) × Taken found k steps steps'
TakenBy rows c found steps steps' (Err x) = (first_refusal rows ≡ Some (numbered x)) × (steps' ≡ steps)

-- a trace: the steps are those that the whole expression, which is the last part, leads to, if to any; it leads to no others
pub record TracesSteps (parts : List Part) (table : List ℕ) (n u v : ℕ) (steps steps' : List Step) (r : Result ℕ Refusal) : Type 0 where
  pub found : Option (List Step)
  pub led : Leads parts (cell_at parts table n) n (length parts - 1) u v found
  pub once : (other : Option (List Step)) → Leads parts (cell_at parts table n) n (length parts - 1) u v other → other ≡ found
  pub taken : TakenBy (trace_rows parts table n u v (length steps) found) (whole_count parts table n u v) found steps steps' r
