-- Places in a table, and what is written from one on; no public contract cites this file. Assumes nothing.
use Rattle.std.specs.Prelude.{◌≡◌, ℕ, ◌+◌, ◌<◌, List, [], ◌∷◌, ◌++◌, length, take, Some, None, Option}
use Rattle.languages.specs.declared.step.Step.{Step}
use Rattle.traces.specs.declared.chooser.Chooser.{Chooser}
use Rattle.traces.specs.declared.choice.Choice.{Choice}
use Rattle.traces.specs.declared.choice.Choice.TheVariants.{Stay, Along, Inside, Through}
use Rattle.tables.specs.Layout.{cell_at}
use Rattle.traces.specs.Taking.{joined, chosen}

-- a part and a pair that have a cell
pub record PlaceIn (chooser : Chooser) (q u v : ℕ) : Type 0 where
  pub part : q < length chooser.cells.parts.now
  pub from : u < chooser.cells.n
  pub to : v < chooser.cells.n

abbrev pub cells_in : Chooser → ℕ → ℕ → ℕ → ℕ
cells_in chooser = cell_at chooser.cells.parts.now chooser.cells.table.now chooser.cells.n

-- the steps that are chosen at a place
abbrev pub chosen_at : Chooser → ℕ → ℕ → ℕ → Option (List Step)
chosen_at chooser = chosen chooser.cells.parts.now chooser.cells.table.now chooser.cells.n

-- a part before q that counts as many steps, which are the steps at q
pub record Inner (chooser : Chooser) (q u v p : ℕ) : Type 0 where
  pub place : PlaceIn chooser p u v
  pub before : p < q
  pub count : cells_in chooser p u v ≡ cells_in chooser q u v
  pub same : chosen_at chooser q u v ≡ chosen_at chooser p u v

-- two places where less is left than at q, and whose steps make up those at q
pub record Halves (chooser : Chooser) (q u v l m r : ℕ) : Type 0 where
  pub first : PlaceIn chooser l u m
  pub second : PlaceIn chooser r m v
  pub sum : cells_in chooser l u m + cells_in chooser r m v ≡ cells_in chooser q u v
  pub first_less : l + cells_in chooser l u m < q + cells_in chooser q u v
  pub second_less : r + cells_in chooser r m v < q + cells_in chooser q u v
  pub same : chosen_at chooser q u v ≡ joined (chosen_at chooser l u m) (chosen_at chooser r m v)

-- what a choice tells of the steps that are chosen at a place
abbrev pub Chooses : Chooser → ℕ → ℕ → ℕ → Option Choice → Type 0
Chooses chooser q u v None = chosen_at chooser q u v ≡ None
Chooses chooser q u v (Some Stay) = (chosen_at chooser q u v ≡ Some []) × (cells_in chooser q u v ≡ 0)
Chooses chooser q u v (Some (Along step)) = (chosen_at chooser q u v ≡ Some (step ∷ [])) × (cells_in chooser q u v ≡ 1)
Chooses chooser q u v (Some (Inside p)) = Inner chooser q u v p
Chooses chooser q u v (Some (Through l m r)) = Halves chooser q u v l m r

-- so many chosen steps stand from an offset on, and what stood before them is as it was
pub record Stands (found : Option (List Step)) (k at end : ℕ) (steps steps' : List Step) : Type 0 where
  pub chosen : List Step
  pub are : found ≡ Some chosen
  pub count : length chosen ≡ k
  pub behind : end ≡ at + k
  pub written : take end steps' ≡ take at steps ++ chosen
