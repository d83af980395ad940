-- What the cells of a table lead to: the steps at each part and pair. Assumes nothing.
use Rattle.std.specs.Prelude.{◌≡◌, ℕ, List, [], ◌∷◌, ◌++◌, Some, None, Option}
use Rattle.expressions.specs.declared.part.Part.{Part}
use Rattle.languages.specs.declared.step.Step.{Step}
use Rattle.traces.specs.declared.choice.Choice.{Choice}
use Rattle.traces.specs.declared.choice.Choice.TheVariants.{Stay, Along, Inside, Through}
use Rattle.traces.specs.Choosing.{part_at, choose}

-- what is chosen at part q from u to v, for as many steps as its cell counts
abbrev pub choice_at : List Part → (ℕ → ℕ → ℕ → ℕ) → ℕ → ℕ → ℕ → ℕ → Option Choice
choice_at parts d n q u v = choose d n (part_at parts q) q u v (d q u v)

-- the steps that part q leads to from u to v: no step where it stays, the one of a letter, those of a part before it,
-- or those of two parts, over a middle
pub data LeadsTo (parts : List Part) (d : ℕ → ℕ → ℕ → ℕ) (n : ℕ) : ℕ → ℕ → ℕ → List Step → Type 0 where
  stays : {q u v : ℕ} → choice_at parts d n q u v ≡ Some Stay → LeadsTo parts d n q u v []
  goes_along : {q u v : ℕ} (step : Step) → choice_at parts d n q u v ≡ Some (Along step) → LeadsTo parts d n q u v (step ∷ [])
  goes_inside : {q u v : ℕ} (p : ℕ) {s : List Step} → choice_at parts d n q u v ≡ Some (Inside p) → LeadsTo parts d n p u v s → LeadsTo parts d n q u v s
  goes_over : {q u v : ℕ} (l m r : ℕ) {s t : List Step} → choice_at parts d n q u v ≡ Some (Through l m r) → LeadsTo parts d n l u m s → LeadsTo parts d n r m v t → LeadsTo parts d n q u v (s ++ t)

-- part q leads to no steps from u to v
abbrev pub LeadsNowhere : List Part → (ℕ → ℕ → ℕ → ℕ) → ℕ → ℕ → ℕ → ℕ → Type 0
LeadsNowhere parts d n q u v = (s : List Step) → LeadsTo parts d n q u v s → ⊥

-- the steps that part q leads to from u to v, or none
abbrev pub Leads : List Part → (ℕ → ℕ → ℕ → ℕ) → ℕ → ℕ → ℕ → ℕ → Option (List Step) → Type 0
Leads parts d n q u v None = LeadsNowhere parts d n q u v
Leads parts d n q u v (Some s) = LeadsTo parts d n q u v s
