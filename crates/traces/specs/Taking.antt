-- The steps that choices lead to, as a function; no public contract cites this file. Assumes nothing.
use Rattle.std.specs.Prelude.{◌≡◌, ℕ, zero, suc, ◌+◌, ◌<◌, List, [], ◌∷◌, ◌++◌, length, Some, None, Option}
use Rattle.expressions.specs.declared.part.Part.{Part}
use Rattle.languages.specs.declared.step.Step.{Step}
use Rattle.tables.specs.Layout.{cell_at}
use Rattle.traces.specs.declared.choice.Choice.{Choice}
use Rattle.traces.specs.declared.choice.Choice.TheVariants.{Stay, Along, Inside, Through}
use Rattle.traces.specs.Choosing.{part_at, choose}

-- the steps of one path and then those of another
abbrev pub joined : Option (List Step) → Option (List Step) → Option (List Step)
joined (Some s) (Some t) = Some (s ++ t)
joined (Some s) None = None
joined None found = None

-- the steps that a choice leads to, by those of the parts and pairs that it names
abbrev pub follow : (ℕ → ℕ → ℕ → Option (List Step)) → ℕ → ℕ → Option Choice → Option (List Step)
follow go u v None = None
follow go u v (Some Stay) = Some []
follow go u v (Some (Along step)) = Some (step ∷ [])
follow go u v (Some (Inside q)) = go q u v
follow go u v (Some (Through left m right)) = joined (go left u m) (go right m v)

-- the steps that are taken at part q from u to v, with so much fuel: a number from which each choice takes one, so that the definition ends. A choice leads to where the number of the part and the cell add up to less
abbrev pub taken_within : List Part → (ℕ → ℕ → ℕ → ℕ) → ℕ → ℕ → ℕ → ℕ → ℕ → Option (List Step)
taken_within parts d n zero q u v = None
taken_within parts d n (suc fuel) q u v = follow (taken_within parts d n fuel) u v (choose d n (part_at parts q) q u v (d q u v))

-- the steps that are taken at part q from u to v, or none where the cells lead to no steps: the fuel suffices
unfoldable pub chosen : List Part → List ℕ → ℕ → ℕ → ℕ → ℕ → Option (List Step)
chosen parts table n q u v = taken_within parts (cell_at parts table n) n (q + cell_at parts table n q u v + 1) q u v

-- the fuel does not matter: the steps at a part and a pair are those that the choice there leads to
abbrev pub ByChoice : List Part → List ℕ → ℕ → Type 0
ByChoice parts table n =
    (q u v : ℕ) → q < length parts → chosen parts table n q u v ≡ follow (chosen parts table n) u v (choose (cell_at parts table n) n (part_at parts q) q u v (cell_at parts table n q u v))
