-- Data paths. Assumes nothing.
use Rattle.std.specs.Prelude.{◌≡◌, ℕ, ◌<◌, List, [], ◌∷◌, Some}
use Rattle.graphs.specs.Graphs.{Graph, link_at}
use Rattle.languages.specs.declared.step.Step.{Step}

-- some place holds a link from u to v with the letter a
abbrev pub Linked : Graph → ℕ → ℕ → ℕ → Type 0
Linked g u a v = (k : ℕ) × (link_at g k ≡ Some (record { from = u; letter = a; to = v }))

-- the entry where steps from u end
abbrev pub end : ℕ → List Step → ℕ
end u [] = u
end u (x ∷ s) = end x.entry s

-- a data path from u to v: from each entry a link of the step's letter leads to the next; there may be no step
abbrev pub Path : Graph → ℕ → List Step → ℕ → Type 0
Path g u [] v = (u < g.entries) × (u ≡ v)
Path g u (x ∷ s) v = (u < g.entries) × Linked g u x.letter x.entry × Path g x.entry s v
