-- The lines of an answer: what they tell of a graph and an expression. Assumes nothing.
use Rattle.std.specs.Prelude.{◌≡◌, ℕ, List, ◌++◌, length, flat_map}
use Rattle.expressions.specs.Exprs.{Expr}
use Rattle.graphs.specs.Graphs.{Graph}
use Rattle.languages.specs.Languages.{Joined}
use Rattle.languages.specs.declared.step.Step.{Step}
use Rattle.listing.specs.Lines.{first_line, pair_line, long_line}
use Rattle.queries.specs.Meanings.{IsJoined, JoinedPairs, Told}
use Rattle.queries.specs.declared.found.Found.{Found}
use Rattle.queries.specs.declared.found.Found.TheVariants.{Steps, Long, Absent}

-- the line of a pair of which so much is told: the count of steps with the path, which has so many and joins the pair, or that there are long ones alone; a pair that is not joined has no line
abbrev pub LineBy : Graph → Expr → ℕ → ℕ → List Step → List ℕ → Found → Type 0
LineBy g e u v path line (Steps k) = Joined g e u v path × (length path ≡ k) × (line ≡ pair_line u v k path)
LineBy g e u v path line Long = line ≡ long_line u v
LineBy g e u v path line Absent = ⊥

-- the line of a joined pair tells what is so
abbrev pub LineOf : Graph → Expr → ℕ → ℕ → List Step → List ℕ → Type 0
LineOf g e u v path line = (f : Found) × Told g e u v f × LineBy g e u v path line f

-- all the lines: the first, which counts the entries and the joined pairs, and then one for each joined pair, in their order
pub record Lines (g : Graph) (e : Expr) (path : ℕ → ℕ → List Step) (lines : List ℕ) : Type 0 where
  pub pairs : List (ℕ × ℕ)
  pub joined : JoinedPairs g e pairs
  pub line : ℕ → ℕ → List ℕ
  pub tells : (u v : ℕ) → IsJoined g e u v → LineOf g e u v (path u v) (line u v)
  pub text : lines ≡ first_line g.entries (length pairs) ++ flat_map (λ pair. line pair.0 pair.1) pairs
