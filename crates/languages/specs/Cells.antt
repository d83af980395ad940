-- Cells: the least count of steps, where counts from 1,000 on are told as 1,000, and 1,001 tells that there is none. Assumes nothing.
use Rattle.std.specs.Prelude.{◌≡◌, ℕ, ◌<◌, ◌≤◌, min, List, length}
use Rattle.expressions.specs.Exprs.{Expr}
use Rattle.graphs.specs.Graphs.{Graph}
use Rattle.languages.specs.declared.step.Step.{Step}
use Rattle.languages.specs.Languages.{Joined}

abbrev pub long : ℕ
long = 1000

abbrev pub none : ℕ
none = 1001

-- c is the cell of a set of numbers
pub record Cell (S : ℕ → Type 0) (c : ℕ) : Type 0 where
  pub small : c ≤ none
  pub some : c < none → (l : ℕ) × S l × (min l long ≡ c)
  pub least : (l : ℕ) → S l → c ≤ min l long

-- the numbers of steps of the data paths of e that join u and v
abbrev pub Lengths : Graph → Expr → ℕ → ℕ → ℕ → Type 0
Lengths g e u v l = (s : List Step) × Joined g e u v s × (length s ≡ l)
