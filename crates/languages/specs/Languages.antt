-- The languages of expressions: which data paths are in them. Assumes nothing.
use Rattle.std.specs.Prelude.{◌≡◌, ℕ, true, false, ◌⊎◌, List, [], ◌∷◌, ◌++◌}
use Rattle.expressions.specs.Exprs.{Expr, epsilon, letter, either, join, plus, star, same, differ}
use Rattle.graphs.specs.Graphs.{Graph}
use Rattle.languages.specs.declared.step.Step.{Step}
use Rattle.languages.specs.Paths.{Path, end}

-- one or more pieces of R, each from the entry where the one before ends
pub data Pieces (R : ℕ → List Step → Type 0) : ℕ → List Step → Type 0 where
  one : {u : ℕ} {s : List Step} → R u s → Pieces R u s
  more : {u : ℕ} {s t : List Step} → R u s → Pieces R (end u s) t → Pieces R u (s ++ t)

-- the steps s from u are those of a path in the language of an expression; that there are links for them is said by `Path`
abbrev pub In : Graph → Expr → ℕ → List Step → Type 0
-- no step
In g epsilon u s = s ≡ []
-- one step along a link of the letter
In g (letter a) u s = (v : ℕ) × (s ≡ record { letter = a; entry = v } ∷ [])
-- e has it, or f
In g (either e f) u s = In g e u s ⊎ In g f u s
-- cut once: e has what stands before the cut, and f what stands behind, from the entry at the cut on
In g (join e f) u s = (s₁ : List Step) × (s₂ : List Step) × (s ≡ s₁ ++ s₂) × In g e u s₁ × In g f (end u s₁) s₂
-- cut any number of times, or not at all: e has each piece
In g (plus e) u s = Pieces (In g e) u s
-- no step, or cut as for `plus`
In g (star e) u s = (s ≡ []) ⊎ Pieces (In g e) u s
-- e has it, and its two ends hold the same value
In g (same e) u s = In g e u s × (g.same u (end u s) ≡ true)
-- e has it, and its two ends do not hold the same value
In g (differ e) u s = In g e u s × (g.same u (end u s) ≡ false)

-- a data path in the language joins the pair u and v
abbrev pub Joined : Graph → Expr → ℕ → ℕ → List Step → Type 0
Joined g e u v s = Path g u s v × In g e u s
