-- Pairs of entries in their order: the first of a kind, and their number. Of these `From` stands in no promise. Assumes nothing.
use Rattle.std.specs.Prelude.{◌≡◌, ℕ, zero, suc, ◌+◌, ◌<◌, ◌≤◌, cond, ◌⊎◌, List, [], ◌∷◌, ◌++◌, Some, None, Option, nat_le}
use Rattle.languages.specs.Cells.{long}

-- (a, b) comes before (x, y): by the first entry, and then by the second
abbrev pub Before : ℕ → ℕ → ℕ → ℕ → Type 0
Before a b x y = (a < x) ⊎ ((a ≡ x) × (b < y))

-- (x, y) comes after the pair that is given, if one is
abbrev pub After : Option (ℕ × ℕ) → ℕ → ℕ → Type 0
After None x y = Unit {0}
After (Some given) x y = Before given.0 given.1 x y

-- (x, y) is (u, v) or comes after it
abbrev pub From : ℕ → ℕ → ℕ → ℕ → Type 0
From u v x y = (u < x) ⊎ ((u ≡ x) × (v ≤ y))

-- (x, y) is the first pair among n entries that is in reach and of which P holds
pub record FirstIs (Reach : ℕ → ℕ → Type 0) (n : ℕ) (P : ℕ → ℕ → Type 0) (x y : ℕ) : Type 0 where
  pub row : x < n
  pub column : y < n
  pub reached : Reach x y
  pub holds : P x y
  pub none_before : (a b : ℕ) → a < n → b < n → Reach a b → Before a b x y → P a b → ⊥

-- the first such pair, or that there is none
abbrev pub First : (ℕ → ℕ → Type 0) → ℕ → (ℕ → ℕ → Type 0) → Option (ℕ × ℕ) → Type 0
First Reach n P None = (a b : ℕ) → a < n → b < n → Reach a b → P a b → ⊥
First Reach n P (Some pair) = FirstIs Reach n P pair.0 pair.1

-- a cell that tells of a path
abbrev pub Reaches : (ℕ → ℕ → ℕ) → ℕ → ℕ → Type 0
Reaches d u v = d u v ≤ long

-- the pairs of u and each entry below v whose cells tell of a path, in their order
abbrev pub reached_in_row : (ℕ → ℕ → ℕ) → ℕ → ℕ → List (ℕ × ℕ)
reached_in_row d u zero = []
reached_in_row d u (suc v) = reached_in_row d u v ++ cond (nat_le (d u v) long) ((u, v) ∷ []) []

-- those of the first rows, among n entries
abbrev pub reached_pairs : (ℕ → ℕ → ℕ) → ℕ → ℕ → List (ℕ × ℕ)
reached_pairs d n zero = []
reached_pairs d n (suc u) = reached_pairs d n u ++ reached_in_row d u n

-- 1 for such a cell, and 0 for any other
abbrev pub reaches : ℕ → ℕ
reaches c = cond (nat_le c long) 1 0

-- the sum of f k over each k below n
abbrev pub sum_to : (ℕ → ℕ) → ℕ → ℕ
sum_to f zero = 0
sum_to f (suc n) = sum_to f n + f n

-- how many pairs of the first rows have a cell that tells of a path
abbrev pub tallied : (ℕ → ℕ → ℕ) → ℕ → ℕ → ℕ
tallied d n rows = sum_to (λ u. sum_to (λ v. reaches (d u v)) n) rows
