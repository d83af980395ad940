-- What evaluation computes of cells; no public contract cites this file. Assumes nothing.
use Rattle.std.specs.Prelude.{ℕ, zero, suc, ◌+◌, ◌<◌, min, cond, nat_lt}
use Rattle.languages.specs.Cells.{long, none, Cell}

-- the cell of a path joined to another
abbrev pub sat_add : ℕ → ℕ → ℕ
sat_add a b = cond (nat_lt long a) none (cond (nat_lt long b) none (min (a + b) long))

-- the least over the middles below n
abbrev pub least_below : ℕ → (ℕ → ℕ) → ℕ
least_below zero f = none
least_below (suc n) f = min (least_below n f) (f n)

-- each cell again, with k allowed as a middle
abbrev pub through : ℕ → (ℕ → ℕ → ℕ) → ℕ → ℕ → ℕ
through k d u v = min (d u v) (sat_add (d u k) (d k v))

-- each cell, with every middle below k allowed
abbrev pub closed : ℕ → (ℕ → ℕ → ℕ) → ℕ → ℕ → ℕ
closed zero d = d
closed (suc k) d = through k (closed k d)

-- every cell of d is that of W
abbrev pub Cells : ℕ → (ℕ → ℕ → ℕ → Type 0) → (ℕ → ℕ → ℕ) → Type 0
Cells n W d = (u v : ℕ) → u < n → v < n → Cell (W u v) (d u v)
