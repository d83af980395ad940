-- The least over the middles, and cells with more middles allowed. Assumes nothing.
use Rattle.std.proofs.Common.{◌≡◌, ℕ, zero, suc, ◌<◌, ◌≤◌, refl, ap₂, min, arith}
use Rattle.languages.specs.Algebra.{least_below, closed}
use Rattle.languages.specs.Cells.{none}

pub least_small : (m : ℕ) (f : ℕ → ℕ) → least_below m f ≤ none
least_small zero f = omega arith
least_small (suc m) f = omega (arith, least_small m f)

pub least_same : (n : ℕ) (f g : ℕ → ℕ) → ((m : ℕ) → m < n → f m ≡ g m) → least_below n f ≡ least_below n g
least_same zero f g h = refl
least_same (suc n) f g h = ap₂ min (least_same n f g (λ m lt. h m (omega arith))) (h n (omega arith))

pub closed_small : (n k : ℕ) (d : ℕ → ℕ → ℕ) → ((u v : ℕ) → u < n → v < n → d u v ≤ none) → (u v : ℕ) → u < n → v < n → closed k d u v ≤ none
closed_small n zero d s u v p q = s u v p q
closed_small n (suc k) d s u v p q = omega (arith, closed_small n k d s u v p q)
