-- What it takes that one text was put behind another. Assumes nothing.
use Rattle.std.proofs.Common.{◌≡◌, ℕ, ◌+◌, List, drop, drop-drop}
use Rattle.std.proofs.lemmas.Grind.{common_steps}

-- two lists that are alike behind a place are alike behind a later one
pub alike_later : (xs ys : List ℕ) (i k : ℕ) → drop i xs ≡ drop i ys → drop (i + k) xs ≡ drop (i + k) ys
alike_later xs ys i k h = rw (← drop-drop k i xs, ← drop-drop k i ys, h)

pub ruleset putting = (common_steps, alike_later)
