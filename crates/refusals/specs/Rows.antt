-- Tables of refusals, whose rows are tried from top to bottom. Assumes nothing.
use Rattle.std.specs.Prelude.{◌≡◌, ℕ, Bool, cond, List, [], ◌∷◌, Some, None, Ok, Err, Option, Result}
use Rattle.refusals.specs.Table.{numbered}
use Rattle.refusals.specs.declared.Refusal.{Refusal}

-- a row: when it applies, and the number, the place and the refusal that it gives then
abbrev pub Row : Type 0
Row = Bool × ℕ × ℕ × Refusal

-- what the first row that applies gives, or none
abbrev pub first_refusal : List Row → Option (ℕ × ℕ × Refusal)
first_refusal [] = None
first_refusal (row ∷ rows) = cond row.0 (Some (row.1, row.2, row.3)) (first_refusal rows)

-- a call is refused for this, by this number and at this place
abbrev pub IsRefused : {T : Type 0} → Result T Refusal → ℕ → ℕ → Refusal → Type 0
IsRefused r n at x = (r ≡ Err x) × (numbered x ≡ (n, at, x))

-- a call is refused exactly as the rows say, with their number and place, and is accepted, with an answer that is P, exactly when none of them applies
abbrev pub ByRows : {T : Type 0} → List Row → Result T Refusal → (T → Type 0) → Type 0
ByRows rows (Ok x) P = (first_refusal rows ≡ None) × P x
ByRows rows (Err y) P = first_refusal rows ≡ Some (numbered y)
