-- What rows give is one refusal at most. Assumes nothing.
use Rattle.std.proofs.Common.{◌≡◌, ℕ, List, [], Some, None, Ok, Err, Option, Result, sym, ap, ◌∙◌}
use Rattle.std.specs.Result.{IsOkAnd}
use Rattle.refusals.specs.Rows.{Row, first_refusal, ByRows}
use Rattle.refusals.specs.Table.{numbered}
use Rattle.refusals.specs.declared.Refusal.{Refusal}

-- the refusal in what rows give, or else another
abbrev case_in : Refusal → Option (ℕ × ℕ × Refusal) → Refusal
case_in other None = other
case_in other (Some found) = found.2

pub one_refusal : (found : Option (ℕ × ℕ × Refusal)) (x y : Refusal) → found ≡ Some (numbered x) → found ≡ Some (numbered y) → x ≡ y
one_refusal found x y a b = ap (case_in x) (sym a ∙ b)

-- a call that is held to rows is refused for what the first that applies gives
pub refused_by : {T : Type 0} (rows : List Row) (x : Refusal) (r : Result T Refusal) (P : T → Type 0) → first_refusal rows ≡ Some (numbered x) → ByRows rows r P → r ≡ Err x
refused_by rows x (Ok a) P e h = absurd (cc (e, h.0))
refused_by rows x (Err y) P e h = ap Err (one_refusal _ y x h e)

-- rows of which the first do not apply may be left out
pub left_rows : {T : Type 0} (rows rest : List Row) (r : Result T Refusal) (P : T → Type 0) → first_refusal rows ≡ first_refusal rest → ByRows rows r P → ByRows rest r P
left_rows rows rest (Ok a) P e h = (sym e ∙ h.0, h.1)
left_rows rows rest (Err y) P e h = sym e ∙ h

-- and where none is left the call is accepted
pub accepted_by : {T : Type 0} (r : Result T Refusal) (P Q : T → Type 0) → ((x : T) → P x → Q x) → ByRows [] r P → IsOkAnd r Q
accepted_by (Ok x) P Q k h = k x h.1
accepted_by (Err y) P Q k h = absurd (cc h)
