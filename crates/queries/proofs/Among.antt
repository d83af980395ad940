-- A question that an evaluated query is asked about a pair: outside the entries it is refused, and else it goes by the rows that are left. Assumes nothing.
use Rattle.std.proofs.Common.{◌≡◌, ℕ, ◌<◌, ◌≤◌, Bool, true, false, nat_lt, List, ◌++◌, length, Some, Option, Result, refl, arith}
use Rattle.std.proofs.lemmas.Bool.{le-ltb}
use Rattle.std.proofs.lemmas.Bool.Decides.{nat_tests}
use Rattle.std.specs.Bool.{MatchBool}
use Rattle.expressions.specs.Storing.{parts_of}
use Rattle.expressions.specs.declared.part.Parts.{Parts}
use Rattle.refusals.proofs.Numbered.{refused_by, left_rows}
use Rattle.refusals.specs.Rows.{Row, ByRows, IsRefused}
use Rattle.refusals.specs.declared.Refusal.{Refusal}
use Rattle.refusals.specs.declared.Refusal.TheVariants.{NoSuchEntry}
use Rattle.tables.specs.Layout.{cells_needed}
use Rattle.queries.specs.Calls.{outside, pair_rows}
use Rattle.queries.specs.Meanings.{AmongOr42}
use Rattle.queries.specs.Conditions.{evaluated}
use Rattle.queries.specs.declared.condition.Condition.TheVariants.{Parsed}

pub pair_within : (n u v : ℕ) → outside n (Some (u, v)) ≡ false → (u < n) × (v < n)
pair_within n u v o = (grind (arith, nat_tests), grind (arith, nat_tests))

module _ {T : Type 0} (p : Parts) (n : ℕ) (t : List ℕ) (room : cells_needed (parts_of p) n ≤ length t) (pair : Option (ℕ × ℕ)) (r : Result T Refusal) (rest : List Row) (P : T → Type 0) (h : ByRows (pair_rows (evaluated (Parsed p) n) t pair ++ rest) r P) where
  abbrev rows : List Row
  rows = pair_rows (evaluated (Parsed p) n) t pair ++ rest

  by_place : (b : Bool) (Q : Type 0) → outside n pair ≡ b → (outside n pair ≡ false → ByRows rest r P → Q) → MatchBool b (IsRefused r 42 0 NoSuchEntry) Q
  by_place true Q o answered = (refused_by rows NoSuchEntry r P (rw o refl) h, refl)
  by_place false Q o answered =
      let fits : nat_lt (length t) (cells_needed (parts_of p) n) ≡ false = le-ltb _ _ room in
      answered o (left_rows rows rest r P (rw (o, fits) refl) h)

  pub among : (Q : Type 0) → (outside n pair ≡ false → ByRows rest r P → Q) → AmongOr42 n pair r Q
  among Q answered = by_place (outside n pair) Q refl answered
