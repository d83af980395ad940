-- What holds of each kind of value that the program reads. Assumes nothing.
use Rattle.std.proofs.Common.{◌≡◌, ℕ, Bool, true, false, cond, eqb, List, Result}
use Rattle.queries.specs.declared.condition.Condition.{Condition}
use Rattle.refusals.specs.declared.Refusal.{Refusal}
use Rattle.asking.specs.Input.{program_room, value_kind}
use Rattle.asking.specs.Tells.{WorkedAs, Worked}
use Rattle.asking.specs.Kinds.{KindOfValue, days, names, kind_by}

module _ (P : KindOfValue → Type 0) (of_days : P days) (of_names : P names) where
  of_either : (b : Bool) → P (cond b days names)
  of_either true = of_days
  of_either false = of_names

  -- what holds of days and of names holds of what any number is read as
  pub of_each : (number : ℕ) → P (kind_by number)
  of_each number = of_either (eqb number 2)

-- a file whose head tells no other kind of value is read as one of names
pub worked_names : (file : List ℕ) (q : Condition) (t : List ℕ) (q' : Condition) (t' : List ℕ) (r : Result ℕ Refusal)
    → eqb (value_kind file) 2 ≡ false → WorkedAs names program_room file q t q' t' r → Worked file q t q' t' r
worked_names file q t q' t' r e w = rw e w
