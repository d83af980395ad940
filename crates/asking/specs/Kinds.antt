-- The kinds of value that the program reads, each by its number. Assumes nothing.
use Rattle.std.specs.Prelude.{ℕ, Bool, cond, List, ◌==◌}
use Rattle.kinds.specs.Days.{day_bytes, day_shape, same_day}
use Rattle.kinds.specs.Names.{text, name_shape, same_name}
use Rattle.kinds.specs.Payloads.{Shape}

-- a kind of value: how a file keeps its values, and which two of them are the same
pub record KindOfValue : Type 1 where
  pub Value : Type 0
  pub shape : Shape
  pub encoded : Value → List ℕ
  pub alike : Value → Value → Bool

-- the kind of value that is kept so
abbrev pub kept_as : {V : Type 0} → Shape → (V → List ℕ) → (V → V → Bool) → KindOfValue
kept_as {V} sh code same = record { Value = V; shape = sh; encoded = code; alike = same }

abbrev pub names : KindOfValue
names = kept_as name_shape text same_name

abbrev pub days : KindOfValue
days = kept_as day_shape day_bytes same_day

-- the kind of value that a number in a head stands for: 2 for days, and every other for names
abbrev pub kind_by : ℕ → KindOfValue
kind_by number = cond (number == 2) days names
