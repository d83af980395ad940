-- The texts of the lines, and what the making of a line answers and leaves in memory. Assumes nothing.
use Rattle.std.specs.Prelude.{◌≡◌, ℕ, List, [], ◌∷◌, ◌++◌, length, take, drop, flat_map, Some, None, Ok, Err, codes, decimal, Result, nat_lt}
use Rattle.languages.specs.declared.step.Step.{Step}
use Rattle.refusals.specs.Rows.{Row, first_refusal}
use Rattle.refusals.specs.Table.{numbered, refusal_text}
use Rattle.refusals.specs.declared.Refusal.{Refusal}
use Rattle.refusals.specs.declared.Refusal.TheVariants.{TextTooShort}

-- the end of a line
abbrev pub newline : List ℕ
newline = 10 ∷ []

-- refused 13 at 6
abbrev pub refusal_line : Refusal → List ℕ
refusal_line x = refusal_text x ++ newline

-- entries 4 pairs 3
abbrev pub first_line : ℕ → ℕ → List ℕ
first_line entries pairs = codes "entries " ++ decimal entries ++ codes " pairs " ++ decimal pairs ++ newline

-- c1: the letter of a step, and the entry that it leads to
abbrev pub step_text : Step → List ℕ
step_text step = step.letter ∷ decimal step.entry

-- 0 2 2 0c1c2: behind the numbers the path, from its first entry on
abbrev pub pair_line : ℕ → ℕ → ℕ → List Step → List ℕ
pair_line u v count path = decimal u ++ codes " " ++ decimal v ++ codes " " ++ decimal count ++ codes " " ++ decimal u ++ flat_map step_text path ++ newline

-- 0 2 long
abbrev pub long_line : ℕ → ℕ → List ℕ
long_line u v = decimal u ++ codes " " ++ decimal v ++ codes " long" ++ newline

-- a line has at most so many bytes, and at most so many more for each step of a path
abbrev pub most_line : ℕ
most_line = 128

abbrev pub most_step : ℕ
most_step = 21

-- the row that the making of a line is held to, for a buffer of so many bytes
abbrev pub line_rows : List ℕ → ℕ → List Row
line_rows text room = (nat_lt room (length text), 47, 0, TextTooShort) ∷ []

-- a line was made: it lies at the front of the buffer, and what lies behind is as it was
pub record Laid (text out out' : List ℕ) (n : ℕ) : Type 0 where
  pub none : first_refusal (line_rows text (length out)) ≡ None
  pub size : n ≡ length text
  pub front : take n out' ≡ text
  pub behind : drop n out' ≡ drop n out

-- the making of a line, by the buffer as it was and as it is, and the answer; a refused one leaves it as it was
abbrev pub Lined : List ℕ → List ℕ → List ℕ → Result ℕ Refusal → Type 0
Lined text out out' (Ok n) = Laid text out out' n
Lined text out out' (Err x) = (first_refusal (line_rows text (length out)) ≡ Some (numbered x)) × (out' ≡ out)
