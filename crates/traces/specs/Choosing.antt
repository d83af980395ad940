-- What is chosen at each part and pair, by its cell and those of the parts before it. Assumes nothing.
use Rattle.std.specs.Prelude.{◌≡◌, ℕ, zero, suc, ◌+◌, ◌-◌, Bool, cond, ◌&&◌, List, ◌++◌, length, drop, Some, None, Option, ◌==◌, nat_le, slice_index_or}
use Rattle.std.specs.Option.{option_or}
use Rattle.expressions.specs.declared.part.Part.{Part}
use Rattle.expressions.specs.declared.part.Part.TheVariants.{Epsilon, Letter, Either, Join, Plus, Star, Same, Differ}
use Rattle.languages.specs.declared.step.Step.{Step}
use Rattle.tables.specs.Layout.{cell_at}
use Rattle.traces.specs.declared.choice.Choice.{Choice}
use Rattle.traces.specs.declared.choice.Choice.TheVariants.{Stay, Along, Inside, Through}

-- the part of a number (`Epsilon` past the end)
abbrev pub part_at : List Part → ℕ → Part
part_at parts q = slice_index_or parts q Epsilon

-- the first number below n that passes a test
abbrev pub first : ℕ → (ℕ → Bool) → Option ℕ
first zero passes = None
first (suc n) passes = option_or (first n passes) (cond (passes n) (Some n) None)

-- the steps of one part up to m, which are no fewer than asked, and those of another from m on add up to k
abbrev pub is_middle : (ℕ → ℕ → ℕ → ℕ) → ℕ → ℕ → ℕ → ℕ → ℕ → ℕ → ℕ → Bool
is_middle d least left right u v k m = nat_le least (d left u m) && (d left u m + d right m v == k)

-- over a middle, where there is one
abbrev pub over : ℕ → ℕ → Option ℕ → Option Choice
over left right None = None
over left right (Some m) = Some (Through left m right)

-- over the first middle
abbrev pub through : (ℕ → ℕ → ℕ → ℕ) → ℕ → ℕ → ℕ → ℕ → ℕ → ℕ → ℕ → Option Choice
through d n least left right u v k = over left right (first n (is_middle d least left right u v k))

-- a part, where its cell is k
abbrev pub inside : (ℕ → ℕ → ℕ → ℕ) → ℕ → ℕ → ℕ → ℕ → Option Choice
inside d q u v k = cond (d q u v == k) (Some (Inside q)) None

-- no step, where there is none to take
abbrev pub stay : ℕ → ℕ → ℕ → Option Choice
stay u v k = cond ((u == v) && (k == 0)) (Some Stay) None

-- the one step of a letter
abbrev pub along : ℕ → ℕ → ℕ → Option Choice
along a v k = cond (k == 1) (Some (Along (record { letter = a; entry = v }))) None

-- one piece of a repeat, or else a piece of at least one step and the repeat from there on
abbrev pub pieces : (ℕ → ℕ → ℕ → ℕ) → ℕ → ℕ → ℕ → ℕ → ℕ → Option Choice
pieces d n q u v k = option_or (inside d (q - 1) u v k) (through d n 1 (q - 1) q u v k)

-- what is chosen at part q, which is of the form given, from u to v, for k steps; nothing where the cells lead to no steps
abbrev pub choose : (ℕ → ℕ → ℕ → ℕ) → ℕ → Part → ℕ → ℕ → ℕ → ℕ → Option Choice
choose d n Epsilon q u v k = stay u v k
choose d n (Letter a) q u v k = along a v k
choose d n (Either left) q u v k = option_or (inside d left u v k) (inside d (q - 1) u v k)
choose d n (Join left) q u v k = through d n 0 left (q - 1) u v k
choose d n Plus q u v k = pieces d n q u v k
choose d n Star q u v k = option_or (stay u v k) (pieces d n q u v k)
choose d n Same q u v k = inside d (q - 1) u v k
choose d n Differ q u v k = inside d (q - 1) u v k

-- the count of the whole expression, which is the last part
abbrev pub whole_count : List Part → List ℕ → ℕ → ℕ → ℕ → ℕ
whole_count parts table n u v = cell_at parts table n (length parts - 1) u v

-- the steps that are led to, so many, stand at the front, and what lies behind them is as it was
pub record Taken (found : Option (List Step)) (k : ℕ) (steps steps' : List Step) : Type 0 where
  pub path : List Step
  pub are : found ≡ Some path
  pub count : length path ≡ k
  pub written : steps' ≡ path ++ drop k steps
