-- What the answers of a query mean, by data paths. Assumes nothing.
use Rattle.std.specs.Prelude.{◌≡◌, ℕ, ◌<◌, ◌≤◌, List, ◌++◌, length, drop, Some, Option, Result, MatchBool, MatchResult, IsOkAnd}
use Rattle.std.specs.List.{All, AllPairs, Contains}
use Rattle.expressions.specs.Exprs.{Expr}
use Rattle.graphs.specs.Graphs.{Graph}
use Rattle.languages.specs.Cells.{long}
use Rattle.languages.specs.Languages.{Joined}
use Rattle.languages.specs.declared.step.Step.{Step}
use Rattle.refusals.specs.Rows.{IsRefused}
use Rattle.refusals.specs.Table.{numbered}
use Rattle.refusals.specs.declared.Refusal.{Refusal}
use Rattle.refusals.specs.declared.Refusal.TheVariants.{NoSuchEntry, NoPath, OnlyLongPaths, StepsTooShort}
use Rattle.queries.specs.declared.condition.Condition.{Condition}
use Rattle.queries.specs.declared.found.Found.{Found}
use Rattle.queries.specs.declared.found.Found.TheVariants.{Steps, Long, Absent}
use Rattle.queries.specs.Calls.{Looks, Nexts, Tallies, Traces, outside}
use Rattle.queries.specs.Conditions.{whole_cell}
use Rattle.queries.specs.Pairs.{After, Before, First, reached_pairs}

-- what is found of a pair is so: the count of one data path in the language that joins it, to which every other is at least equal; long where there are such paths, and all have 1,000 steps or more; absent where there is none
abbrev pub Told : Graph → Expr → ℕ → ℕ → Found → Type 0
Told g e u v (Steps k) = (k < long) × ((s : List Step) × Joined g e u v s × (length s ≡ k)) × ((s : List Step) → Joined g e u v s → k ≤ length s)
Told g e u v Long = ((s : List Step) × Joined g e u v s) × ((s : List Step) → Joined g e u v s → long ≤ length s)
Told g e u v Absent = (s : List Step) → Joined g e u v s → ⊥

-- some data path in the language joins the pair
abbrev pub IsJoined : Graph → Expr → ℕ → ℕ → Type 0
IsJoined g e u v = (s : List Step) × Joined g e u v s

-- all the joined pairs, in their order; so each stands there once
pub record JoinedPairs (g : Graph) (e : Expr) (pairs : List (ℕ × ℕ)) : Type 0 where
  pub joined : All (λ pair. IsJoined g e pair.0 pair.1) pairs
  pub all : (u v : ℕ) → IsJoined g e u v → Contains pairs (u, v)
  pub ordered : AllPairs (λ earlier later. Before earlier.0 earlier.1 later.0 later.1) pairs

-- how many joined pairs there are
abbrev pub Counted : Graph → Expr → ℕ → Type 0
Counted g e k = (pairs : List (ℕ × ℕ)) × JoinedPairs g e pairs × (length pairs ≡ k)

-- the steps of a data path in the language that joins the pair, so many, stand at the front, and what lies behind them is as it was
pub record Written (g : Graph) (e : Expr) (u v k : ℕ) (steps steps' : List Step) : Type 0 where
  pub path : List Step
  pub joins : Joined g e u v path
  pub count : length path ≡ k
  pub stands : steps' ≡ path ++ drop k steps

-- what a trace answers where so much is found of its pair: a path of the count, where there is room for it, and else the refusal that is due, with the buffer as it was
abbrev pub Led : Graph → Expr → ℕ → ℕ → List Step → List Step → Result ℕ Refusal → Found → Type 0
Led g e u v steps steps' r Absent = IsRefused r 44 0 NoPath × (steps' ≡ steps)
Led g e u v steps steps' r Long = IsRefused r 45 0 OnlyLongPaths × (steps' ≡ steps)
Led g e u v steps steps' r (Steps k) =
    MatchResult r (λ j. (k ≤ length steps) × (j ≡ k) × Written g e u v k steps steps')
    (λ x. (length steps < k) × (numbered x ≡ (46, 0, StepsTooShort)) × (steps' ≡ steps))

-- a question about a pair, where one is given, among so many entries: refused where the pair is not among them, and else answered so
abbrev pub AmongOr42 : {T : Type 0} → ℕ → Option (ℕ × ℕ) → Result T Refusal → Type 0 → Type 0
AmongOr42 n pair r Answered = MatchBool (outside n pair) (IsRefused r 42 0 NoSuchEntry) Answered

-- every question is answered by what is so: a lookup tells it of its pair, and a trace goes by it; a next answers the first
-- joined pair after the one that is given, or that there is none; a tally counts the joined pairs; and the pairs of which
-- a lookup does not say absent, in their order, are the joined pairs
pub record Meant (g : Graph) (e : Expr) (q : Condition) (table : List ℕ) : Type 0 where
  pub lookups : (u v : ℕ) (r : Result Found Refusal) → Looks q table u v r → AmongOr42 g.entries (Some (u, v)) r (IsOkAnd r (Told g e u v))
  pub traces : (u v : ℕ) (steps steps' : List Step) (r : Result ℕ Refusal) → Traces q table u v steps steps' r → AmongOr42 g.entries (Some (u, v)) r ((f : Found) × Told g e u v f × Led g e u v steps steps' r f)
  pub nexts : (given : Option (ℕ × ℕ)) (r : Result (Option (ℕ × ℕ)) Refusal) → Nexts q table given r → AmongOr42 g.entries given r (IsOkAnd r (First (After given) g.entries (IsJoined g e)))
  pub tallies : (r : Result ℕ Refusal) → Tallies q table r → IsOkAnd r (Counted g e)
  pub listed : JoinedPairs g e (reached_pairs (whole_cell q table) g.entries g.entries)
