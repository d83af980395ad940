-- The law that histories obey: by it each call is answered as the wordings and the sources say. It speaks of what no cell holds, and of no query's condition. Assumes nothing.
use Rattle.std.specs.Prelude.{◌≡◌, ℕ, Bool, true, false, List, [], ◌∷◌, ◌++◌, length, take, reverse, slice_get, Some, None, Ok, Err, Option, Result, nat_lt, IsOkAnd}
use Rattle.std.specs.Bool.{MatchBool}
use Rattle.expressions.specs.Exprs.{Expr}
use Rattle.expressions.specs.Wordings.{Worded, Refused}
use Rattle.graphs.specs.Graphs.{Graph}
use Rattle.languages.specs.Languages.{Joined}
use Rattle.languages.specs.declared.step.Step.{Step}
use Rattle.queries.specs.Meanings.{Told, IsJoined, JoinedPairs, Counted, AmongOr42}
use Rattle.queries.specs.Pairs.{After, First}
use Rattle.queries.specs.declared.found.Found.{Found}
use Rattle.queries.specs.declared.found.Found.TheVariants.{Steps, Long, Absent}
use Rattle.refusals.specs.Rows.{Row, first_refusal, IsRefused}
use Rattle.refusals.specs.Table.{numbered}
use Rattle.refusals.specs.declared.Refusal.{Refusal}
use Rattle.refusals.specs.declared.Refusal.TheVariants.{QueryBlank, NotEvaluated, NoPath, OnlyLongPaths, StepsTooShort}
use Rattle.tables.specs.Layout.{cells_for}
use Rattle.tables.specs.Tables.{fill_rows}
use Rattle.runs.specs.Histories.{Question, lookup, next, tally, trace, Event, wording, evaluation, question, History}

-- what the calls so far have come to: the expression that was last parsed, and the graph that it was last evaluated over since
pub data Standing : Type 0 where
  blank : Standing
  parsed : Expr → Standing
  evaluated : Expr → Graph → Standing

abbrev pub is_blank : Standing → Bool
is_blank blank = true
is_blank (parsed e) = false
is_blank (evaluated e g) = false

-- how many cells the expression needs among so many entries; a blank standing needs none
abbrev pub cells_of : Standing → ℕ → ℕ
cells_of blank n = 0
cells_of (parsed e) n = cells_for e n
cells_of (evaluated e g) n = cells_for e n

-- the rows that an evaluation over a graph is held to, with a table of so many cells
abbrev pub evaluation_rows : ℕ → Standing → Graph → List Row
evaluation_rows cells s g =
    (is_blank s, 31, 0, QueryBlank)
    ∷ fill_rows g (cells_of s g.entries) cells

-- the same expression, evaluated over a graph
abbrev pub evaluated_over : Graph → Standing → Standing
evaluated_over g blank = blank
evaluated_over g (parsed e) = evaluated e g
evaluated_over g (evaluated e before) = evaluated e g

-- a question, about a pair where one is given: it is refused while nothing is evaluated, or where the pair is not among the entries; else P says what is answered, by the graph and the expression. There is no row 43: a table that is too short was refused at the evaluation
abbrev pub Asks : {T : Type 0} → Standing → Option (ℕ × ℕ) → Result T Refusal → (Graph → Expr → Type 0) → Type 0
Asks blank pair r P = IsRefused r 41 0 NotEvaluated
Asks (parsed e) pair r P = IsRefused r 41 0 NotEvaluated
Asks (evaluated e g) pair r P = AmongOr42 g.entries pair r (P g e)

-- the trace of a pair of which f is told: the steps of a data path that joins it, as few as are told; refused where there is no path, where there are only long ones, and where the buffer has no room for the steps
abbrev pub Traced : Graph → Expr → ℕ → ℕ → ℕ → Result (List Step) Refusal → Found → Type 0
Traced g e u v room r (Steps k) = MatchBool (nat_lt room k) (IsRefused r 46 0 StepsTooShort) (IsOkAnd r (λ s. Joined g e u v s × (length s ≡ k)))
Traced g e u v room r Long = IsRefused r 45 0 OnlyLongPaths
Traced g e u v room r Absent = IsRefused r 44 0 NoPath

-- the law of a question, by the standing of the query that it is asked of
abbrev pub Answers : Standing → Question → Type 0
-- a lookup tells what is so of the pair
Answers s (lookup u v r) = Asks s (Some (u, v)) r (λ g e. IsOkAnd r (Told g e u v))
-- a next answers the first joined pair after the one that is given, or that there is none
Answers s (next given r) = Asks s given r (λ g e. IsOkAnd r (First (After given) g.entries (IsJoined g e)))
-- a tally counts the joined pairs
Answers s (tally r) = Asks s None r (λ g e. IsOkAnd r (Counted g e))
-- a trace gives the steps of a path as short as a lookup tells
Answers s (trace u v room r) = Asks s (Some (u, v)) r (λ g e. (f : Found) × Told g e u v f × Traced g e u v room r f)

-- the law of one call: how it is answered in the standing s, and the standing s' that it leaves
abbrev pub Obeys : Standing → Event → Standing → Type 0
-- an accepted wording stands for one expression, within the limits, and what was evaluated is dropped; a refused one is refused for what it is
Obeys s (wording text (Ok done)) s' = (e : Expr) × Worded text e × (s' ≡ parsed e)
Obeys s (wording text (Err x)) s' = Refused text x × (s' ≡ s)
-- an evaluation goes by the rows before its own, and then by these; which rows stand before, and how long the table
-- is, the run tells: none, and as long as the table that all its calls are given
Obeys s (evaluation cells before g (Ok done)) s' = (first_refusal (before ++ evaluation_rows cells s g) ≡ None) × (s' ≡ evaluated_over g s)
Obeys s (evaluation cells before g (Err x)) s' = (first_refusal (before ++ evaluation_rows cells s g) ≡ Some (numbered x)) × (s' ≡ s)
-- a question goes by its own law, and leaves the standing
Obeys s (question x) s' = Answers s x × (s' ≡ s)

-- a call behind which a walk goes on: any but an accepted wording or evaluation
abbrev pub Stays : Event → Type 0
Stays (wording text (Ok done)) = ⊥
Stays (wording text (Err x)) = Unit {0}
Stays (evaluation cells before g (Ok done)) = ⊥
Stays (evaluation cells before g (Err x)) = Unit {0}
Stays (question x) = Unit {0}

-- the latest of the pairs that a walk has been answered, if any
abbrev pub latest : List (ℕ × ℕ) → Option (ℕ × ℕ)
latest [] = None
latest (pair ∷ pairs) = Some pair

-- a walk of next calls, up to the end of a history, and the pairs that it was answered, the latest first
pub data Walk : History → List (ℕ × ℕ) → Type 0 where
  -- a walk may begin anywhere, with no pair yet
  begins : {h : History} → Walk h []
  -- a next that is given the latest pair, or nothing where there is none yet, and is answered a pair, goes on with it
  goes_on : {h : History} {pairs : List (ℕ × ℕ)} (pair : ℕ × ℕ) → Walk h pairs → Walk (question (next (latest pairs) (Ok (Some pair))) ∷ h) (pair ∷ pairs)
  -- other calls may lie between, but no accepted wording or evaluation
  waits : {h : History} {pairs : List (ℕ × ℕ)} (x : Event) → Stays x → Walk h pairs → Walk (x ∷ h) pairs

-- what comes in a walk behind the pairs before: those were the first joined pairs in order, and the answer is the joined pair that comes then, or the end where there is none
pub record Following (g : Graph) (e : Expr) (before : List (ℕ × ℕ)) (answer : Option (ℕ × ℕ)) : Type 0 where
  pub pairs : List (ℕ × ℕ)
  pub all : JoinedPairs g e pairs
  pub first : reverse before ≡ take (length before) pairs
  pub then : answer ≡ slice_get pairs (length before)

-- the law of walks: behind a history, a next that goes on with a walk, where there is a graph, answers what follows. So the calls of a walk answer the joined pairs one by one, in order and none left out, and then the end
abbrev pub WalksOn : History → Standing → Event → Type 0
WalksOn h s x =
    (e : Expr) (g : Graph) (given answer : Option (ℕ × ℕ)) → s ≡ evaluated e g → x ≡ question (next given (Ok answer)) →
    (before : List (ℕ × ℕ)) → Walk h before → given ≡ latest before → Following g e before answer

-- a history obeys the law, and comes to a standing: a new query is blank, and each call obeys the law of its kind and that of walks
pub data Obeyed : History → Standing → Type 0 where
  new : Obeyed [] blank
  call : {h : History} {s s' : Standing} {x : Event} → Obeyed h s → Obeys s x s' → WalksOn h s x → Obeyed (x ∷ h) s'

-- the law over runs: the history obeys it
abbrev pub Law : History → Type 0
Law h = (s : Standing) × Obeyed h s
