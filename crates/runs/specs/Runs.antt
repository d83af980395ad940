-- Runs: the calls of a new query, one after another, each as its method's contract says. Assumes nothing.
use Rattle.std.specs.Prelude.{◌≡◌, ℕ, List, [], ◌∷◌, length, take, Ok, Err, Result, OnOk}
use Rattle.languages.specs.declared.step.Step.{Step}
use Rattle.queries.specs.Calls.{Parses, Evaluates, Looks, Nexts, Tallies, Traces}
use Rattle.queries.specs.Conditions.{expr_in}
use Rattle.queries.specs.Meanings.{Meant}
use Rattle.queries.specs.declared.condition.Condition.{Condition}
use Rattle.queries.specs.declared.condition.Condition.TheVariants.{Blank}
use Rattle.refusals.specs.declared.Refusal.{Refusal}
use Rattle.runs.specs.Histories.{Question, lookup, next, tally, trace, Event, wording, evaluation, question, History}
use Rattle.runs.specs.Laws.{Law}

-- the steps that a trace wrote stand at the front of the buffer
abbrev pub written : List Step → Result ℕ Refusal → Result (List Step) Refusal
written steps (Ok k) = Ok (take k steps)
written steps (Err x) = Err x

-- a trace with some buffer of this room
pub record TracesWith (q : Condition) (table : List ℕ) (u v room : ℕ) (r : Result (List Step) Refusal) : Type 0 where
  pub steps : List Step
  pub steps' : List Step
  pub answer : Result ℕ Refusal
  pub size : length steps ≡ room
  pub traces : Traces q table u v steps steps' answer
  pub gives : r ≡ written steps' answer

-- what the contract of its method says of a question: a query in the condition q, with a table, answers so
abbrev pub Replies : Condition → List ℕ → Question → Type 0
Replies q table (lookup u v r) = Looks q table u v r
Replies q table (next given r) = Nexts q table given r
Replies q table (tally r) = Tallies q table r
Replies q table (trace u v room r) = TracesWith q table u v room r

-- what the contract of its method says of a call: on a query in the condition q with a table, it answers so, and leaves q' and table'
abbrev pub Does : Condition → List ℕ → Event → Condition → List ℕ → Type 0
Does q table (wording text r) q' table' = Parses q text q' r × (table' ≡ table)
Does q table (evaluation cells before g r) q' table' = (cells ≡ length table) × (before ≡ []) × Evaluates q g table q' table' r × OnOk r (Meant g (expr_in q') q' table')
Does q table (question x) q' table' = Replies q table x × (q' ≡ q) × (table' ≡ table)

-- a run with a table, and the condition and the table that it comes to
pub data Run (table : List ℕ) : History → Condition → List ℕ → Type 0 where
  new : Run table [] Blank table
  call : {h : History} {q q' : Condition} {t t' : List ℕ} {x : Event} → Run table h q t → Does q t x q' t' → Run table (x ∷ h) q' t'

-- every run obeys the law, whatever its calls, its sources and what the table holds at first
abbrev pub RunsObey : Type 0
RunsObey = (table : List ℕ) (h : History) (q : Condition) (t : List ℕ) → Run table h q t → Law h
