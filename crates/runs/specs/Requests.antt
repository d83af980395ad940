-- What the requests of a run come to: a history, and the steps of its traces one behind another. Assumes nothing.
use Rattle.std.specs.Prelude.{◌≡◌, ℕ, ◌-◌, min, List, [], ◌∷◌, ◌++◌, length, take, drop, Ok, Err, Option, Result}
use denote.Ref.{Bor}
use Rattle.graphs.specs.Graphs.{Graph}
use Rattle.languages.specs.declared.step.Step.{Step}
use Rattle.queries.specs.declared.condition.Condition.{Condition}
use Rattle.queries.specs.declared.found.Found.{Found}
use Rattle.refusals.specs.declared.Refusal.{Refusal}
use Rattle.runs.specs.declared.request.Answer.{Answer}
use Rattle.runs.specs.declared.request.Answer.TheVariants as answered
use Rattle.runs.specs.declared.request.Request.{Request}
use Rattle.runs.specs.declared.request.Request.TheVariants.{Tally, Parse, Evaluate, Lookup, Next, Trace}
use Rattle.runs.specs.Histories.{lookup, next, tally, trace, Event, wording, evaluation, question, History}
use Rattle.runs.specs.Laws.{Law}
use Rattle.runs.specs.Runs.{Run}

-- how many steps the call of an answer wrote
abbrev pub steps_in : Answer → ℕ
steps_in (answered.Parse r) = 0
steps_in (answered.Evaluate r) = 0
steps_in (answered.Lookup r) = 0
steps_in (answered.Next r) = 0
steps_in (answered.Tally r) = 0
steps_in (answered.Trace (Ok k)) = k
steps_in (answered.Trace (Err x)) = 0

-- the event of a request and its answer, with a table of so many cells, where so many steps of the buffer are left, and the steps that were written: those of an accepted trace, whose room is what was asked for, or what was left where that is less
pub data Tells {S : Type 0} (graph : S → Graph) (cells left : ℕ) : Request S → Answer → Event → List Step → Type 0 where
  a_parse : (text : Bor (List ℕ)) (r : Result Unit Refusal) → Tells graph cells left (Parse text) (answered.Parse r) (wording text.now r) []
  an_evaluation : (source : Bor S) (r : Result Unit Refusal) → Tells graph cells left (Evaluate source) (answered.Evaluate r) (evaluation cells [] (graph source.now) r) []
  a_lookup : (u v : ℕ) (r : Result Found Refusal) → Tells graph cells left (Lookup u v) (answered.Lookup r) (question (lookup u v r)) []
  a_next : (after : Option (ℕ × ℕ)) (r : Result (Option (ℕ × ℕ)) Refusal) → Tells graph cells left (Next after) (answered.Next r) (question (next after r)) []
  a_tally : (r : Result ℕ Refusal) → Tells graph cells left Tally (answered.Tally r) (question (tally r)) []
  a_trace : (u v room : ℕ) (s : List Step) → Tells graph cells left (Trace u v room) (answered.Trace (Ok (length s))) (question (trace u v (min room left) (Ok s))) s
  a_refused_trace : (u v room : ℕ) (x : Refusal) → Tells graph cells left (Trace u v room) (answered.Trace (Err x)) (question (trace u v (min room left) (Err x))) []

-- the history of requests and their answers, with a table of so many cells, and the steps of all its traces in their order, in a buffer of so many
pub data Transcript {S : Type 0} (graph : S → Graph) (cells buffer : ℕ) : List (Request S) → List Answer → History → List Step → Type 0 where
  new : Transcript graph cells buffer [] [] [] []
  call : {requests : List (Request S)} {answers : List Answer} {h : History} {steps : List Step} {request : Request S} {answer : Answer} {x : Event} {s : List Step} → Transcript graph cells buffer requests answers h steps → Tells graph cells (buffer - length steps) request answer x s → Transcript graph cells buffer (requests ++ (request ∷ [])) (answers ++ (answer ∷ [])) (x ∷ h) (steps ++ s)

-- a run of requests: so many are made, as many as there are requests and places for answers; their history obeys the law; the steps of the traces stand in the buffer in their order; and the rest of the buffer and of the answers is as it was
pub record Ran {S : Type 0} (graph : S → Graph) (requests : List (Request S)) (table table' : List ℕ) (steps steps' : List Step) (answers answers' : List Answer) (made : ℕ) : Type 0 where
  pub history : History
  pub traced : List Step
  pub count : made ≡ min (length requests) (length answers)
  pub transcript : Transcript graph (length table) (length steps) (take made requests) (take made answers') history traced
  pub law : Law history
  pub written : steps' ≡ traced ++ drop (length traced) steps
  pub behind : drop made answers' ≡ drop made answers
  pub condition : Condition
  pub run : Run table history condition table'
