-- What one request comes to; no public contract cites this file. Assumes nothing.
use Rattle.std.specs.Prelude.{◌≡◌, ℕ, List, ◌++◌, length, drop}
use Rattle.graphs.specs.Graphs.{Graph}
use Rattle.languages.specs.declared.step.Step.{Step}
use Rattle.queries.specs.declared.condition.Condition.{Condition}
use Rattle.runs.specs.declared.request.Answer.{Answer}
use Rattle.runs.specs.declared.request.Request.{Request}
use Rattle.runs.specs.Histories.{Event}
use Rattle.runs.specs.Requests.{Tells, steps_in}
use Rattle.runs.specs.Runs.{Does}

-- a request is made: the call does what the contract of its method says, and the steps that it wrote stand at the front of what is left of the buffer
pub record Made {S : Type 0} (graph : S → Graph) (request : Request S) (q q' : Condition) (table table' : List ℕ) (steps steps' : List Step) (answer : Answer) : Type 0 where
  pub event : Event
  pub traced : List Step
  pub tells : Tells graph (length table) (length steps) request answer event traced
  pub does : Does q table event q' table'
  pub count : steps_in answer ≡ length traced
  pub written : steps' ≡ traced ++ drop (length traced) steps
