-- What the program prints of its input. Assumes nothing.
use Rattle.std.specs.Prelude.{◌≡◌, ℕ, ◌≤◌, List, length, take, Ok, Err, Result}
use Rattle.languages.specs.declared.step.Step.{Step}
use Rattle.expressions.specs.declared.part.Parts.{Parts}
use Rattle.queries.specs.Calls.{Evaluates, Traces}
use Rattle.queries.specs.declared.condition.Condition.{Condition}
use Rattle.queries.specs.declared.condition.Condition.TheVariants.{Parsed}
use Rattle.expressions.specs.Exprs.{Expr}
use Rattle.expressions.specs.Wordings.{Worded, Accepted}
use Rattle.graphs.specs.Graphs.{Graph}
use Rattle.listing.specs.Lines.{refusal_line, Lined}
use Rattle.refusals.specs.declared.Refusal.{Refusal}
use Rattle.asking.specs.declared.answer.Answer.{Answer}
use Rattle.tables.specs.Layout.{cells_for}
use Rattle.asking.specs.Asking.{BookIn, RefusedBy}
use Rattle.asking.specs.Input.{most_input, most_text, program_cells, wording, book_file}
use Rattle.asking.specs.Listings.{Lines}

-- the paths are those that a trace writes, once the wording is evaluated over the graph
pub record TracedBy (text : List ℕ) (g : Graph) (path : ℕ → ℕ → List Step) : Type 0 where
  pub parts : Parts
  pub accepted : Accepted text parts
  pub query : Condition
  pub before : List ℕ
  pub cells : List ℕ
  pub evaluates : Evaluates (Parsed parts) g before query cells (Ok tt)
  pub traces : (u v : ℕ) (steps steps' : List Step) (k : ℕ) → Traces query cells u v steps steps' (Ok k) → take k steps' ≡ path u v

-- the input is answered: its wording is that of an expression, its file that of a book, there are cells enough, and the lines are those of both
pub record Listed (input lines : List ℕ) : Type 0 where
  pub short : length input ≤ most_input
  pub expr : Expr
  pub worded : Worded (wording input) expr
  pub graph : Graph
  pub book : BookIn (book_file input) graph
  pub room : cells_for expr graph.entries ≤ program_cells
  pub path : ℕ → ℕ → List Step
  pub listed : Lines graph expr path lines
  pub traced : TracedBy (wording input) graph path

-- how long the text of an answer is
abbrev pub text_length : Answer → ℕ
text_length (Answer.Listed n) = n
text_length (Answer.Refused n) = n

-- the text that is due for an input, with the answer that tells what it is and how long: the lines, or the line of the refusal
abbrev pub Due : List ℕ → List ℕ → Answer → Type 0
Due input text (Answer.Listed n) = Listed input text × (n ≡ length text)
Due input text (Answer.Refused n) = (x : Refusal) × RefusedBy input x × (text ≡ refusal_line x) × (n ≡ length text)

-- a due text is held to the row of a line: one that is no longer than the buffer lies at the front, and what lies behind is as it was; a longer one is refused, and the buffer is as it was
abbrev pub Given : List ℕ → Answer → List ℕ → List ℕ → Result Answer Refusal → Type 0
Given due answer text text' (Ok given) = (given ≡ answer) × Lined due text text' (Ok (text_length answer))
Given due answer text text' (Err x) = Lined due text text' (Err x)

-- the program's answer, by the buffer as it was and as it is: one text is due and no other, it is no longer than any answer may be, and it is given
pub record Answered (input text text' : List ℕ) (r : Result Answer Refusal) : Type 0 where
  pub due : List ℕ
  pub answer : Answer
  pub is : Due input due answer
  pub only : (other : List ℕ) (answer' : Answer) → Due input other answer' → (other ≡ due) × (answer' ≡ answer)
  pub within : length due ≤ most_text
  pub given : Given due answer text text' r
