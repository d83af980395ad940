-- What private functions say; no public contract cites this file. Assumes nothing.
use Rattle.std.specs.Prelude.{◌≡◌, ℕ, zero, suc, ◌≤◌, ◌⊎◌, List, [], ◌++◌, length, Some, Ok, Err, Result}
use Rattle.expressions.specs.Wordings.{Accepted}
use Rattle.expressions.specs.declared.part.Parts.{Parts}
use Rattle.files.specs.Reading.{Refused}
use Rattle.files.specs.declared.counts.Counts.{Counts}
use Rattle.graphs.specs.Graphs.{Graph}
use Rattle.languages.specs.declared.step.Step.{Step}
use Rattle.listing.specs.Lines.{first_line}
use Rattle.queries.specs.Calls.{evaluate_rows, found_in, Evaluates}
use Rattle.queries.specs.Conditions.{expr_in, whole_cell}
use Rattle.queries.specs.Meanings.{Meant}
use Rattle.queries.specs.Taking.{chosen_in}
use Rattle.queries.specs.Pairs.{tallied}
use Rattle.queries.specs.declared.condition.Condition.{Condition}
use Rattle.queries.specs.declared.condition.Condition.TheVariants.{Parsed}
use Rattle.refusals.specs.Rows.{first_refusal}
use Rattle.refusals.specs.Table.{numbered}
use Rattle.refusals.specs.declared.Refusal.{Refusal}
use Rattle.asking.specs.declared.evaluated.Evaluated.{Evaluated}
use Rattle.asking.specs.Asking.{BookOf, RefusedBy, kind_in}
use Rattle.asking.specs.Chosen.{steps_of, pair_text}
use Rattle.asking.specs.Input.{most_input, program_room, wording, book_file}
use Rattle.asking.specs.Kinds.{KindOfValue}

-- the cells of what was evaluated
abbrev pub told : Evaluated → ℕ → ℕ → ℕ
told e = whole_cell e.query.now e.cells.now

-- the steps that are chosen there
abbrev pub led : Evaluated → ℕ → ℕ → List Step
led e u v = steps_of (chosen_in e.query.now e.cells.now u v)

module _ (d : ℕ → ℕ → ℕ) (w : ℕ → ℕ → List Step) where
  -- the lines of the pairs of u and each entry below k, where d u v is the cell of u and v, and w u v their path
  abbrev pub row_text : ℕ → ℕ → List ℕ
  row_text u zero = []
  row_text u (suc v) = row_text u v ++ pair_text u v (w u v) (found_in (d u v))

  -- the lines of the pairs whose first entry is below k, by first entry and then second, among n entries
  abbrev pub pairs_text : ℕ → ℕ → List ℕ
  pairs_text n zero = []
  pairs_text n (suc u) = pairs_text n u ++ row_text u n

  -- the first line, and the lines of all pairs
  abbrev pub listing_text : ℕ → List ℕ
  listing_text n = first_line n (tallied d n n) ++ pairs_text n n

-- of what was evaluated: the line of a pair, those of a row, and all
abbrev pub line_of : Evaluated → ℕ → ℕ → List ℕ
line_of e u v = pair_text u v (led e u v) (found_in (told e u v))

abbrev pub row_of : Evaluated → ℕ → List ℕ
row_of e u = row_text (told e) (led e) u e.entries

abbrev pub lines_of : Evaluated → List ℕ
lines_of e = listing_text (told e) (led e) e.entries

-- the first line, and those of the pairs whose first entry is below u
abbrev pub lines_before : Evaluated → ℕ → List ℕ
lines_before e u =
    first_line e.entries (tallied (told e) e.entries e.entries) ++ pairs_text (told e) (led e) e.entries u

-- a query was evaluated over the graph of a book, or the file or the evaluation was refused
abbrev pub WorkedAs : KindOfValue → Counts → List ℕ → Condition → List ℕ → Condition → List ℕ → Result ℕ Refusal
    → Type 0
WorkedAs k room file q t q' t' (Ok n) =
    (g : Graph) × BookOf k room file g × (n ≡ g.entries) × Evaluates q g t q' t' (Ok tt) × Meant g (expr_in q') q' t'
WorkedAs k room file q t q' t' (Err x) =
    Refused k.shape room file x
    ⊎ ((g : Graph) × BookOf k room file g × (first_refusal (evaluate_rows q g t) ≡ Some (numbered x)))

-- the same of a book of the file's kind of value
abbrev pub Worked : List ℕ → Condition → List ℕ → Condition → List ℕ → Result ℕ Refusal → Type 0
Worked file q t q' t' r = WorkedAs (kind_in file) program_room file q t q' t' r

-- the wording was accepted and is evaluated over the book
pub record AskedWell (input : List ℕ) (t : List ℕ) (q' : Condition) (t' : List ℕ) (n : ℕ) : Type 0 where
  pub short : length input ≤ most_input
  pub parts : Parts
  pub accepted : Accepted (wording input) parts
  pub worked : Worked (book_file input) (Parsed parts) t q' t' (Ok n)

abbrev pub Asked : List ℕ → List ℕ → Condition → List ℕ → Result ℕ Refusal → Type 0
Asked input t q' t' (Ok n) = AskedWell input t q' t' n
Asked input t q' t' (Err x) = RefusedBy input x
