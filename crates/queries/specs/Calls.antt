-- What each call of a query answers and leaves, on all inputs. Assumes nothing.
use Rattle.std.specs.Prelude.{◌≡◌, ℕ, Bool, false, cond, not, ◌||◌, List, [], ◌∷◌, ◌++◌, length, Some, None, Ok, Err, Option, Result, ◌==◌, nat_le, nat_lt}
use Rattle.expressions.specs.Wordings as wordings
use Rattle.expressions.specs.declared.part.Parts.{Parts}
use Rattle.graphs.specs.Graphs.{Graph}
use Rattle.languages.specs.Cells.{long}
use Rattle.languages.specs.declared.step.Step.{Step}
use Rattle.refusals.specs.Rows.{Row, first_refusal, ByRows}
use Rattle.refusals.specs.Table.{numbered}
use Rattle.refusals.specs.declared.Refusal.{Refusal}
use Rattle.refusals.specs.declared.Refusal.TheVariants.{QueryBlank, NotEvaluated, NoSuchEntry, TableCut}
use Rattle.tables.specs.Layout.{cells_needed}
use Rattle.tables.specs.Tables.{Filled, fill_rows}
use Rattle.traces.specs.Tracing.{path_rows, TakenBy}
use Rattle.queries.specs.declared.condition.Condition.{Condition}
use Rattle.queries.specs.declared.condition.Condition.TheVariants.{Parsed}
use Rattle.queries.specs.declared.found.Found.{Found}
use Rattle.queries.specs.declared.found.Found.TheVariants.{Steps, Long, Absent}
use Rattle.queries.specs.Conditions.{is_blank, is_evaluated, list_in, count_in, entries_in, evaluated, whole_cell, LeadsIn}
use Rattle.queries.specs.Pairs.{After, First, Reaches, tallied}

-- an accepted wording is stored, and drops what was evaluated; a refused one changes nothing
abbrev pub Follows : Condition → Result Parts Refusal → Condition → Result Unit Refusal → Type 0
Follows q (Ok parts) q' r = (q' ≡ Parsed parts) × (r ≡ Ok tt)
Follows q (Err x) q' r = (q' ≡ q) × (r ≡ Err x)

-- a parse: the wording is judged
pub record Parses (q : Condition) (text : List ℕ) (q' : Condition) (r : Result Unit Refusal) : Type 0 where
  pub judged : Result Parts Refusal
  pub parsed : wordings.Parsed text judged
  pub decided : wordings.Decided text judged
  pub follows : Follows q judged q' r

-- the rows that an evaluation is held to
abbrev pub evaluate_rows : Condition → Graph → List ℕ → List Row
evaluate_rows q g table =
    (is_blank q, 31, 0, QueryBlank)
    ∷ fill_rows g (cells_needed (list_in q) g.entries) (length table)

-- an evaluation: every cell of every part is that of its expression over the graph, and no other cell has changed; a refused one changes nothing
abbrev pub Evaluates : Condition → Graph → List ℕ → Condition → List ℕ → Result Unit Refusal → Type 0
Evaluates q g table q' table' (Ok done) = (first_refusal (evaluate_rows q g table) ≡ None) × (q' ≡ evaluated q g.entries) × Filled g (list_in q) (count_in q) table table'
Evaluates q g table q' table' (Err x) = (first_refusal (evaluate_rows q g table) ≡ Some (numbered x)) × (q' ≡ q) × (table' ≡ table)

-- a pair, if one is given, that is not among n entries
abbrev pub outside : ℕ → Option (ℕ × ℕ) → Bool
outside n None = false
outside n (Some pair) = nat_le n pair.0 || nat_le n pair.1

-- the rows that a question about a pair, where one is given, is held to without its table
abbrev pub question_rows : Condition → Option (ℕ × ℕ) → List Row
question_rows q pair =
    (not (is_evaluated q), 41, 0, NotEvaluated)
    ∷ (outside (entries_in q) pair, 42, 0, NoSuchEntry)
    ∷ []

-- the row of the table
abbrev pub table_rows : Condition → List ℕ → List Row
table_rows q table = (nat_lt (length table) (cells_needed (list_in q) (entries_in q)), 43, 0, TableCut) ∷ []

-- the rows of a question that reads a table
abbrev pub pair_rows : Condition → List ℕ → Option (ℕ × ℕ) → List Row
pair_rows q table pair = question_rows q pair ++ table_rows q table

-- what a cell tells: it counts steps up to 999; beyond that 1,000 stands for long, and every greater number for absent
abbrev pub found_in : ℕ → Found
found_in c = cond (nat_lt c long) (Steps c) (cond (c == long) Long Absent)

-- a lookup tells the cell of the whole
abbrev pub Looks : Condition → List ℕ → ℕ → ℕ → Result Found Refusal → Type 0
Looks q table u v r = ByRows (pair_rows q table (Some (u, v))) r (λ f. f ≡ found_in (whole_cell q table u v))

-- a next: the first pair after the given one for which a lookup does not say absent, or the end
abbrev pub Nexts : Condition → List ℕ → Option (ℕ × ℕ) → Result (Option (ℕ × ℕ)) Refusal → Type 0
Nexts q table given r = ByRows (pair_rows q table given) r (First (After given) (entries_in q) (Reaches (whole_cell q table)))

-- a tally: the number of such pairs
abbrev pub Tallies : Condition → List ℕ → Result ℕ Refusal → Type 0
Tallies q table r = ByRows (pair_rows q table None) r (λ k. k ≡ tallied (whole_cell q table) (entries_in q) (entries_in q))

-- the rows that a trace is held to: those of a lookup, then what the cell tells, the room for the steps, and the cells that choose them
abbrev pub trace_rows : Condition → List ℕ → ℕ → ℕ → ℕ → Option (List Step) → List Row
trace_rows q table u v room found = pair_rows q table (Some (u, v)) ++ path_rows (whole_cell q table u v) room found

-- a trace: the steps that the cells lead to, and they lead to no others, stand at the front, as many as the cell of the whole tells, and what lies behind them is as it was; a refused one changes nothing
pub record Traces (q : Condition) (table : List ℕ) (u v : ℕ) (steps steps' : List Step) (r : Result ℕ Refusal) : Type 0 where
  pub found : Option (List Step)
  pub led : LeadsIn q table u v found
  pub once : (other : Option (List Step)) → LeadsIn q table u v other → other ≡ found
  pub taken : TakenBy (trace_rows q table u v (length steps) found) (whole_cell q table u v) found steps steps' r
