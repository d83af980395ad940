-- What a trace is refused by, and what the steps of an accepted one are. Assumes nothing.
use Rattle.std.proofs.Common.{Ok, Err, sym, subst, Result, ◌≡◌, ℕ, ◌-◌, ◌<◌, ◌≤◌, List, length, Some, None, Option, arith}
use Rattle.std.proofs.lemmas.Bool.Decides.{nat_tests}
use Rattle.expressions.specs.Storing.{parts_of}
use Rattle.expressions.specs.declared.part.Parts.{Parts}
use Rattle.languages.specs.Cells.{long}
use Rattle.languages.specs.declared.step.Step.{Step}
use Rattle.refusals.specs.Rows.{first_refusal}
use Rattle.refusals.specs.Table.{numbered}
use Rattle.refusals.specs.declared.Refusal.{Refusal}
use Rattle.refusals.specs.declared.Refusal.TheVariants.{NoPath, OnlyLongPaths, StepsTooShort}
use Rattle.tables.specs.Layout.{cells_needed, cell_at}
use Rattle.traces.specs.Taking.{chosen}
use Rattle.traces.specs.Tracing.{path_rows, TakenBy}
use Rattle.traces.proofs.Led.{leading_once}
use Rattle.queries.specs.Conditions.{evaluated, whole_cell}
use Rattle.queries.specs.Taking.{chosen_in}
use Rattle.queries.specs.declared.condition.Condition.{Condition}
use Rattle.queries.specs.declared.condition.Condition.TheVariants.{Blank, Parsed, Evaluated}
use Rattle.queries.specs.Calls.{trace_rows, Traces}

pub absent : (c room : ℕ) (found : Option (List Step)) → long < c → first_refusal (path_rows c room found) ≡ Some (numbered NoPath)
absent c room found h = grind (arith, nat_tests)

pub only_long : (c room : ℕ) (found : Option (List Step)) → c ≡ long → first_refusal (path_rows c room found) ≡ Some (numbered OnlyLongPaths)
only_long c room found h = grind (arith, nat_tests)

pub no_room : (c room : ℕ) (found : Option (List Step)) → c < long → room < c → first_refusal (path_rows c room found) ≡ Some (numbered StepsTooShort)
no_room c room found h l = grind (arith, nat_tests)

pub accepted : (c room : ℕ) (found : Option (List Step)) (s : List Step) → c < long → c ≤ room → found ≡ Some s → first_refusal (path_rows c room found) ≡ None
accepted c room found s h l e = rw e (grind (arith, nat_tests))

module _ (p : Parts) (n : ℕ) (table : List ℕ) (u v : ℕ) (hu : u < n) (hv : v < n) (room : cells_needed (parts_of p) n ≤ length table) where
  abbrev pub c : ℕ
  c = cell_at (parts_of p) table n (length (parts_of p) - 1) u v

  abbrev pub found : Option (List Step)
  found = chosen (parts_of p) table n (length (parts_of p) - 1) u v

  pub rows_as : (k : ℕ) → first_refusal (trace_rows (evaluated (Parsed p) n) table u v k found) ≡ first_refusal (path_rows c k found)
  rows_as k = grind (arith, nat_tests)

-- the steps of a trace are those that are chosen
pub taken_by : (p : Parts) (n : ℕ) (table : List ℕ) (u v : ℕ) (steps steps' : List Step) (r : Result ℕ Refusal) → Traces (evaluated (Parsed p) n) table u v steps steps' r → TakenBy (trace_rows (evaluated (Parsed p) n) table u v (length steps) (chosen (parts_of p) table n (length (parts_of p) - 1) u v)) (cell_at (parts_of p) table n (length (parts_of p) - 1) u v) (chosen (parts_of p) table n (length (parts_of p) - 1) u v) steps steps' r
taken_by p n table u v steps steps' r w =
    subst (λ x. TakenBy (trace_rows (evaluated (Parsed p) n) table u v (length steps) x) (cell_at (parts_of p) table n (length (parts_of p) - 1) u v) x steps steps' r)
    (sym (leading_once (parts_of p) table n p.formed (length (parts_of p) - 1) u v (omega (arith, p.some)) w.found w.led)) w.taken

-- a trace by the steps that are chosen, in any condition
abbrev pub TracesChosen : Condition → List ℕ → ℕ → ℕ → List Step → List Step → Result ℕ Refusal → Type 0
TracesChosen q table u v steps steps' r = TakenBy (trace_rows q table u v (length steps) (chosen_in q table u v)) (whole_cell q table u v) (chosen_in q table u v) steps steps' r

pub traces_chosen : (q : Condition) (table : List ℕ) (u v : ℕ) (steps steps' : List Step) (r : Result ℕ Refusal) → Traces q table u v steps steps' r → TracesChosen q table u v steps steps' r
traces_chosen Blank table u v steps steps' (Ok k) w = absurd (cc w.taken.0)
traces_chosen Blank table u v steps steps' (Err x) w = w.taken
traces_chosen (Parsed p) table u v steps steps' (Ok k) w = absurd (cc w.taken.0)
traces_chosen (Parsed p) table u v steps steps' (Err x) w = w.taken
traces_chosen (Evaluated b) table u v steps steps' r w = taken_by b.parts b.entries table u v steps steps' r w
