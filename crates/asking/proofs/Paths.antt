-- What a trace of an evaluated pair answers. Assumes nothing.
use Rattle.std.proofs.Common.{◌≡◌, ℕ, ◌<◌, ◌≤◌, List, length, take, None, Ok, Result, IsOk, sym, ap, ◌∙◌, arith}
use Rattle.std.proofs.lemmas.Grind.{common_steps}
use Rattle.std.proofs.lemmas.List.{take_at}
use Rattle.languages.specs.Cells.{long}
use Rattle.languages.specs.declared.step.Step.{Step}
use Rattle.queries.proofs.Tracing.{traces_chosen}
use Rattle.queries.specs.Calls.{pair_rows, Traces}
use Rattle.queries.specs.Conditions.{entries_in, whole_cell}
use Rattle.queries.specs.Taking.{chosen_in}
use Rattle.queries.specs.declared.condition.Condition.{Condition}
use Rattle.refusals.specs.Rows.{first_refusal}
use Rattle.refusals.specs.declared.Refusal.{Refusal}
use Rattle.asking.specs.Chosen.{Unaltered, steps_of}

module _ (q : Condition) (t : List ℕ) (u v : ℕ) (steps steps' : List Step) where
  -- it is accepted where steps are chosen and there is room for them
  pub path_accepted : (r : Result ℕ Refusal) → Traces q t u v steps steps' r
      → first_refusal (pair_rows q t None) ≡ None → Unaltered q t → u < entries_in q → v < entries_in q
      → whole_cell q t u v < long → 999 ≤ length steps → IsOk r
  path_accepted r w ready unaltered hu hv short room =
      let h = traces_chosen q t u v steps steps' r w in
      let s = unaltered u v hu hv short in
      grind (arith, common_steps)

  -- and writes the steps that are chosen
  pub path_traced : (k : ℕ) → Traces q t u v steps steps' (Ok k) → take k steps' ≡ steps_of (chosen_in q t u v)
  path_traced k w =
      let p = traces_chosen q t u v steps steps' (Ok k) w in
      ap (take k) p.2.written ∙ take_at p.2.path _ k p.2.count ∙ ap steps_of (sym p.2.are)
