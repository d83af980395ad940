-- What a choice tells of the steps at a place, and what stands after each. Assumes nothing.
use Rattle.std.proofs.Common.{◌≡◌, ℕ, ◌+◌, ◌≤◌, List, [], ◌∷◌, length, take, set, Some, None, Option, sym, add-one, append-nil, arith}
use Rattle.std.proofs.Math.Seq.{take-suc-set}
use Rattle.languages.specs.declared.step.Step.{Step}
use Rattle.traces.specs.declared.chooser.Chooser.{Chooser}
use Rattle.traces.specs.declared.choice.Choice.{Choice}
use Rattle.traces.specs.declared.choice.Choice.TheVariants.{Stay, Along, Inside, Through}
use Rattle.traces.specs.Choosing.{part_at, choose}
use Rattle.traces.specs.Taking.{follow}
use Rattle.traces.specs.Places.{PlaceIn, cells_in, chosen_at, Chooses, Stands}
use Rattle.traces.proofs.Fuel.{led, by_choice}
use Rattle.traces.proofs.Leads.{Leads}

module _ (b : Chooser) (q u v : ℕ) (place : PlaceIn b q u v) where
  told_by : (x : Option Choice) → Leads (cells_in b) b.cells.n q u v (cells_in b q u v) x → chosen_at b q u v ≡ follow (chosen_at b) u v x → Chooses b q u v x
  told_by None l is = is
  told_by (Some Stay) l is = (is, l)
  told_by (Some (Along step)) l is = (is, l)
  told_by (Some (Inside p)) l is = record {
    place = record { part = omega (arith, place.part, l.0); from = place.from; to = place.to };
    before = l.0;
    count = l.1;
    same = is;
  }
  told_by (Some (Through l m r)) w is = record {
    first = record { part = omega (arith, place.part, w.2); from = place.from; to = w.0 };
    second = record { part = omega (arith, place.part, w.3); from = w.0; to = place.to };
    sum = w.1;
    first_less = omega (arith, w.1, w.2);
    second_less = w.4;
    same = is;
  }

  pub tells : Chooses b q u v (choose (cells_in b) b.cells.n (part_at b.cells.parts.now q) q u v (cells_in b q u v))
  tells = told_by _ (led b.cells.parts.now (cells_in b) b.cells.n b.cells.formed q u v place.part) (by_choice b.cells.parts.now b.cells.table.now b.cells.n b.cells.formed q u v place.part)

pub stands_none : (found : Option (List Step)) (k at : ℕ) (steps : List Step) → found ≡ Some [] → k ≡ 0 → Stands found k at at steps steps
stands_none found k at steps is e = record { chosen = []; are = is; count = sym e; behind = omega arith; written = sym (append-nil (take at steps)) }

pub stands_one : (found : Option (List Step)) (k at : ℕ) (step : Step) (steps : List Step) → found ≡ Some (step ∷ []) → k ≡ 1 → at + k ≤ length steps → Stands found k at (at + 1) steps (set steps at step)
stands_one found k at step steps is e room = record { chosen = step ∷ []; are = is; count = sym e; behind = omega arith; written = rw add-one (take-suc-set steps at step (omega arith)) }
