use Rattle.std.proofs.Common.{◌≡◌, ◌≤◌, ◌*◌, length, take, flat_map}
use Rattle.listing.specs.Lines.{step_text}
use Rattle.listing.proofs.lines.path_size.Given as goal

abbrev pub invariant-loop-step : goal.invariant-loop-step
invariant-loop-step l =
    record {
      reach : l.size ≡ length (flat_map step_text (take l.step-index l.path));
      small : l.size ≤ 21 * l.step-index;
    }
