use Rattle.std.proofs.Common.{take, flat_map, ◌++◌}
use Rattle.listing.specs.Lines.{step_text}
use Rattle.listing.specs.Puts.{PutAt}
use Rattle.listing.proofs.lines.put_path.Given as goal

abbrev pub invariant-loop-step : goal.invariant-loop-step
invariant-loop-step l = PutAt (flat_map (λ piece. piece.now) l.pieces ++ flat_map step_text (take l.step-index l.path)) 0 l.at l.fn.out l.out
