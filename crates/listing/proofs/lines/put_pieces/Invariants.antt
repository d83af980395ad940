use Rattle.std.proofs.Common.{take, flat_map}
use Rattle.listing.specs.Puts.{PutAt}
use Rattle.listing.proofs.lines.put_pieces.Given as goal

abbrev pub invariant-loop-piece : goal.invariant-loop-piece
invariant-loop-piece l = PutAt (flat_map (λ piece. piece.now) (take l.piece-index l.pieces)) 0 l.at l.initial.out l.out
