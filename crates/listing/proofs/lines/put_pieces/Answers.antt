use Rattle.std.proofs.Common.{arith}
use Rattle.std.proofs.lemmas.Grind.{common_steps}
use Rattle.std.proofs.lemmas.List.Folds.{length-flat_map-take}
use Rattle.listing.proofs.lines.put_pieces.Goals as goal

pub put-at-requires : goal.put-at-requires
put-at-requires c = grind (arith, common_steps, length-flat_map-take (λ piece. piece.now) c.args.pieces.now)
