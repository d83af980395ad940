use Rattle.std.proofs.Common.{arith, rules}
use Rattle.std.proofs.lemmas.Grind.{common_steps}
use Rattle.std.proofs.lemmas.List.Concat.{length-flat_map}
use Rattle.listing.proofs.lines.pieces_size.Goals as goal

pub sum-requires-clause-fits : goal.sum-requires-clause-fits
sum-requires-clause-fits c = let h = length-flat_map (λ piece. piece.now) c.args.pieces.now in search rules

pub returns : goal.returns
returns c = grind (arith, common_steps, length-flat_map)
