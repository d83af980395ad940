use Rattle.std.proofs.Common.{nat_le, rules}
use Rattle.std.proofs.lemmas.List.Sums.{count_by-le-length}
use Rattle.languages.specs.Cells.{long}
use Rattle.queries.proofs.scan.tally.Goals as goal

pub sum-requires-clause-fits : goal.sum-requires-clause-fits
sum-requires-clause-fits c = let h = count_by-le-length (λ x. nat_le x long) c.args.block.now in search rules
