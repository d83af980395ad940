use Rattle.std.proofs.Common.{refl, rules}
use Rattle.std.proofs.lemmas.Slice.{overwrites}
use Rattle.listing.proofs.lines.put.Goals as goal

pub returns : goal.returns
returns c = record { size = refl; front = search (rules, overwrites); behind = search (rules, overwrites) }
