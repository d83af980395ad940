use Rattle.std.proofs.lemmas.List.{drop-replicate}
use Rattle.kinds.proofs.name.name_of.Goals as goal

pub returns-clause-is : goal.returns-clause-is
returns-clause-is c = rw (c.copy_from_slice.ensures.after, drop-replicate)
