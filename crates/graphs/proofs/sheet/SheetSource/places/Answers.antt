use Rattle.std.proofs.Common.{◌*◌, sym, ap, ◌∙◌}
use Rattle.graphs.specs.SheetLaws.{places_length}
use Rattle.graphs.proofs.sheet.SheetSource.places.Goals as goal

pub returns-clause-is : goal.returns-clause-is
returns-clause-is c = ap (λ n. 3 * n) c.days.ensures.is ∙ sym (places_length _)
