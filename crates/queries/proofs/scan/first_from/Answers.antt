use Rattle.std.proofs.Common.{sym, refl, ◌∙◌}
use Rattle.queries.proofs.Firsts.{first_none, first_some, first_in_row}
use Rattle.queries.proofs.scan.first_from.Goals as goal

pub returns-in_err-at : goal.returns-in_err-at
returns-in_err-at c = rw c.from_residual.ensures (first_none _ _ _ _ _ c.requires.square c.requires.column c.requires.within refl (sym c.first_reached.ensures ∙ c.in_err-at.was))

pub returns-then-column-n : goal.returns-then-column-n
returns-then-column-n c = first_in_row _ _ _ _ _ c.requires.square c.requires.column c.requires.within refl _ (sym c.first_reached.ensures ∙ c.in_ok-at.was) c.if-column-n.true

pub returns : goal.returns
returns c = first_some _ _ _ _ _ c.requires.square c.requires.column c.requires.within refl _ (sym c.first_reached.ensures ∙ c.in_ok-at.was)
