use Rattle.std.proofs.Common.{◌∙◌, arith}
use Rattle.std.proofs.lemmas.Bool.Decides.{nat_tests}
use Rattle.queries.proofs.Sums.{block_tally}
use Rattle.queries.proofs.Query.tally.Goals as goal

pub returns-in_ok-cells-in-Evaluated-default-clause-tallied : goal.returns-in_ok-cells-in-Evaluated-default-clause-tallied
returns-in_ok-cells-in-Evaluated-default-clause-tallied c =
    let o = c.in_ok-cells-in-Evaluated-default.ensures in
    let w = c.whole-block.ensures in
    rw (← c.self.view_is, c.in-Evaluated-default.is-0, ← o.1.0, ← o.1.1, ← o.1.2) (grind (arith, nat_tests), c.tally.ensures ∙ block_tally _ _ _ w.size w.are)
