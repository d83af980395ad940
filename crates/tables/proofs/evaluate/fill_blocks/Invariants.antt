use Rattle.tables.specs.Tables.{Filled}
use Rattle.tables.proofs.evaluate.fill_blocks.Given as goal

abbrev pub invariant-loop-q : goal.invariant-loop-q
invariant-loop-q g l = Filled (g.S.Source.graph l.source) l.parts l.q l.initial.table l.table
