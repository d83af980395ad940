use Rattle.std.proofs.Common.{rules}
use Rattle.queries.specs.Calls.{Evaluates}
use Rattle.queries.proofs.Meaning.{evaluates_meant}
use Rattle.queries.proofs.Query.evaluate.Goals as goal

pub returns-clause-meant : goal.returns-clause-meant
returns-clause-meant g c =
    let e : Evaluates c.args.self.now (g.S.Source.graph c.args.source.now) c.args.table.now c.match-self.self-inside.condition c.match-self.table c.match-self.result = search rules in
    evaluates_meant _ _ _ _ _ _ e
