use Rattle.std.proofs.Common.{rules, tests}
use Rattle.std.proofs.lemmas.Iterator.{YieldsList-from_slice}
use Rattle.std.proofs.lemmas.Iterator.Search.{all_from_yields_List}
use Rattle.graphs.specs.Links.{sound}
use Rattle.files.proofs.write.all_sound.Goals as goal

pub returns : goal.returns
returns c =
    let n = c.args.entries in
    all_from_yields_List (sound n) _ _ _ c.all.ensures.ran (YieldsList-from_slice c.args.links.now cc) (λ x b q k. search (rules, tests))
