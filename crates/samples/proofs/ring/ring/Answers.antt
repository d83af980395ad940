use Rattle.std.proofs.Common.{rules}
use Rattle.std.proofs.lemmas.List.FromFn.{fill_by_all}
use Rattle.samples.specs.Rings.{ring_link}
use Rattle.samples.proofs.ring.ring.Goals as goal

pub returns : goal.returns
returns c =
    let items = c.from_fn.ensures.items in
    fill_by_all (ring_link 125) c.from_fn.result 125 (ring_link 0 0) items.long
    (λ k below. let made = items.at k (ring_link 0 0) below in search rules)
