use Rattle.files.specs.Encoding.{link_kind, framed, link_bytes}
use Rattle.files.proofs.Putting.{Laid}
use Rattle.files.proofs.put.put_links.Given as goal

abbrev pub invariant-loop-link : goal.invariant-loop-link
invariant-loop-link l = Laid (λ k. framed link_kind (link_bytes k)) l.links l.link-index l.at l.out
