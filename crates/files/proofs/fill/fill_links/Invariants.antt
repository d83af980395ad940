use Rattle.std.proofs.Common.{◌≡◌, map, take}
use Rattle.files.specs.Reading.{link_of}
use Rattle.files.specs.Walking.{payloads_in, behind}
use Rattle.files.proofs.fill.fill_links.Given as goal

abbrev pub invariant-loop-link : goal.invariant-loop-link
invariant-loop-link l = record {
  rest : l.left ≡ behind l.link-index l.initial.left;
  stored : take l.link-index l.links ≡ map link_of (payloads_in l.link-index l.initial.left);
}
