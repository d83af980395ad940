use Rattle.std.proofs.Common.{◌≡◌, map, take}
use Rattle.files.specs.Walking.{payloads_in, behind}
use Rattle.files.proofs.fill.fill_entries.Given as goal

abbrev pub invariant-loop-entry : goal.invariant-loop-entry
invariant-loop-entry g l = record {
  rest : l.left ≡ behind l.entry-index l.initial.left;
  held : map g.K.Payload.Payload.encoded (take l.entry-index l.entries) ≡ payloads_in l.entry-index l.initial.left;
  stored : take l.entry-index l.entries ≡ map g.K.Payload.Payload.decoded (payloads_in l.entry-index l.initial.left);
}
