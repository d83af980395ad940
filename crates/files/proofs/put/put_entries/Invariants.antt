use Rattle.std.proofs.Common.{◌≡◌, true, map, take}
use Rattle.std.specs.List.{AllByRecursion}
use Rattle.kinds.specs.Payloads.{valid}
use Rattle.files.specs.Encoding.{entry_kind, framed}
use Rattle.files.proofs.Putting.{Laid}
use Rattle.files.proofs.put.put_entries.Given as goal

abbrev pub invariant-loop-entry : goal.invariant-loop-entry
invariant-loop-entry g l = record {
  laid : Laid (λ e. framed entry_kind (g.K.Payload.Payload.encoded e)) l.entries l.entry-index l.at l.out;
  values : AllByRecursion (λ p. valid g.K.Payload.Payload.shape p ≡ true) (map g.K.Payload.Payload.encoded (take l.entry-index l.entries));
}
