use Rattle.std.proofs.Common.{length, arith}
use Rattle.std.proofs.lemmas.List.{take_all, map_push, take_more_set}
use Rattle.std.proofs.lemmas.Grind.{common_steps}
use Rattle.std.proofs.lemmas.Bool.Decides.{nat_tests}
use Rattle.kinds.specs.Payloads.{valid}
use Rattle.files.proofs.Filling.{payloads_more, behind_more, lies_at}
use Rattle.files.proofs.fill.fill_entries.Goals as goal
use Rattle.files.proofs.fill.fill_entries.Goals.{in-Some, in_default}

pub split_record-requires : goal.split_record-requires
split_record-requires g c = rw c.loop-entry.invariant.rest (lies_at (valid g.K.Payload.Payload.shape) (length c.args.entries.now) c.loop-entry.entry-index c.args.left.now (omega arith) c.requires).0

pub loop-entry-preserved : goal.loop-entry-preserved
loop-entry-preserved g c =
    let there = lies_at (valid g.K.Payload.Payload.shape) (length c.args.entries.now) c.loop-entry.entry-index c.args.left.now (omega arith) c.requires in
    elim c.match-decode.branch [
      | in-Some w ↦ grind (arith, common_steps, payloads_more, behind_more, map_push, take_more_set)
      | in_default w ↦ grind (arith, nat_tests)
    ]

pub returns-clause-held : goal.returns-clause-held
returns-clause-held g c = let all = take_all c.loop-entry.entry-index c.loop-entry.entries (omega arith) in grind (arith, common_steps)
