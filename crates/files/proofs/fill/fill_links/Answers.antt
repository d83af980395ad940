use Rattle.std.proofs.Common.{eqb, length, arith}
use Rattle.std.proofs.lemmas.List.{map_push, take_more_set}
use Rattle.std.proofs.lemmas.Grind.{common_steps}
use Rattle.std.proofs.lemmas.Bool.Decides.{nat_tests}
use Rattle.files.proofs.Filling.{payloads_more, behind_more, lies_at}
use Rattle.files.proofs.fill.fill_links.Goals as goal
use Rattle.files.proofs.fill.fill_links.Goals.{in-Some, in_default}

pub split_record-requires : goal.split_record-requires
split_record-requires c = rw c.loop-link.invariant.rest (lies_at (λ p. eqb (length p) 3) (length c.args.links.now) c.loop-link.link-index c.args.left.now (omega arith) c.requires).0

pub loop-link-preserved : goal.loop-link-preserved
loop-link-preserved c =
    let there = lies_at (λ p. eqb (length p) 3) (length c.args.links.now) c.loop-link.link-index c.args.left.now (omega arith) c.requires in
    elim c.match-link_of.branch [
      | in-Some w ↦ grind (arith, common_steps, payloads_more, behind_more, map_push, take_more_set)
      | in_default w ↦ grind (arith, nat_tests)
    ]
