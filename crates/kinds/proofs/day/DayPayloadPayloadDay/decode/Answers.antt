use Rattle.std.proofs.Common.{arith}
use Rattle.kinds.proofs.DayFacts.{day_back}
use Rattle.kinds.proofs.day.DayPayloadPayloadDay.decode.Goals as goal

pub returns-clause-back : goal.returns-clause-back
returns-clause-back c =
    rw c.then_some.ensures (day_back c.args.payload.now c.in_ok-ok.field-0 c.from_le_bytes.result c.exists.result (omega arith) (omega (arith, c.type_inv.payload 1)) (rw c.try_from.ensures at c.in_ok-ok.ensures.value) (omega arith) c.exists.ensures)
