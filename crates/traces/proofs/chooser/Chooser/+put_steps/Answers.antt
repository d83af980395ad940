use Rattle.std.proofs.Common.{arith}
use Rattle.traces.proofs.Standing.{stands_none, stands_one}
use Rattle.traces.proofs.chooser.Chooser.+put_steps.Goals as goal

pub put_steps-requires : goal.put_steps-requires
put_steps-requires t c =
    let h = rw c.in-Inside.is at c.in_ok-choice.ensures in
    (omega (arith, c.decreases, h.before, h.count), (h.place, omega (arith, c.requires.room, h.count)))

pub put_steps-requires-in-Through : goal.put_steps-requires-in-Through
put_steps-requires-in-Through t c =
    let h = rw c.in-Through.is at c.in_ok-choice.ensures in
    (omega (arith, c.decreases, h.first_less), (h.first, omega (arith, c.requires.room, h.sum)))

pub put_steps-requires-in-Through-2 : goal.put_steps-requires-in-Through-2
put_steps-requires-in-Through-2 t c =
    let h = rw c.in-Through.is at c.in_ok-choice.ensures in
    let s = c.in_ok-joint-in-Through.ensures in
    (omega (arith, c.decreases, h.second_less), (h.second, omega (arith, c.requires.room, h.sum, s.behind)))

pub returns-in-Stay : goal.returns-in-Stay
returns-in-Stay t c =
    let h = rw c.in-Stay.is at c.in_ok-choice.ensures in
    stands_none _ _ _ _ h.0 h.1

pub returns-in-Along : goal.returns-in-Along
returns-in-Along t c =
    let h = rw c.in-Along.is at c.in_ok-choice.ensures in
    stands_one _ _ _ _ _ h.0 h.1 c.requires.room
