use Rattle.std.proofs.Common.{◌≡◌, length, take, sym, arith}
use Rattle.std.proofs.lemmas.List.{take_all, length-take-le}
use Rattle.samples.proofs.piece.front.Goals as goal

pub slice_bounds-result-end : goal.slice_bounds-result-end
slice_bounds-result-end c = sym (length-take-le 255 c.args.text.now (omega arith))

pub returns-then-text-gt-MOST_NAME-clause-small : goal.returns-then-text-gt-MOST_NAME-clause-small
returns-then-text-gt-MOST_NAME-clause-small c =
    let size : length (take 255 c.args.text.now) ≡ 255 = length-take-le 255 c.args.text.now (omega arith) in
    omega (arith, size)

pub returns-else-text-gt-MOST_NAME-clause-is : goal.returns-else-text-gt-MOST_NAME-clause-is
returns-else-text-gt-MOST_NAME-clause-is c = sym (take_all 255 c.args.text.now (omega arith))
