use Rattle.std.proofs.Common.{inr, rules}
use Rattle.std.proofs.lemmas.Result.{err_from_is_err_and}
use Rattle.asking.proofs.Booked.{book_read}
use Rattle.asking.proofs.ask.work_as.Goals as goal

pub returns-in_err-evaluate : goal.returns-in_err-evaluate
returns-in_err-evaluate g c =
    let p = err_from_is_err_and c.from_residual-in_err-evaluate.result c.from_residual-in_err-evaluate.ensures.1 in
    rw (p.1, p.2) (inr (_, book_read _ _ _ _ _ _ _ _ _ _ _ c.in_ok-read.ensures.read (search rules), c.in_err-evaluate.ensures.evaluated.0))
