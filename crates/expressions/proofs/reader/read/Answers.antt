use Rattle.std.proofs.lemmas.Result.{err_from_is_err_and}
use Rattle.expressions.proofs.Whole.{whole, cut_short, lost}
use Rattle.expressions.proofs.reader.read.Goals as goal

pub returns-in_err-expression : goal.returns-in_err-expression
returns-in_err-expression c =
    let p = err_from_is_err_and c.from_residual.result c.from_residual.ensures.1 in
    rw (p.1, p.2) (lost _ _ c.in_err-expression.ensures.read)

pub returns-then-reader-text : goal.returns-then-reader-text
returns-then-reader-text c = cut_short _ _ _ _ c.in_ok-expression.ensures.read c.if-reader-text.true

pub returns : goal.returns
returns c = whole _ _ _ _ c.in_ok-expression.ensures.read c.if-reader-text.false c.new.ensures
