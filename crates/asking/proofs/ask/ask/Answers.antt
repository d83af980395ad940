use Rattle.std.proofs.Common.{subst, arith}
use Rattle.std.proofs.lemmas.Result.{err_from_is_err_and}
use Rattle.expressions.specs.Wordings.{Refused}
use Rattle.asking.specs.Asking.{too_long, by_wording}
use Rattle.queries.proofs.Meaning.{parse_told}
use Rattle.asking.proofs.Asked.{asked_all}
use Rattle.asking.proofs.ask.ask.Goals as goal

pub returns-then-input-gt-MOST_INPUT : goal.returns-then-input-gt-MOST_INPUT
returns-then-input-gt-MOST_INPUT c = too_long c.if-input-gt-MOST_INPUT.true

pub returns-in_err-parse : goal.returns-in_err-parse
returns-in_err-parse c =
    let p = err_from_is_err_and c.from_residual.result c.from_residual.ensures.1 in
    rw (p.1, p.2) (by_wording (omega arith) (subst (λ t. Refused t c.in_err-parse.field-0.0) c.split.ensures.wording (parse_told _ _ _ _ c.in_err-parse.ensures.parsed).0))

pub returns : goal.returns
returns c = asked_all _ _ _ _ _ _ _ _ _ c.requires c.split.ensures.wording c.split.ensures.book_file (omega arith) c.in_ok-parse.ensures.parsed c.work.ensures
