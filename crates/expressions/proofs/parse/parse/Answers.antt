use Rattle.std.proofs.Common.{ℕ, List, Result, arith}
use Rattle.std.proofs.lemmas.Result.{err_from_is_err_and}
use Rattle.refusals.specs.declared.Refusal.{Refusal}
use Rattle.expressions.specs.declared.part.Parts.{Parts}
use Rattle.expressions.specs.Wordings.{Parsed, Decided, too_long, no_expression}
use Rattle.expressions.proofs.Judged.{decided_by, read_is}
use Rattle.expressions.proofs.parse.parse.Goals as goal

both : (t : List ℕ) (r : Result Parts Refusal) → Parsed t r → record { parsed : Parsed t r; decided : Decided t r }
both t r h = record { parsed = h; decided = decided_by t r h }

pub returns-then-text-gt-MOST_WORDING : goal.returns-then-text-gt-MOST_WORDING
returns-then-text-gt-MOST_WORDING c = both _ _ (too_long c.if-text-gt-MOST_WORDING.true)

pub returns-in_err-read : goal.returns-in_err-read
returns-in_err-read c =
    let x = err_from_is_err_and c.from_residual.result c.from_residual.ensures.1 in
    both _ _ (rw (x.1, x.2) (no_expression (omega arith) c.in_err-read.ensures))

pub returns : goal.returns
returns c = both _ _ (rw c.ok_or.ensures.value (read_is _ _ _ (omega arith) c.in_ok-read.ensures c.finish.ensures))
