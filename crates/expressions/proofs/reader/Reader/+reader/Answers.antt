use Rattle.std.proofs.Common.{◌∙◌, arith, rules}
use Rattle.std.proofs.lemmas.Result.{err_from_is_err_and}
use Rattle.expressions.proofs.Turns.{atom_nought, atom_letter, atom_lost, atom_lost_inside, atom_closing, item_turn, run_turn, run_lost, expression_turn, expression_lost}
use Rattle.expressions.proofs.reader.Reader.+reader.Goals as goal

pub atom-returns-in-Some-eq0-clause-read : goal.atom-returns-in-Some-eq0-clause-read
atom-returns-in-Some-eq0-clause-read t c = search (rules, atom_nought)

pub atom-returns-in-Some-a-to-z-clause-read : goal.atom-returns-in-Some-a-to-z-clause-read
atom-returns-in-Some-a-to-z-clause-read t c = search (rules, atom_letter)

pub atom-returns-in_default-clause-read : goal.atom-returns-in_default-clause-read
atom-returns-in_default-clause-read t c = search (rules, atom_lost)

pub atom-returns-in_ok-expression-in-Some-eq40-clause-read : goal.atom-returns-in_ok-expression-in-Some-eq40-clause-read
atom-returns-in_ok-expression-in-Some-eq40-clause-read t c =
    let x = c.in_ok-expression-in-Some-eq40.ensures in
    let e = c.in-Some-eq40.ensures in
    rw c.closing.ensures.draft (atom_closing _ _ _ _ _ _ _ x.text e.0 (omega (arith, e.1)) x.read _ c.closing.ensures.read)

pub atom-returns-in_err-expression-in-Some-eq40-clause-read : goal.atom-returns-in_err-expression-in-Some-eq40-clause-read
atom-returns-in_err-expression-in-Some-eq40-clause-read t c =
    let p = err_from_is_err_and c.from_residual.result c.from_residual.ensures.1 in
    let e = c.in-Some-eq40.ensures in
    rw (p.1, p.2) (atom_lost_inside _ _ _ e.0 (omega (arith, e.1)) c.in_err-expression-in-Some-eq40.ensures.read)

pub item-loop-sign-preserved : goal.item-loop-sign-preserved
item-loop-sign-preserved t c =
    let x = c.loop-sign.invariant in
    let s = c.in-Some.ensures in
    record { read = item_turn _ _ _ _ _ _ _ _ x.text x.read s.0 s.1 c.push.ensures; text = x.text }

pub run-loop-left-preserved : goal.run-loop-left-preserved
run-loop-left-preserved t c =
    let x = c.loop-left.invariant in
    let y = c.in_ok-item-2.ensures in
    record {
      read = run_turn _ _ _ _ _ _ _ _ _ _ x.text x.read (omega arith) (grind arith) y.read c.push.ensures c.last-left.ensures;
      text = y.text ∙ x.text;
    }

pub run-returns-in_err-item-2-clause-read : goal.run-returns-in_err-item-2-clause-read
run-returns-in_err-item-2-clause-read t c =
    let p = err_from_is_err_and c.from_residual-in_err-item-2.result c.from_residual-in_err-item-2.ensures.1 in
    let x = c.loop-left.invariant in
    rw (p.1, p.2) (run_lost _ _ _ _ _ _ _ x.text x.read (omega arith) (grind arith) c.in_err-item-2.ensures.read)

pub expression-loop-left-preserved : goal.expression-loop-left-preserved
expression-loop-left-preserved t c =
    let x = c.loop-left.invariant in
    let y = c.in_ok-run-2.ensures in
    let e = c.in-Some-eq124.ensures in
    record {
      read = expression_turn _ _ _ _ _ _ _ _ _ _ x.text x.read e.0 (omega (arith, e.1)) y.read c.push.ensures c.last-left.ensures;
      text = y.text ∙ x.text;
    }

pub expression-returns-in_err-run-2-clause-read : goal.expression-returns-in_err-run-2-clause-read
expression-returns-in_err-run-2-clause-read t c =
    let p = err_from_is_err_and c.from_residual-in_err-run-2.result c.from_residual-in_err-run-2.ensures.1 in
    let x = c.loop-left.invariant in
    let e = c.in-Some-eq124.ensures in
    rw (p.1, p.2) (expression_lost _ _ _ _ _ _ _ x.text x.read e.0 (omega (arith, e.1)) c.in_err-run-2.ensures.read)
