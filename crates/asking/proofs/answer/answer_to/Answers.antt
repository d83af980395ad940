use Rattle.std.proofs.Common.{refl, length, arith}
use Rattle.std.proofs.lemmas.Result.{err_from_is_err_and}
use Rattle.listing.specs.Lines.{refusal_line}
use Rattle.queries.specs.Conditions.{whole_cell}
use Rattle.queries.specs.Taking.{chosen_in}
use Rattle.asking.specs.declared.answer.Answer.{Answer}
use Rattle.asking.specs.Chosen.{steps_of}
use Rattle.asking.specs.Tells.{listing_text}
use Rattle.asking.proofs.Asked.{listed_by, unaltered_by, lines_within, few_by}
use Rattle.asking.proofs.Lent.{lacks_room}
use Rattle.asking.proofs.OneDue.{answered}
use Rattle.asking.proofs.answer.answer_to.Goals as goal

pub invariant_of-evaluated-clause-few : goal.invariant_of-evaluated-clause-few
invariant_of-evaluated-clause-few c = few_by _ _ c.ask.new.cells c.ask.new.query c.in-Ok.entries c.in-Ok.ensures

pub invariant_of-evaluated-clause-unaltered : goal.invariant_of-evaluated-clause-unaltered
invariant_of-evaluated-clause-unaltered c =
    unaltered_by _ _ c.ask.new.cells c.ask.new.query c.in-Ok.entries c.in-Ok.ensures

pub invariant_of-evaluated-clause-short : goal.invariant_of-evaluated-clause-short
invariant_of-evaluated-clause-short c = lines_within _ _ c.ask.new.cells c.ask.new.query c.in-Ok.entries c.in-Ok.ensures

pub returns-then-not-has_room : goal.returns-then-not-has_room
returns-then-not-has_room c =
    let lines = listing_text (whole_cell c.ask.new.query c.ask.new.cells)
    (λ u v. steps_of (chosen_in c.ask.new.query c.ask.new.cells u v)) c.in-Ok.entries in
    let listed = listed_by _ _ c.ask.new.cells c.ask.new.query c.in-Ok.entries lines refl c.in-Ok.ensures refl in
    let lacks = lacks_room lines (length c.args.text.now) c.has_room.result c.has_room.ensures.is
    c.if-not-has_room.true in
    answered _ lines _ _ (Answer.Listed (length lines)) _ (listed, refl) c.has_room.ensures.within (lacks, refl)

pub returns-else-not-has_room : goal.returns-else-not-has_room
returns-else-not-has_room c =
    let lines = listing_text (whole_cell c.ask.new.query c.ask.new.cells)
    (λ u v. steps_of (chosen_in c.ask.new.query c.ask.new.cells u v)) c.in-Ok.entries in
    let listed = listed_by _ _ c.ask.new.cells c.ask.new.query c.in-Ok.entries lines refl c.in-Ok.ensures refl in
    answered _ lines _ _ (Answer.Listed c.list.result) _ (listed, c.list.ensures.size) c.has_room.ensures.within
    (refl, c.list.ensures)

pub returns-in_ok-refusal_line-in-Err : goal.returns-in_ok-refusal_line-in-Err
returns-in_ok-refusal_line-in-Err c =
    let laid = c.in_ok-refusal_line-in-Err.ensures.lined in
    answered _ (refusal_line c.in-Err.refusal) _ _ (Answer.Refused c.in_ok-refusal_line-in-Err.field-0) _
    (c.in-Err.refusal, c.in-Err.ensures, refl, laid.size) (omega (arith, c.refusal_line.ensures.short)) (refl, laid)

pub returns-in_err-refusal_line-in-Err : goal.returns-in_err-refusal_line-in-Err
returns-in_err-refusal_line-in-Err c =
    let p = err_from_is_err_and c.from_residual.result c.from_residual.ensures.1 in
    let line = refusal_line c.in-Err.refusal in
    rw (p.1, p.2) (answered _ line _ _ (Answer.Refused (length line)) _
    (c.in-Err.refusal, c.in-Err.ensures, refl, refl) (omega (arith, c.refusal_line.ensures.short))
    c.in_err-refusal_line-in-Err.ensures.lined)
