use Rattle.std.proofs.Common.{◌≡◌, ◌+◌, length, sum_by, sym, ◌∙◌, arith, rules, tests}
use Rattle.std.proofs.lemmas.Iterator.{YieldsList-from_slice}
use Rattle.std.proofs.lemmas.Iterator.Adapters.{fits_from_length, at_most_from_yields_List}
use Rattle.files.proofs.Putting.{entries_long}
use Rattle.files.proofs.write.entries_size.Goals as goal

pub returns-clause-is : goal.returns-clause-is
returns-clause-is g c =
    let sum : c.sum.result ≡ sum_by (λ e. 4 + length (g.K.Payload.Payload.encoded e)) c.args.entries.now = search rules in
    sum ∙ sym (entries_long g.K.Payload.Payload.encoded c.args.entries.now)

pub returns-clause-small : goal.returns-clause-small
returns-clause-small g c =
    let run = c.sum.ensures.runs tt in
    let below = fits_from_length _ _ 128 8389121 (at_most_from_yields_List (YieldsList-from_slice c.args.entries.now cc) c.requires) c.map.ensures.closure (omega arith) (λ x r q k. search (rules, tests)) run.0 run.0.seen run.1 in
    omega (arith, below, run.3)
