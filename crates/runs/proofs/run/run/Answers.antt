use Rattle.std.proofs.Common.{◌≡◌, ◌<◌, ◌≤◌, length, get_or, ap, ◌∙◌, get_or-set_same, arith, rules}
use Rattle.std.proofs.lemmas.List.{places, get_or-take, take_rest}
use Rattle.runs.specs.Requests.{steps_in}
use Rattle.runs.proofs.Going.{going_new, going_on, going_ran}
use Rattle.tables.proofs.Rows.{put_last}
use Rattle.runs.proofs.run.run.Goals as goal

pub loop-i-init : goal.loop-i-init
loop-i-init g c = going_new _ _ _ _ _ _ c.new-query.ensures

pub loop-i-preserved : goal.loop-i-preserved
loop-i-preserved g c =
    let k = c.loop-i.invariant in
    let h : c.loop-i.i < c.min-made.result = search (rules, places) in
    let lt : c.loop-i.i < length c.args.requests.now = omega arith in
    let place : c.loop-i.i < length c.loop-i.answers = omega arith in
    let n : c.steps_written-written.result ≡ steps_in c.make.result = c.steps_written-written.ensures ∙ ap steps_in (get_or-set_same _ _ _ _ place) in
    let same : length c.loop-i.steps ≡ length c.args.steps.now = omega arith in
    let item : c.request-item.result ≡ get_or c.args.requests.now c.loop-i.i c.request-item.result = c.request-item.is ∙ get_or-take c.min-made.result c.args.requests.now c.loop-i.i _ h in
    rw (n, put_last c.loop-i.written c.loop-i.steps c.make.new.steps (omega (arith, k.fits)))
    (going_on _ _ _ _ _ _ _ _ _ _ _ _ _ _ _ _ k (rw take_rest at c.make.ensures) lt place item same (c.make.auto.steps ∙ ap length (take_rest c.loop-i.steps c.loop-i.written)))

pub returns : goal.returns
returns g c =
    let h : c.min-made.result ≤ c.loop-i.i = search (rules, places) in
    let k : c.loop-i.i ≤ c.min-made.result = search (rules, places) in
    let done : c.loop-i.i ≡ c.min-made.result = omega arith in
    rw (← done) (going_ran _ _ _ _ _ _ _ _ _ _ _ c.loop-i.invariant (done ∙ c.min-made.ensures))
