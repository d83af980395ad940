use Rattle.std.proofs.Common.{◌≡◌, ◌<◌, length, Some, None, rules}
use Rattle.std.proofs.lemmas.Result.{err_from_is_err_and}
use Rattle.files.proofs.Growing.{going_none, going_more, head_refused, going_refused, going_within, going_done}
use Rattle.files.proofs.check.check.Goals as goal

pub returns-in_err-read : goal.returns-in_err-read
returns-in_err-read g c =
    let p = err_from_is_err_and c.from_residual.result c.from_residual.ensures.1 in
    rw (p.1, p.2) (head_refused g.K.Payload.Payload.shape c.args.room c.args.bytes.now _ c.in_err-read.ensures)

pub loop-left-init : goal.loop-left-init
loop-left-init g c =
    let sh = g.K.Payload.Payload.shape in
    going_more sh c.args.room c.args.bytes.now c.args.bytes.now c.in_ok-read.left.now None 0 c.in_ok-read.read (λ i. (c.type_inv.bytes i).fits) (going_none sh c.args.room c.args.bytes.now) c.in_ok-read.ensures

pub overflow_sub-at : goal.overflow_sub-at
overflow_sub-at g c = going_within g.K.Payload.Payload.shape c.args.room c.args.bytes.now c.loop-left.left.now (Some c.loop-left.read) c.loop-left.invariant

pub returns-in_err-read-2 : goal.returns-in_err-read-2
returns-in_err-read-2 g c =
    let p = err_from_is_err_and c.from_residual-in_err-read-2.result c.from_residual-in_err-read-2.ensures.1 in
    let more : 0 < length c.loop-left.left.now = search rules in
    rw (p.1, p.2) (going_refused g.K.Payload.Payload.shape c.args.room c.args.bytes.now c.loop-left.left.now (Some c.loop-left.read) _ c.loop-left.invariant more c.in_err-read-2.ensures)

pub loop-left-preserved : goal.loop-left-preserved
loop-left-preserved g c =
    going_more g.K.Payload.Payload.shape c.args.room c.args.bytes.now c.loop-left.left.now c.in_ok-read-2.field-0-1.now (Some c.loop-left.read) _ c.in_ok-read-2.field-0-0 (λ i. (c.type_inv.bytes i).fits) c.loop-left.invariant c.in_ok-read-2.ensures

pub returns : goal.returns
returns g c =
    let none : length c.loop-left.left.now ≡ 0 = search rules in
    going_done g.K.Payload.Payload.shape c.args.room c.args.bytes.now c.loop-left.left.now c.loop-left.read c.loop-left.invariant none
