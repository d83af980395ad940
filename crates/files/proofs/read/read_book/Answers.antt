use Rattle.std.proofs.Common.{Ok, Err, refl, arith}
use Rattle.std.proofs.lemmas.Result.{err_from_is_err_and}
use Rattle.files.proofs.Booked.{surveyed_room, entries_lie, links_lie, booked}
use Rattle.files.proofs.RoundTrip.{decided, same_file}
use Rattle.files.proofs.read.read_book.Goals as goal

pub returns-in_err-read : goal.returns-in_err-read
returns-in_err-read g c =
    let sh = g.K.Payload.Payload.shape in
    let p = err_from_is_err_and c.from_residual.result c.from_residual.ensures.1 in
    let s = surveyed_room sh c.args.entries.now c.args.links.now c.min.result c.min-2.result c.args.bytes.now (Err _) c.min.ensures c.min-2.ensures c.in_err-read.ensures in
    rw (p.1, p.2) (record { decided = decided sh _ c.args.bytes.now (Err _) s; read = (s, refl, refl); again = tt })

pub fill_entries-left-requires : goal.fill_entries-left-requires
fill_entries-left-requires g c =
    entries_lie g.K.Payload.Payload.shape c.args.bytes.now c.args.entries.now c.args.links.now _ _ c.min.ensures c.min-2.ensures c.in_ok-read.read c.in_ok-read.ensures _ c.split_record.ensures.behind

pub fill_links-requires : goal.fill_links-requires
fill_links-requires g c =
    links_lie g.K.Payload.Payload.shape c.args.bytes.now c.args.entries.now c.args.links.now _ _ c.min.ensures c.min-2.ensures c.in_ok-read.read c.in_ok-read.ensures _ c.split_record.ensures.behind _ c.fill_entries-left.ensures.behind

pub returns : goal.returns
returns g c =
    let sh = g.K.Payload.Payload.shape in
    let encoded = g.K.Payload.Payload.encoded in
    let filled = c.fill_entries-left.ensures in
    let s = surveyed_room sh c.args.entries.now c.args.links.now c.min.result c.min-2.result c.args.bytes.now (Ok c.in_ok-read.read) c.min.ensures c.min-2.ensures c.in_ok-read.ensures in
    let held = booked sh c.args.bytes.now c.args.entries.now c.args.links.now _ _ c.min.ensures c.min-2.ensures c.in_ok-read.read c.in_ok-read.ensures _ c.split_record.ensures.behind _ filled.behind encoded g.K.Payload.Payload.decoded _ _ filled.held filled.stored c.fill_links.ensures in
    record {
      decided = decided sh _ c.args.bytes.now (Ok c.in_ok-read.read) s;
      read = held;
      again = same_file sh encoded _ c.args.bytes.now _ _ (omega arith) (omega arith) held.fits held.file;
    }
