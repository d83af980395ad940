use Rattle.std.proofs.Common.{◌*◌, length, drop, refl, ap, ◌∙◌, arith}
use Rattle.files.proofs.RoundTrip.{encode_length, write_short, put_fits, put_book, same_book}
use Rattle.files.proofs.write.write_book.Goals as goal

pub returns-then-out-size : goal.returns-then-out-size
returns-then-out-size g c =
    let sh = g.K.Payload.Payload.shape in
    let encoded = g.K.Payload.Payload.encoded in
    let es = c.args.entries.now in
    let ls = c.args.links.now in
    record {
      written = (write_short sh encoded es ls _ c.if-not-is_writable.ensures (omega (arith, encode_length sh encoded es ls, c.entries_size-entries_size.ensures.is, c.if-out-size.true)), refl);
      again = tt;
    }

pub returns : goal.returns
returns g c =
    let sh = g.K.Payload.Payload.shape in
    let encoded = g.K.Payload.Payload.encoded in
    let es = c.args.entries.now in
    let ls = c.args.links.now in
    let size = c.entries_size-entries_size in
    let fine = c.if-not-is_writable.ensures in
    let rest = c.split_at_mut-end.ensures.back ∙ ap (drop (7 * length ls)) (c.split_at_mut-middle.ensures.back ∙ ap (drop size.result) c.split_at_mut-head.ensures.back) in
    let put = put_book sh encoded es ls fine c.args.out.now c.put_head.new.out c.put_entries.new.out c.put_links.new.out c.split_at_mut-end.result.1.now size.result c.put_head.ensures c.put_entries.ensures.written c.put_links.ensures size.ensures.is rest c.if-out-size.false in
    record {
      written = put;
      again = same_book sh encoded g.K.Payload.Payload.decoded g.K.Payload.Payload.agree g.K.Payload.Payload.known _ es ls (put_fits sh encoded es ls fine c.put_entries.ensures.values) put.front;
    }
