use Rattle.std.proofs.Common.{◌+◌, ◌≤◌, length, refl, sym, ap, ◌∙◌, arith, rules}
use Rattle.std.proofs.lemmas.Grind.{common_steps}
use Rattle.std.proofs.lemmas.List.Folds.{flat_map-map}
use Rattle.files.specs.Encoding.{entry_kind, framed}
use Rattle.files.proofs.Putting.{laid_room, laid_more, laid_all}
use Rattle.files.proofs.put.put_entries.Goals as goal

pub loop-entry-init : goal.loop-entry-init
loop-entry-init g c = record {
  laid = record { front = refl; size = refl; room = c.requires ∙ ap length (flat_map-map (framed entry_kind) g.K.Payload.Payload.encoded c.args.entries.now) };
  values = tt;
}

pub slice_bounds-put_entry-end : goal.slice_bounds-put_entry-end
slice_bounds-put_entry-end g c =
    let room = laid_room (λ e. framed entry_kind (g.K.Payload.Payload.encoded e)) c.args.entries.now c.loop-entry.entry-index c.loop-entry.at c.loop-entry.out c.entry-item.result c.loop-entry-test.true c.entry-item.is c.loop-entry.invariant.laid in
    let fits : c.loop-entry.at + (4 + c.size-size.result) ≤ length c.loop-entry.out = omega (arith, c.size-size.ensures.is) in
    search rules

pub loop-entry-preserved : goal.loop-entry-preserved
loop-entry-preserved g c = record {
  laid = laid_more (λ e. framed entry_kind (g.K.Payload.Payload.encoded e)) c.args.entries.now c.loop-entry.entry-index c.loop-entry.at _ _ c.loop-entry.out c.put_entry.new.out c.entry-item.result c.loop-entry-test.true c.entry-item.is (omega (arith, c.size-size.ensures.is)) (omega (arith, c.size-size.ensures.is)) c.put_entry.ensures c.loop-entry.invariant.laid;
  values = grind (arith, common_steps);
}

pub returns-clause-written : goal.returns-clause-written
returns-clause-written g c = laid_all (λ e. framed entry_kind (g.K.Payload.Payload.encoded e)) c.args.entries.now c.loop-entry.entry-index c.loop-entry.at c.loop-entry.out c.loop-entry-test.false c.loop-entry.invariant.laid ∙ sym (flat_map-map (framed entry_kind) g.K.Payload.Payload.encoded c.args.entries.now)
