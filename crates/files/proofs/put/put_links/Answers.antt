use Rattle.std.proofs.Common.{◌≡◌, ℕ, ◌+◌, ◌<◌, ◌≤◌, true, List, length, get_or, refl, sym, ◌∙◌, rules}
use Rattle.std.proofs.lemmas.List.{get_or_default}
use Rattle.std.proofs.lemmas.List.Sums.{AllPass-from_list_all}
use Rattle.graphs.specs.declared.link.Link.{Link}
use Rattle.graphs.specs.Links.{sound, all_sound}
use Rattle.files.specs.Encoding.{link_kind, framed, link_bytes}
use Rattle.files.proofs.Filling.{links_length}
use Rattle.files.proofs.Putting.{laid_room, ends_small}
use Rattle.files.proofs.put.put_links.Goals as goal

abbrev none : Link
none = record { from = 0; letter = 0; to = 0 }

pub loop-link-init : goal.loop-link-init
loop-link-init c = record { front = refl; size = refl; room = c.requires.room ∙ sym (links_length c.args.links.now) }

pub slice_bounds-put_link-end : goal.slice_bounds-put_link-end
slice_bounds-put_link-end c =
    let ls = c.args.links.now in
    let i = c.loop-link.link-index in
    let room : c.loop-link.at + 7 ≤ length c.loop-link.out = laid_room (λ l. framed link_kind (link_bytes l)) ls i c.loop-link.at c.loop-link.out (get_or ls i none) c.loop-link-test.true (get_or_default ls i none (get_or ls i none) c.loop-link-test.true) c.loop-link.invariant in
    search rules

small : (n : ℕ) (ls : List Link) (i : ℕ) → i < length ls → all_sound n ls ≡ true → n ≤ 128 → ((get_or ls i none).from < 256) × ((get_or ls i none).to < 256)
small n ls i h fine few = ends_small n (get_or ls i none) (AllPass-from_list_all (sound n) ls fine i none h) few

pub put_link-requires-clause-from : goal.put_link-requires-clause-from
put_link-requires-clause-from c = (small c.args.entries c.args.links.now c.loop-link.link-index c.loop-link-test.true c.requires.sound c.requires.few).0

pub put_link-requires-clause-to : goal.put_link-requires-clause-to
put_link-requires-clause-to c = (small c.args.entries c.args.links.now c.loop-link.link-index c.loop-link-test.true c.requires.sound c.requires.few).1
