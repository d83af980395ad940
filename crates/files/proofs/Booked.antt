-- What the two passes over a file leave in the buffers. Assumes nothing.
use Rattle.std.proofs.Common.{◌≡◌, ℕ, ◌+◌, min, eqb, List, [], ◌++◌, map, length, take, drop, Ok, Result, sym, ap, ◌∙◌, subst, arith}
use Rattle.std.proofs.lemmas.List.{append-nil, take_at, drop_at, length-map, length-take-le}
use Rattle.std.proofs.lemmas.List.Folds.{flat_map-map}
use Rattle.std.specs.List.{flat_map}
use Rattle.graphs.specs.declared.link.Link.{Link}
use Rattle.kinds.specs.Payloads.{Shape, valid}
use Rattle.refusals.specs.declared.Refusal.{Refusal}
use Rattle.files.specs.declared.counts.Counts.{Counts}
use Rattle.files.specs.Books.{room_of, Held}
use Rattle.files.specs.Encoding.{entry_kind, link_kind, framed, link_bytes, links_bytes, Raw, written, raw_book, counts_of, Fits}
use Rattle.files.specs.Reading.{size_of, link_of}
use Rattle.files.specs.Walking.{payloads_in, behind, Lies, Surveyed}
use Rattle.files.proofs.Filling.{Stands, stands_written, links_back, links_fit}

-- the room that the code measures
pub surveyed_room : {V : Type 0} (sh : Shape) (es : List V) (ls : List Link) (e l : ℕ) (bytes : List ℕ) (r : Result Counts Refusal) → e ≡ min (length es) 128 → l ≡ min (length ls) 1024 → Surveyed sh (record { entries = e; links = l }) bytes r → Surveyed sh (room_of es ls) bytes r
surveyed_room sh es ls e l bytes r ee el s = subst (λ room. Surveyed sh room bytes r) (rw (ee, el)) s

module _ {V : Type 0} (sh : Shape) (bytes : List ℕ) (es : List V) (ls : List Link) (e l : ℕ) (ee : e ≡ min (length es) 128) (el : l ≡ min (length ls) 1024) (n : Counts) (checked : Surveyed sh (record { entries = e; links = l }) bytes (Ok n)) where
  abbrev s : Surveyed sh (room_of es ls) bytes (Ok n)
  s = surveyed_room sh es ls e l bytes (Ok n) ee el checked

  abbrev book : Raw
  book = s.0

  entries_are : n.entries ≡ length book.payloads
  entries_are = ap (λ c. c.entries) s.3

  links_are : n.links ≡ length book.links
  links_are = ap (λ c. c.links) s.3

  entries_room : length (take n.entries es) ≡ length book.payloads
  entries_room = length-take-le n.entries es (omega (arith, s.2.entries, entries_are)) ∙ entries_are

  links_room : length (take n.links ls) ≡ length book.links
  links_room = length-take-le n.links ls (omega (arith, s.2.links, links_are)) ∙ links_are

  module _ (left : List ℕ) (is : left ≡ drop (4 + size_of bytes) bytes) where
    entries_stand : Stands (valid sh) book.payloads left (links_bytes book.links)
    entries_stand = subst (λ t. Stands (valid sh) book.payloads t (links_bytes book.links)) (sym (is ∙ ap (λ bs. drop (4 + size_of bs) bs) s.1)) (stands_written (valid sh) entry_kind book.payloads (links_bytes book.links) s.2.values)

    pub entries_lie : Lies (valid sh) (length (take n.entries es)) left
    entries_lie = rw entries_room entries_stand.lies

    module _ (rest : List ℕ) (rest_is : rest ≡ behind (length (take n.entries es)) left) where
      links_stand : Stands (λ p. eqb (length p) 3) (map link_bytes book.links) rest []
      links_stand =
          let here : rest ≡ flat_map (framed link_kind) (map link_bytes book.links) ++ [] = rest_is ∙ ap (λ k. behind k left) entries_room ∙ entries_stand.rest ∙ sym (flat_map-map (framed link_kind) link_bytes book.links) ∙ sym (append-nil (flat_map (framed link_kind) (map link_bytes book.links))) in
          subst (λ t. Stands (λ p. eqb (length p) 3) (map link_bytes book.links) t []) (sym here) (stands_written (λ p. eqb (length p) 3) link_kind (map link_bytes book.links) [] (links_fit book.links))

      links_count : length (take n.links ls) ≡ length (map link_bytes book.links)
      links_count = links_room ∙ sym (length-map book.links link_bytes)

      pub links_lie : Lies (λ p. eqb (length p) 3) (length (take n.links ls)) rest
      links_lie = rw links_count links_stand.lies

      pub booked : (encoded : V → List ℕ) (decoded : List ℕ → V) (es1 : List V) (ls1 : List Link) → map encoded es1 ≡ payloads_in (length (take n.entries es)) left → es1 ≡ map decoded (payloads_in (length (take n.entries es)) left) → ls1 ≡ map link_of (payloads_in (length (take n.links ls)) rest) → Held sh encoded decoded bytes es (es1 ++ drop n.entries es) ls (ls1 ++ drop n.links ls) n
      booked encoded decoded es1 ls1 held stored held-links =
          let es_is : map encoded es1 ≡ book.payloads = held ∙ ap (λ k. payloads_in k left) entries_room ∙ entries_stand.payloads in
          let ls_is : ls1 ≡ book.links = held-links ∙ ap (λ k. map link_of (payloads_in k rest)) links_count ∙ ap (map link_of) links_stand.payloads ∙ links_back book.links in
          let es_len : length es1 ≡ n.entries = sym (length-map es1 encoded) ∙ ap length es_is ∙ sym entries_are in
          let ls_len : length ls1 ≡ n.links = ap length ls_is ∙ sym links_are in
          let te : take n.entries (es1 ++ drop n.entries es) ≡ es1 = take_at es1 _ n.entries es_len in
          let tl : take n.links (ls1 ++ drop n.links ls) ≡ ls1 = take_at ls1 _ n.links ls_len in
          let is : book ≡ raw_book encoded (take n.entries (es1 ++ drop n.entries es)) (take n.links (ls1 ++ drop n.links ls)) = rw (te, tl, es_is, ls_is) in
          record {
            file = s.1 ∙ ap (written sh) is;
            fits = subst (Fits sh (room_of es ls)) is s.2;
            counts = s.3 ∙ ap counts_of is;
            stored = te ∙ stored ∙ ap (map decoded) (sym held) ∙ ap (λ xs. map decoded (map encoded xs)) (sym te);
            other_values = drop_at es1 _ n.entries es_len;
            other_links = drop_at ls1 _ n.links ls_len;
          }
