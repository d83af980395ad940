-- A file that is written reads back, and a file that is read is written again. Assumes nothing.
use Rattle.std.proofs.Common.{◌≡◌, ℕ, ◌+◌, ◌*◌, ◌<◌, ◌≤◌, true, List, [], ◌∷◌, ◌++◌, map, length, take, drop, Some, None, Ok, Err, Result, sym, ap, ◌∙◌, arith}
use Rattle.std.proofs.lemmas.List.{length-append, length-map, drop-drop}
use Rattle.std.proofs.lemmas.List.Elements.{All-from_recursion, recursion_from_All}
use Rattle.std.proofs.lemmas.List.Sums.{AllPass-from_list_all, list_all-from_AllPass}
use Rattle.std.proofs.lemmas.Bool.Decides.{nat_tests}
use Rattle.std.proofs.lemmas.Grind.{common_steps}
use Rattle.std.specs.List.{AllZip, AllByRecursion}
use Rattle.graphs.specs.Links.{sound, all_sound}
use Rattle.graphs.specs.declared.link.Link.{Link}
use Rattle.kinds.specs.Payloads.{Shape, valid, two_bytes}
use Rattle.refusals.specs.Rows.{first_refusal}
use Rattle.refusals.specs.Table.{numbered}
use Rattle.refusals.specs.declared.Refusal.{Refusal}
use Rattle.refusals.specs.declared.Refusal.TheVariants.{BytesTooShort}
use Rattle.files.specs.declared.counts.Counts.{Counts}
use Rattle.files.specs.Books.{room_of, Decided, writable, write_rows, Put, SameFile, SameBook}
use Rattle.files.specs.Encoding.{head_kind, framed, entry_bytes, links_bytes, raw_book, encode, most_entries, most_links, counts_of, Fits}
use Rattle.files.specs.Walking.{Surveyed}
use Rattle.files.proofs.Filling.{links_length}
use Rattle.files.proofs.Walk.{one_refusal, no_refusal, one_book}

-- what the check of a file comes to
pub decided : (sh : Shape) (room : Counts) (bytes : List ℕ) (r : Result Counts Refusal) → Surveyed sh room bytes r → Decided sh room bytes r
decided sh room bytes (Ok n) s =
    record {
      accepted = λ b fits is. ap Ok (s.3 ∙ ap counts_of (one_book sh room s.0 b bytes s.2 fits s.1 is));
      refused = λ x r. absurd (no_refusal sh room x s.0 bytes r s.2 s.1);
    }
decided sh room bytes (Err y) s =
    record {
      accepted = λ b fits is. absurd (no_refusal sh room y b bytes s fits is);
      refused = λ x r. ap Err (one_refusal sh room y x bytes s r);
    }

-- a book that may be written, by its parts
known_writable : (n : ℕ) (ls : List Link) → writable n ls ≡ true → (n ≤ 128) × (length ls ≤ 1024) × (all_sound n ls ≡ true)
known_writable n ls e = (grind (arith, nat_tests), grind (arith, nat_tests), grind (arith, nat_tests))

writable_from : (n : ℕ) (ls : List Link) → n ≤ 128 → length ls ≤ 1024 → all_sound n ls ≡ true → writable n ls ≡ true
writable_from n ls few some fine = grind (arith, nat_tests)

abbrev most : Counts
most = record { entries = most_entries; links = most_links }

module _ {V : Type 0} (sh : Shape) (encoded : V → List ℕ) where
  pub encode_length : (es : List V) (ls : List Link) → length (encode sh encoded es ls) ≡ 6 + length (entry_bytes encoded es) + 7 * length ls
  encode_length es ls = omega (arith, length-append (entry_bytes encoded es) (links_bytes ls), links_length ls)

  pub write_short : (es : List V) (ls : List Link) (room : ℕ) → true ≡ writable (length es) ls → room < length (encode sh encoded es ls) → first_refusal (write_rows sh encoded es ls room) ≡ Some (numbered BytesTooShort)
  write_short es ls room fine h = grind (arith, nat_tests)

  write_none : (es : List V) (ls : List Link) (room : ℕ) → writable (length es) ls ≡ true → length (encode sh encoded es ls) ≤ room → first_refusal (write_rows sh encoded es ls room) ≡ None
  write_none es ls room fine h = grind (arith, nat_tests)

  module _ (es : List V) (ls : List Link) (fine : true ≡ writable (length es) ls) where
    pub put_fits : AllByRecursion (λ p. valid sh p ≡ true) (map encoded es) → Fits sh most (raw_book encoded es ls)
    put_fits values =
        let n : length (map encoded es) ≡ length es = length-map es encoded in
        let p = known_writable (length es) ls (sym fine) in
        record { entries = rw n p.0; links = p.1; values = values; all_sound = rw n (recursion_from_All (λ l. sound (length es) l ≡ true) ls (AllPass-from_list_all (sound (length es)) ls p.2)) }

    pub put_book : (out h e l rest : List ℕ) (size : ℕ) → h ≡ framed head_kind (two_bytes sh.number) → e ≡ entry_bytes encoded es → l ≡ links_bytes ls → size ≡ length (entry_bytes encoded es) → rest ≡ drop (7 * length ls) (drop size (drop 6 out)) → 6 + size + 7 * length ls ≤ length out → Put sh encoded es ls out (h ++ (e ++ (l ++ rest))) (6 + size + 7 * length ls)
    put_book out h e l rest size eh ee el es-size er room =
        let whole : h ++ (e ++ l) ≡ encode sh encoded es ls = rw (eh, ee, el) in
        let long : length (encode sh encoded es ls) ≡ 6 + size + 7 * length ls = encode_length es ls ∙ omega arith in
        let tail : drop (6 + size + 7 * length ls) (h ++ (e ++ (l ++ rest))) ≡ rest = grind (arith, common_steps) in
        record {
          none = write_none es ls (length out) (sym fine) (omega arith);
          size = sym long;
          front = grind (arith, common_steps);
          behind = tail ∙ er ∙ simp drop-drop;
        }

  -- values with the same payloads agree
  each_known : (agree : V → V → Type 0) → ((x y : V) → encoded x ≡ encoded y → agree x y) → (xs ys : List V) → map encoded xs ≡ map encoded ys → AllZip agree xs ys
  each_known agree known [] [] e = tt
  each_known agree known [] (y ∷ ys) e = absurd (cc)
  each_known agree known (x ∷ xs) [] e = absurd (cc)
  each_known agree known (x ∷ xs) (y ∷ ys) e = (known x y (cc), each_known agree known xs ys (cc))

  -- the same book fits wherever there is room for it
  fits_room : (es : List V) (ls : List Link) (buffer : List V) (spare : List Link) → Fits sh most (raw_book encoded es ls) → length es ≤ length buffer → length ls ≤ length spare → Fits sh (room_of buffer spare) (raw_book encoded es ls)
  fits_room es ls buffer spare fits a b =
      let n : length (map encoded es) ≡ length es = length-map es encoded in
      record { entries = omega (arith, fits.entries); links = omega (arith, fits.links); values = fits.values; all_sound = fits.all_sound }

  pub same_book : (decoded : List ℕ → V) (agree : V → V → Type 0) → ((x y : V) → encoded x ≡ encoded y → agree x y) → (bytes : List ℕ) (es : List V) (ls : List Link) → Fits sh most (raw_book encoded es ls) → bytes ≡ encode sh encoded es ls → SameBook sh encoded decoded agree bytes es ls
  same_book decoded agree known bytes es ls fits is buffer buffer' spare spare' (Ok n) a b held =
      let there = fits_room es ls buffer spare fits a b in
      let one = one_book sh (room_of buffer spare) (raw_book encoded es ls) (raw_book encoded (take n.entries buffer') (take n.links spare')) bytes there held.fits is held.file in
      let counts : n ≡ counts_of (raw_book encoded es ls) = held.counts ∙ ap counts_of (sym one) in
      let entries : n.entries ≡ length es = ap (λ c. c.entries) counts ∙ length-map es encoded in
      let links : n.links ≡ length ls = ap (λ c. c.links) counts in
      let values : map encoded es ≡ map encoded (take n.entries buffer') = ap (λ c. c.payloads) one in
      let same : ls ≡ take n.links spare' = ap (λ c. c.links) one in
      (ap Ok counts, each_known agree known es (take (length es) buffer') (values ∙ ap (λ k. map encoded (take k buffer')) entries), ap (λ k. take k spare') (sym links) ∙ sym same)
  same_book decoded agree known bytes es ls fits is buffer buffer' spare spare' (Err x) a b held =
      absurd (no_refusal sh (room_of buffer spare) x (raw_book encoded es ls) bytes held.0 (fits_room es ls buffer spare fits a b) is)

  pub same_file : (room : Counts) (bytes : List ℕ) (es : List V) (ls : List Link) → room.entries ≤ 128 → room.links ≤ 1024 → Fits sh room (raw_book encoded es ls) → bytes ≡ encode sh encoded es ls → SameFile sh encoded bytes es ls
  same_file room bytes es ls a b fits is out out' (Ok n) h put =
      let size : n ≡ length bytes = put.size ∙ ap length (sym is) in
      (ap Ok size, ap (λ k. take k out') (sym size) ∙ put.front ∙ sym is)
  same_file room bytes es ls a b fits is out out' (Err x) h put =
      let n : length (map encoded es) ≡ length es = length-map es encoded in
      let fine : writable (length es) ls ≡ true = writable_from (length es) ls (omega (arith, fits.entries)) (omega (arith, fits.links)) (list_all-from_AllPass (sound (length es)) ls (All-from_recursion (λ l. sound (length es) l ≡ true) ls (rw n at fits.all_sound))) in
      let none = write_none es ls (length out) fine (omega (arith, ap length is)) in
      let both : None ≡ Some (numbered x) = sym none ∙ put.0 in
      absurd (cc)
