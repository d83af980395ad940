-- A book that grows by one record after the other. Assumes nothing.
use Rattle.std.proofs.Common.{◌≡◌, ℕ, ◌+◌, ◌-◌, ◌<◌, ◌≤◌, true, cond, ◌⊎◌, eqb, List, [], ◌∷◌, ◌++◌, length, get_or, drop, IfSome, Some, None, Option, Ok, sym, refl, ap, ◌∙◌, subst, ⊎_elim, arith}
use Rattle.std.proofs.lemmas.List.{append_assoc, append-nil, length-append, length_push, nil_from_length, get_or-append-add, get_or-take, get_or-drop}
use Rattle.std.proofs.lemmas.Bool.Decides.{nat_tests}
use Rattle.std.proofs.lemmas.List.Elements.{All-push, All-from_recursion, recursion_from_All}
use Rattle.std.proofs.lemmas.Grind.{common_steps}
use Rattle.std.specs.List.{AllByRecursion}
use Rattle.std.specs.Option.{option_map}
use Rattle.graphs.specs.Links.{sound}
use Rattle.kinds.specs.Payloads.{Shape, valid, word, two_bytes}
use Rattle.refusals.specs.Rows.{first_refusal}
use Rattle.refusals.specs.Table.{numbered}
use Rattle.refusals.specs.declared.Refusal.{Refusal}
use Rattle.files.specs.declared.counts.Counts.{Counts}
use Rattle.files.specs.Encoding.{head_kind, entry_kind, link_kind, framed, Raw, written, counts_of, Fits}
use Rattle.files.specs.Reading.{size_of, kind_of, payload_of, link_of, rows, bytes_so_far, due, Refused}
use Rattle.files.specs.Walking.{counted, ReadOn, Surveyed}
use Rattle.files.proofs.Records.{Bytes, split, payload_length, three, two}

-- what holds of each element holds with one more
all_more : {X : Type 0} (P : X → Type 0) (xs : List X) (x : X) → AllByRecursion P xs → P x → AllByRecursion P (xs ++ x ∷ [])
all_more P xs x h p = recursion_from_All P (xs ++ x ∷ []) (All-push P xs x (All-from_recursion P xs h) p)

-- the book with one record more
abbrev pub grown : Option Raw → ℕ → List ℕ → Raw
grown None k p = record { payloads = []; links = [] }
grown (Some b) k p = cond (eqb k entry_kind) (record { payloads = b.payloads ++ p ∷ []; links = b.links }) (record { payloads = b.payloads; links = b.links ++ link_of p ∷ [] })

counts_grown : (s : Option Raw) (k : ℕ) (p : List ℕ) → counted (option_map counts_of s) k ≡ counts_of (grown s k p)
counts_grown None k p = refl
counts_grown (Some b) k p = grind (arith, nat_tests, length_push)

-- what is known of a record that breaks no row
module _ (sh : Shape) (room : Counts) (at : ℕ) (left : List ℕ) where
  known_whole : (read : Option Counts) → first_refusal (rows sh room read at left) ≡ None → 4 + size_of left ≤ length left
  known_whole read e = grind (arith, nat_tests)

  known_head : first_refusal (rows sh room None at left) ≡ None → (kind_of left ≡ head_kind) × (size_of left ≡ 2) × (word (get_or (payload_of left) 0 0) (get_or (payload_of left) 1 0) ≡ sh.number)
  known_head e = (grind (arith, nat_tests), grind (arith, nat_tests), grind (arith, nat_tests))

  known_kind : (read : Counts) → first_refusal (rows sh room (Some read) at left) ≡ None → (kind_of left ≡ entry_kind) ⊎ (kind_of left ≡ link_kind)
  known_kind read e = grind (arith, nat_tests)

  known_entry : (read : Counts) → first_refusal (rows sh room (Some read) at left) ≡ None → kind_of left ≡ entry_kind → (read.links ≡ 0) × (valid sh (payload_of left) ≡ true) × (read.entries < room.entries)
  known_entry read e kind = (grind (arith, nat_tests), grind (arith, nat_tests), grind (arith, nat_tests))

  known_link : (read : Counts) → first_refusal (rows sh room (Some read) at left) ≡ None → kind_of left ≡ link_kind → (size_of left ≡ 3) × (sound read.entries (link_of (payload_of left)) ≡ true) × (read.links < room.links)
  known_link read e kind = (grind (arith, nat_tests), grind (arith, nat_tests), grind (arith, nat_tests))

module _ (sh : Shape) (room : Counts) where
  -- one record more: the bytes, and what fits
  record Grown (s : Option Raw) (k : ℕ) (p : List ℕ) : Type 0 where
    bytes : bytes_so_far sh s ++ framed k p ≡ written sh (grown s k p)
    fits : Fits sh room (grown s k p)

  head_grown : (p : List ℕ) → two_bytes sh.number ≡ p → Grown None head_kind p
  head_grown p is = record { bytes = ap (framed head_kind) (sym is); fits = record { entries = omega arith; links = omega arith; values = tt; all_sound = tt } }

  entry_grown : (b : Raw) (p : List ℕ) → Fits sh room b → b.links ≡ [] → valid sh p ≡ true → length b.payloads < room.entries → Grown (Some b) entry_kind p
  entry_grown b p fits nil fine space = record {
    bytes = grind (arith, common_steps);
    fits = record { entries = omega (arith, length_push b.payloads p); links = fits.links; values = all_more _ b.payloads p fits.values fine; all_sound = rw nil tt };
  }

  link_grown : (b : Raw) (p : List ℕ) → Fits sh room b → length p ≡ 3 → sound (length b.payloads) (link_of p) ≡ true → length b.links < room.links → Grown (Some b) link_kind p
  link_grown b p fits long fine space = record {
    bytes = let same = three p long in grind (arith, common_steps);
    fits = record { entries = fits.entries; links = omega (arith, length_push b.links (link_of p)); values = fits.values; all_sound = all_more _ b.links (link_of p) fits.all_sound fine };
  }

  record_grown : (s : Option Raw) (at : ℕ) (left : List ℕ) → Bytes left → IfSome s (Fits sh room) → first_refusal (rows sh room (option_map counts_of s) at left) ≡ None → Grown s (kind_of left) (payload_of left)
  record_grown None at left small fits e =
      let p = payload_of left in
      let is = known_head sh room at left e in
      let long = payload_length left (known_whole sh room at left None e) ∙ is.1 in
      let low : get_or p 0 0 < 256 = rw (get_or-take (size_of left) (drop 4 left) 0 0 (omega arith), get_or-drop 4 left 0 0) (small 4) in
      subst (λ k. Grown None k p) (sym is.0) (head_grown p (two p sh.number long low is.2))
  record_grown (Some b) at left small fits e =
      let p = payload_of left in
      let read = counts_of b in
      ⊎_elim
      (λ (kind : kind_of left ≡ entry_kind).
      let is = known_entry sh room at left read e kind in
      subst (λ k. Grown (Some b) k p) (sym kind) (entry_grown b p fits (nil_from_length b.links is.0) is.1 is.2))
      (λ (kind : kind_of left ≡ link_kind).
      let is = known_link sh room at left read e kind in
      subst (λ k. Grown (Some b) k p) (sym kind) (link_grown b p fits (payload_length left (known_whole sh room at left (Some read) e) ∙ is.0) is.1 is.2))
      (known_kind sh room at left read e)

  -- a file that is read up to what is left of it
  pub record Going (bytes left : List ℕ) (read : Option Counts) : Type 0 where
    pub book : Option Raw
    pub is : bytes ≡ bytes_so_far sh book ++ left
    pub counts : read ≡ option_map counts_of book
    pub fits : IfSome book (Fits sh room)

  abbrev pub going_none : (bytes : List ℕ) → Going bytes bytes None
  going_none bytes = record { book = None; is = refl; counts = refl; fits = tt }

  pub going_more : (bytes left rest : List ℕ) (read : Option Counts) (at : ℕ) (more : Counts) → Bytes bytes → Going bytes left read → (first_refusal (rows sh room read at left) ≡ None) × ReadOn read left more rest → Going bytes rest (Some more)
  going_more bytes left rest read at more small g h =
      let front = bytes_so_far sh g.book in
      let bs : Bytes left = λ i. subst (λ n. n < 256) (ap (λ xs. get_or xs (length front + i) 0) g.is ∙ get_or-append-add front left i 0) (small (length front + i)) in
      let none = subst (λ r. first_refusal (rows sh room r at left) ≡ None) g.counts h.0 in
      let one = record_grown g.book at left bs g.fits none in
      record {
        book = Some (grown g.book (kind_of left) (payload_of left));
        is = let cut = split left bs (known_whole sh room at left read h.0) in grind (arith, append_assoc);
        counts = ap Some (h.1.0 ∙ ap (λ r. counted r (kind_of left)) g.counts ∙ counts_grown g.book (kind_of left) (payload_of left));
        fits = one.fits;
      }

  due_now : (s : Option Raw) (left : List ℕ) → 0 < length left → due s left ≡ true
  due_now None left h = refl
  due_now (Some b) [] h = absurd (omega arith)
  due_now (Some b) (x ∷ xs) h = refl

  reach : (bytes left : List ℕ) (read : Option Counts) (g : Going bytes left read) → length (bytes_so_far sh g.book) + length left ≡ length bytes
  reach bytes left read g = omega (arith, ap length g.is, length-append (bytes_so_far sh g.book) left)

  refused_at : (bytes left : List ℕ) (read : Option Counts) (at : ℕ) (x : Refusal) (g : Going bytes left read) → due g.book left ≡ true → at + length left ≡ length bytes → first_refusal (rows sh room read at left) ≡ Some (numbered x) → Refused sh room bytes x
  refused_at bytes left read at x g live here e =
      let offset : at ≡ length (bytes_so_far sh g.book) = omega (arith, reach bytes left read g) in
      record {
        before = g.book;
        left = left;
        is = g.is;
        fits = g.fits;
        more = live;
        first = subst (λ n. first_refusal (rows sh room (option_map counts_of g.book) n left) ≡ Some (numbered x)) offset (subst (λ r. first_refusal (rows sh room r at left) ≡ Some (numbered x)) g.counts e);
      }

  pub head_refused : (bytes : List ℕ) (x : Refusal) → first_refusal (rows sh room None 0 bytes) ≡ Some (numbered x) → Refused sh room bytes x
  head_refused bytes x e = refused_at bytes bytes None 0 x (going_none bytes) refl (omega arith) e

  pub going_refused : (bytes left : List ℕ) (read : Option Counts) (x : Refusal) → Going bytes left read → 0 < length left → first_refusal (rows sh room read (length bytes - length left) left) ≡ Some (numbered x) → Refused sh room bytes x
  going_refused bytes left read x g h e = refused_at bytes left read (length bytes - length left) x g (due_now g.book left h) (omega (arith, reach bytes left read g)) e

  pub going_within : (bytes left : List ℕ) (read : Option Counts) → Going bytes left read → length left ≤ length bytes
  going_within bytes left read g = omega (arith, reach bytes left read g)

  pub going_done : (bytes left : List ℕ) (read : Counts) → Going bytes left (Some read) → length left ≡ 0 → Surveyed sh room bytes (Ok read)
  going_done bytes left read g h = by g.book g.is g.counts g.fits
    where
      by : (s : Option Raw) → bytes ≡ bytes_so_far sh s ++ left → Some read ≡ option_map counts_of s → IfSome s (Fits sh room) → Surveyed sh room bytes (Ok read)
      by None is counts fits = absurd (cc)
      by (Some b) is counts fits = (b, is ∙ ap (λ t. written sh b ++ t) (nil_from_length left h) ∙ append-nil (written sh b), fits, cc)
