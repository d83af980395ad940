-- A file means one book, or one refusal: a walk over its records, one step after the other, comes to just one end. Assumes nothing.
use Rattle.std.proofs.Common.{◌≡◌, ℕ, zero, suc, ◌+◌, ◌<◌, ◌≤◌, true, cond, List, [], ◌∷◌, ◌++◌, length, drop, IfSome, Some, None, Option, sym, refl, ap, ◌∙◌, arith}
use Rattle.std.proofs.lemmas.List.{append_assoc, append-nil, length-append, length_push}
use Rattle.std.proofs.lemmas.Bool.{cond-true}
use Rattle.std.proofs.lemmas.Bool.Decides.{nat_tests}
use Rattle.std.specs.Option.{option_map}
use Rattle.std.specs.List.{flat_map, AllByRecursion}
use Rattle.graphs.specs.Links.{sound}
use Rattle.graphs.specs.declared.link.Link.{Link}
use Rattle.kinds.specs.Payloads.{Shape, valid, two_bytes}
use Rattle.refusals.specs.Rows.{first_refusal}
use Rattle.refusals.specs.Table.{numbered}
use Rattle.refusals.specs.declared.Refusal.{Refusal}
use Rattle.files.specs.declared.counts.Counts.{Counts}
use Rattle.files.specs.Encoding.{head_kind, entry_kind, link_kind, framed, link_bytes, Raw, written, counts_of, Fits}
use Rattle.files.specs.Reading.{size_of, kind_of, payload_of, rows, bytes_so_far, due, Refused}
use Rattle.files.proofs.Growing.{grown}
use Rattle.files.proofs.Records.{word_of, frame_size, frame_payload, frame_rest}

module _ (sh : Shape) (room : Counts) where
  -- a record of a book that fits breaks no row
  head_passes : (t : List ℕ) → first_refusal (rows sh room None 0 (framed head_kind (two_bytes sh.number) ++ t)) ≡ None
  head_passes t = let number = word_of sh.number in grind (arith, nat_tests)

  entry_passes : (n at : ℕ) (p t : List ℕ) → n < room.entries → valid sh p ≡ true → first_refusal (rows sh room (Some (record { entries = n; links = 0 })) at (framed entry_kind p ++ t)) ≡ None
  entry_passes n at p t space fine = let size = frame_size entry_kind p t in let is = frame_payload entry_kind p t in grind (arith, nat_tests, length-append p t)

  link_passes : (read : Counts) (at : ℕ) (l : Link) (t : List ℕ) → read.links < room.links → sound read.entries l ≡ true → first_refusal (rows sh room (Some read) at (framed link_kind (link_bytes l) ++ t)) ≡ None
  link_passes read at l t space fine = grind (arith, nat_tests)

  data End : Type 0 where
    book : Raw → End
    refused : Refusal → End
    lost : End

  abbrev over : Option Raw → End
  over None = lost
  over (Some b) = book b

  abbrev turn : Option (ℕ × ℕ × Refusal) → End → End
  turn None e = e
  turn (Some x) e = refused x.2

  -- the rows for the record at the front of what is left
  abbrev row : Option Raw → List ℕ → Option (ℕ × ℕ × Refusal)
  row s left = first_refusal (rows sh room (option_map counts_of s) (length (bytes_so_far sh s)) left)

  -- at most so many steps of the walk, from what was read so far
  unfoldable walk : ℕ → Option Raw → List ℕ → End
  walk zero s left = lost
  walk (suc f) s left = cond (due s left) (turn (row s left) (walk f (Some (grown s (kind_of left) (payload_of left))) (drop (4 + size_of left) left))) (over s)

  walk_on : (f : ℕ) (s : Option Raw) (k : ℕ) (p t : List ℕ) → due s (framed k p ++ t) ≡ true → row s (framed k p ++ t) ≡ None → walk (suc f) s (framed k p ++ t) ≡ walk f (Some (grown s k p)) t
  unfolding walk
  walk_on f s k p t live none =
      let bs = framed k p ++ t in
      let kind : kind_of bs ≡ k = word_of k in
      let payload = frame_payload k p t in
      let rest = frame_rest k p t in
      cond-true (due s bs) _ _ live ∙ ap (λ o. turn o (walk f (Some (grown s (kind_of bs) (payload_of bs))) (drop (4 + size_of bs) bs))) none ∙ (cc)

  walk_refused : (f : ℕ) (s : Option Raw) (left : List ℕ) (x : Refusal) → due s left ≡ true → row s left ≡ Some (numbered x) → walk (suc f) s left ≡ refused x
  unfolding walk
  walk_refused f s left x live first =
      cond-true (due s left) _ _ live ∙ ap (λ o. turn o (walk f (Some (grown s (kind_of left) (payload_of left))) (drop (4 + size_of left) left))) first

  walk_over : (f : ℕ) (b : Raw) → walk (suc f) (Some b) [] ≡ book b
  unfolding walk
  walk_over f b = refl

  -- the records of a list, of which each is one step
  walk_list : {X : Type 0} (frame : X → List ℕ) (so_far : List X → Raw) (most : ℕ) (Fine : X → Type 0)
      → ((xs : List X) (x : X) (f : ℕ) (t : List ℕ) → length xs < most → Fine x → walk (suc f) (Some (so_far xs)) (frame x ++ t) ≡ walk f (Some (so_far (xs ++ x ∷ []))) t)
      → (qs xs : List X) (f : ℕ) (t : List ℕ) → length xs + length qs ≤ most → AllByRecursion Fine qs → walk (length qs + f) (Some (so_far xs)) (flat_map frame qs ++ t) ≡ walk f (Some (so_far (xs ++ qs))) t
  walk_list frame so_far most Fine step [] xs f t space fine =
      ap (λ n. walk n (Some (so_far xs)) t) (omega arith) ∙ ap (λ ys. walk f (Some (so_far ys)) t) (sym (append-nil xs))
  walk_list frame so_far most Fine step (q ∷ qs) xs f t space fine =
      ap (λ n. walk n (Some (so_far xs)) (flat_map frame (q ∷ qs) ++ t)) (omega arith)
      ∙ ap (walk (suc (length qs + f)) (Some (so_far xs))) (append_assoc (frame q) (flat_map frame qs) t)
      ∙ step xs q (length qs + f) (flat_map frame qs ++ t) (omega arith) fine.0
      ∙ walk_list frame so_far most Fine step qs (xs ++ q ∷ []) f t (omega (arith, length_push xs q)) fine.1
      ∙ ap (λ ys. walk f (Some (so_far ys)) t) (append_assoc xs (q ∷ []) qs)

  -- the walk over a book that fits comes to what lies behind it
  walk_book : (b : Raw) (f : ℕ) (t : List ℕ) → Fits sh room b → walk (suc (length b.payloads + (length b.links + f))) None (written sh b ++ t) ≡ walk f (Some b) t
  walk_book b f t fits =
      let head = framed head_kind (two_bytes sh.number) in
      let link_frame : Link → List ℕ = λ l. framed link_kind (link_bytes l) in
      let entries = flat_map (framed entry_kind) b.payloads in
      let links = flat_map link_frame b.links in
      let f2 = length b.links + f in
      let f1 = length b.payloads + f2 in
      ap (walk (suc f1) None) (append_assoc head (entries ++ links) t ∙ ap (λ u. head ++ u) (append_assoc entries links t))
      ∙ walk_on f1 None head_kind (two_bytes sh.number) (entries ++ (links ++ t)) refl (head_passes (entries ++ (links ++ t)))
      ∙ walk_list (framed entry_kind) (λ ps. record { payloads = ps; links = [] }) room.entries (λ p. valid sh p ≡ true)
      (λ ps p g u space fine. walk_on g (Some (record { payloads = ps; links = [] })) entry_kind p u refl (entry_passes (length ps) _ p u space fine))
      b.payloads [] f2 (links ++ t) (omega (arith, fits.entries)) fits.values
      ∙ walk_list link_frame (λ ls. record { payloads = b.payloads; links = ls }) room.links (λ l. sound (length b.payloads) l ≡ true)
      (λ ls l g u space fine. walk_on g (Some (record { payloads = b.payloads; links = ls })) link_kind (link_bytes l) u refl (link_passes (record { entries = length b.payloads; links = length ls }) _ l u space fine))
      b.links [] f t (omega (arith, fits.links)) fits.all_sound

  -- from some number of steps on, the walk has come to its end
  abbrev Ends : List ℕ → End → Type 0
  Ends bytes e = (n : ℕ) × ((m : ℕ) → walk (n + suc m) None bytes ≡ e)

  one_end : (bytes : List ℕ) (d e : End) → Ends bytes d → Ends bytes e → d ≡ e
  one_end bytes d e x y = sym (x.1 y.0) ∙ ap (λ n. walk n None bytes) (omega arith) ∙ y.1 x.0

  ends_behind : (b : Raw) (bytes left : List ℕ) (e : End) → Fits sh room b → bytes ≡ written sh b ++ left → ((m : ℕ) → walk (suc m) (Some b) left ≡ e) → Ends bytes e
  ends_behind b bytes left e fits is last =
      (suc (length b.payloads + length b.links), λ m. ap (λ n. walk n None bytes) (omega arith) ∙ ap (walk (suc (length b.payloads + (length b.links + suc m))) None) is ∙ walk_book b (suc m) left fits ∙ last m)

  book_ends : (b : Raw) (bytes : List ℕ) → Fits sh room b → bytes ≡ written sh b → Ends bytes (book b)
  book_ends b bytes fits is = ends_behind b bytes [] (book b) fits (is ∙ sym (append-nil (written sh b))) (λ m. walk_over m b)

  refused_ends : (x : Refusal) (bytes : List ℕ) → Refused sh room bytes x → Ends bytes (refused x)
  refused_ends x bytes r = by r.before r.is r.fits r.more r.first
    where
      by : (s : Option Raw) → bytes ≡ bytes_so_far sh s ++ r.left → IfSome s (Fits sh room) → due s r.left ≡ true → row s r.left ≡ Some (numbered x) → Ends bytes (refused x)
      by None is fits more first = (0, λ m. ap (λ n. walk n None bytes) (omega arith) ∙ ap (walk (suc m) None) is ∙ walk_refused m None r.left x more first)
      by (Some b) is fits more first = ends_behind b bytes r.left (refused x) fits is (λ m. walk_refused m (Some b) r.left x more first)

  -- a file is not refused in two ways, nor refused and a book, nor two books
  pub one_refusal : (x y : Refusal) (bytes : List ℕ) → Refused sh room bytes x → Refused sh room bytes y → x ≡ y
  one_refusal x y bytes r s = let e = one_end bytes (refused x) (refused y) (refused_ends x bytes r) (refused_ends y bytes s) in cc

  pub no_refusal : (x : Refusal) (b : Raw) (bytes : List ℕ) → Refused sh room bytes x → Fits sh room b → bytes ≡ written sh b → ⊥
  no_refusal x b bytes r fits is = let e = one_end bytes (refused x) (book b) (refused_ends x bytes r) (book_ends b bytes fits is) in cc

  pub one_book : (b c : Raw) (bytes : List ℕ) → Fits sh room b → Fits sh room c → bytes ≡ written sh b → bytes ≡ written sh c → b ≡ c
  one_book b c bytes fb fc eb ec = let e = one_end bytes (book b) (book c) (book_ends b bytes fb eb) (book_ends c bytes fc ec) in cc
