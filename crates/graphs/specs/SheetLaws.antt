-- The graph of a sheet is lawful, and has three places to a day: lemmas that the code's ghost members cite, and that no reader has to believe. Assumes nothing.
use Rattle.std.specs.Prelude.{◌≡◌, ℕ, zero, suc, ◌*◌, ◌+◌, ◌/◌, ◌%◌, ◌<◌, true, List, [], ◌∷◌, map, length, take, Some, None, Option, ◌==◌, nat_eq, slice_index_or, refl}
use Rattle.std.proofs.Common.{sym, ap, subst, ◌∙◌, arith}
use Rattle.std.proofs.lemmas.Bool.{eqb-true, eq-eqb}
use Rattle.std.proofs.lemmas.Bool.Decides.{nat_tests}
use Rattle.std.proofs.lemmas.List.{get_or_past, length-append, length-map, length-take-le}
use Rattle.std.proofs.lemmas.List.Concat.{get_or-flat_map}
use Rattle.std.proofs.lemmas.List.FromFn.{length-range_with_len, get_or-range_with_len}
use Rattle.std.proofs.lemmas.Option.{slice_get_cases, slice_get_within}
use Rattle.std.specs.List.{range_with_len, flat_map}
use Rattle.std.specs.Option.{option_map}
use Rattle.graphs.specs.declared.link.Link.{Link}
use Rattle.graphs.specs.GraphLaws.{valued_lawful}
use Rattle.graphs.specs.Graphs.{Lawful, link_at, value_at}
use Rattle.graphs.specs.Links.{sound}
use Rattle.graphs.specs.Sheets.{SheetDay, entry_of, link_to, places_of, sheet_graph}

-- lists of three each, in a row
threes_length : {X : Type 0} (f : ℕ → List X) → ((i : ℕ) → length (f i) ≡ 3) → (xs : List ℕ) → length (flat_map f xs) ≡ 3 * length xs
threes_length f three [] = refl
threes_length f three (x ∷ xs) = omega (arith, length-append (f x) (flat_map f xs), three x, threes_length f three xs)

month_sound : (n i : ℕ) → i < n → (o : Option ℕ) → ((j : ℕ) → o ≡ Some j → j < n) → (l : Link) → option_map (link_to i 109) o ≡ Some l → sound n l ≡ true
month_sound n i h None within l e = cc
month_sound n i h (Some j) within l e = let below : j < n = within j refl in grind (arith, nat_tests)

module _ (days : List SheetDay) where
  pub entry_within : (day : SheetDay) (j : ℕ) → entry_of days day ≡ Some j → j < length days
  entry_within day j e = grind (arith, nat_tests)

  pub places_length : length (flat_map (places_of days) (range_with_len 0 (length days))) ≡ 3 * length days
  places_length = omega (arith, threes_length (places_of days) (λ i. refl) (range_with_len 0 (length days)), length-range_with_len 0 (length days))

  module _ (place : ℕ) where
    pub place_past : value_at days (place / 3) ≡ None → link_at (sheet_graph days) place ≡ None
    place_past e = get_or_past (flat_map (places_of days) (range_with_len 0 (length days))) place None (grind (arith, places_length, slice_get_cases days (place / 3)))

    pub place_within : (day : SheetDay) → value_at days (place / 3) ≡ Some day → link_at (sheet_graph days) place ≡ slice_index_or (places_of days (place / 3)) (place % 3) None
    place_within day e =
        let f : ℕ → List (Option Link) = places_of days in
        let xs : List ℕ = range_with_len 0 (length days) in
        let i : ℕ = place / 3 in
        let within : i < length days = slice_get_within days i day e in
        let inside : i < length xs = omega (arith, length-range_with_len 0 (length days)) in
        let at : place ≡ length (flat_map f (take i xs)) + place % 3 = omega (arith, threes_length f (λ k. refl) (take i xs), length-take-le i xs (omega arith)) in
        ap (λ k. slice_index_or (flat_map f xs) k None) at
        ∙ get_or-flat_map f xs i (place % 3) 0 None inside (omega arith)
        ∙ ap (λ k. slice_index_or (f k) (place % 3) None) (get_or-range_with_len 0 (length days) i 0 within ∙ omega arith)

  place_sound : (i : ℕ) → i < length days → (r : ℕ) (l : Link) → slice_index_or (places_of days i) r None ≡ Some l → sound (length days) l ≡ true
  place_sound i h zero l e = grind (arith, nat_tests)
  place_sound i h (suc zero) l e = grind (arith, nat_tests)
  place_sound i h (suc (suc zero)) l e = month_sound _ i h (entry_of days _) (entry_within _) l e
  place_sound i h (suc (suc (suc r))) l e = cc

  places_sound : (place : ℕ) (l : Link) → link_at (sheet_graph days) place ≡ Some l → sound (length days) l ≡ true
  places_sound place l e = by (value_at days (place / 3)) refl
    where
      by : (o : Option SheetDay) → value_at days (place / 3) ≡ o → sound (length days) l ≡ true
      by None none = let no : None ≡ Some l = sym (place_past place none) ∙ e in cc
      by (Some day) is = place_sound (place / 3) (slice_get_within days (place / 3) day is) (place % 3) l (sym (place_within place day is) ∙ e)

eqb_reflexive : (x : ℕ) → (x == x) ≡ true
eqb_reflexive x = eq-eqb x x refl

eqb_symmetric : (x y : ℕ) → (x == y) ≡ true → (y == x) ≡ true
eqb_symmetric x y e = eq-eqb y x (sym (eqb-true x y e))

eqb_transitive : (x y z : ℕ) → (x == y) ≡ true → (y == z) ≡ true → (x == z) ≡ true
eqb_transitive x y z e f = eq-eqb x z (eqb-true x y e ∙ eqb-true y z f)

pub sheet_lawful : (days : List SheetDay) → Lawful (sheet_graph days)
sheet_lawful days =
    let values = map (λ day. day.1) days in
    let places = flat_map (places_of days) (range_with_len 0 (length days)) in
    let n : length values ≡ length days = length-map days (λ day. day.1) in
    valued_lawful nat_eq eqb_reflexive eqb_symmetric eqb_transitive values places
    (λ k l e. subst (λ m. sound m l ≡ true) (sym n) (places_sound days k l e))
