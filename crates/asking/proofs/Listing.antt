-- Lines behind lines, and what they tell. Assumes nothing.
use Rattle.std.proofs.Common.{◌≡◌, ℕ, zero, suc, ◌+◌, ◌<◌, Bool, true, false, cond, leb, List, [], ◌∷◌, ◌++◌, length, flat_map, append-nil, refl, sym, ap, ap₂, ◌∙◌, arith}
use Rattle.std.proofs.lemmas.Bool.{leb-false}
use Rattle.std.proofs.lemmas.Bool.Decides.{nat_tests}
use Rattle.std.proofs.lemmas.List.Concat.{flat_map-append}
use Rattle.expressions.specs.Exprs.{Expr}
use Rattle.graphs.specs.Graphs.{Graph}
use Rattle.languages.specs.Cells.{long}
use Rattle.languages.specs.Languages.{Joined}
use Rattle.languages.specs.declared.step.Step.{Step}
use Rattle.listing.specs.Lines.{first_line}
use Rattle.languages.proofs.Walks.{joined_within}
use Rattle.queries.specs.Calls.{found_in}
use Rattle.queries.specs.Meanings.{IsJoined, JoinedPairs, Counted, Told}
use Rattle.queries.specs.Pairs.{reached_in_row, reached_pairs, tallied}
use Rattle.asking.proofs.OneListing.{one_pairs}
use Rattle.queries.specs.declared.found.Found.{Found}
use Rattle.queries.specs.declared.found.Found.TheVariants.{Steps, Long, Absent}
use Rattle.asking.specs.Listings.{LineBy, Lines}
use Rattle.asking.specs.Chosen.{pair_text}
use Rattle.asking.specs.Tells.{row_text, pairs_text, listing_text}

-- cells, and paths for the pairs that they tell of
module _ (d : ℕ → ℕ → ℕ) (w : ℕ → ℕ → List Step) where
  -- one pair more, and one row
  pub row_more : (u v : ℕ) → row_text d w u v ++ pair_text u v (w u v) (found_in (d u v)) ≡ row_text d w u (v + 1)
  row_more u v = let e : suc v ≡ v + 1 = omega arith in ap (row_text d w u) e

  pub pairs_more : (n u : ℕ) → pairs_text d w n u ++ row_text d w u n ≡ pairs_text d w n (u + 1)
  pairs_more n u = let e : suc u ≡ u + 1 = omega arith in ap (pairs_text d w n) e

  abbrev line : ℕ → ℕ → List ℕ
  line u v = pair_text u v (w u v) (found_in (d u v))

  abbrev lines_of : List (ℕ × ℕ) → List ℕ
  lines_of pairs = flat_map (λ (pair : ℕ × ℕ). line pair.0 pair.1) pairs

  -- the lines are those of the pairs that are reached
  one_text : (x y : ℕ) (b : Bool) → leb (d x y) long ≡ b → line x y ≡ lines_of (cond b ((x, y) ∷ []) [])
  one_text x y true e = sym (append-nil (line x y))
  one_text x y false e = let h = leb-false (d x y) long e in grind (arith, nat_tests)

  row_is : (x y : ℕ) → row_text d w x y ≡ lines_of (reached_in_row d x y)
  row_is x zero = refl
  row_is x (suc y) = ap₂ (λ (a b : List ℕ). a ++ b) (row_is x y) (one_text x y (leb (d x y) long) refl) ∙ sym (flat_map-append (λ (pair : ℕ × ℕ). line pair.0 pair.1) (reached_in_row d x y) _)

  rows_are : (n x : ℕ) → pairs_text d w n x ≡ lines_of (reached_pairs d n x)
  rows_are n zero = refl
  rows_are n (suc x) = ap₂ (λ (a b : List ℕ). a ++ b) (rows_are n x) (row_is x n) ∙ sym (flat_map-append (λ (pair : ℕ × ℕ). line pair.0 pair.1) (reached_pairs d n x) (reached_in_row d x n))

  -- where what is found of each pair is so, the pairs that are found are the joined ones, and the paths are in the language
  module _ (g : Graph) (e : Expr) (told : (u v : ℕ) → u < g.entries → v < g.entries → Told g e u v (found_in (d u v)))
      (counted : Counted g e (tallied d g.entries g.entries)) (listed : JoinedPairs g e (reached_pairs d g.entries g.entries))
      (leads : (u v : ℕ) → u < g.entries → v < g.entries → d u v < long → Joined g e u v (w u v) × (length (w u v) ≡ d u v)) where
    line_by : (u v : ℕ) → IsJoined g e u v → (f : Found) → f ≡ found_in (d u v) → Told g e u v f → (d u v < long → Joined g e u v (w u v) × (length (w u v) ≡ d u v)) → LineBy g e u v (w u v) (pair_text u v (w u v) f) f
    line_by u v j (Steps k) is t by = let c : (d u v < long) × (k ≡ d u v) = grind (arith, nat_tests) in let l = by c.0 in (l.0, l.1 ∙ sym c.1, refl)
    line_by u v j Long is t by = refl
    line_by u v j Absent is t by = t j.0 j.1

    -- as many are found as the tally counts
    as_tallied : tallied d g.entries g.entries ≡ length (reached_pairs d g.entries g.entries)
    as_tallied = sym counted.2 ∙ ap length (one_pairs g e counted.0 (reached_pairs d g.entries g.entries) counted.1 listed)

    pub lines_told : (lines : List ℕ) → lines ≡ listing_text d w g.entries → Lines g e w lines
    lines_told lines is = record {
      pairs = reached_pairs d g.entries g.entries;
      joined = listed;
      line = line;
      tells = λ u v j.
          let i = joined_within g e u v j in
          let t = told u v i.0 i.1 in
          (found_in (d u v), t, line_by u v j (found_in (d u v)) refl t (leads u v i.0 i.1));
      text = is ∙ ap₂ (λ (k : ℕ) (t : List ℕ). first_line g.entries k ++ t) as_tallied (rows_are g.entries g.entries);
    }
