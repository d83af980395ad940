-- When a list of pairs and counts has just the pairs that an expression joins: a test of computed cells. Assumes nothing.
use Rattle.std.proofs.Common.{◌≡◌, ℕ, ◌<◌, Bool, true, ◌&&◌, ◌||◌, cond, eqb, leb, ltb, List, [], ◌∷◌, length, map, All, sym, ap₂, ◌∙◌, subst, inl, inr, arith}
use Rattle.std.proofs.lemmas.Bool.{and_parts, or_cases, le-leb, ltb-true, eqb-true, cond-true, agree_below, agree_below_at}
use Rattle.std.proofs.lemmas.Bool.Decides.{nat_tests}
use Rattle.std.proofs.lemmas.List.Elements.{All-map, All-weaker}
use Rattle.std.proofs.lemmas.List.Folds.{Any-from_list_any}
use Rattle.std.proofs.lemmas.List.Kept.{AllPairs-cons}
use Rattle.std.proofs.lemmas.List.Sums.{AllPass-from_list_all}
use Rattle.std.specs.List.{AllPairs, Contains, list_all, list_any}
use Rattle.expressions.specs.Exprs.{Expr}
use Rattle.graphs.specs.Graphs.{Graph}
use Rattle.languages.proofs.Evaluation.{cells_of, cells_are}
use Rattle.languages.specs.Cells.{long}
use Rattle.languages.proofs.Walks.{joined_within}
use Rattle.queries.proofs.Listing.{joined_reached}
use Rattle.queries.proofs.Meaning.{cell_told}
use Rattle.queries.specs.Calls.{found_in}
use Rattle.queries.specs.Meanings.{Told, IsJoined}
use Rattle.queries.specs.Pairs.{Before}
use Rattle.queries.specs.declared.found.Found.TheVariants.{Steps}
use Rattle.settled.specs.Settled.{JoinsJust}

-- what every element passes holds of every element
pub all_hold : {X : Type 0} (P : X → Type 0) (passes : X → Bool) → ((x : X) → passes x ≡ true → P x)
    → (xs : List X) → list_all passes xs ≡ true → All P xs
all_hold P passes holds xs h = All-weaker (λ x. passes x ≡ true) P holds xs (AllPass-from_list_all passes xs h)

-- a pair of a list
abbrev is_pair : ℕ → ℕ → ℕ × ℕ → Bool
is_pair u v pair = eqb pair.0 u && eqb pair.1 v

listed : (u v : ℕ) (pairs : List (ℕ × ℕ)) → list_any (is_pair u v) pairs ≡ true → Contains pairs (u, v)
listed u v pairs h =
    let k = Any-from_list_any (is_pair u v) pairs h in
    let is = and_parts (eqb k.1.0 u) (eqb k.1.1 v) k.4 in
    subst (Contains pairs) (ap₂ (λ (x y : ℕ). (x, y)) (eqb-true _ u is.0) (eqb-true _ v is.1)) (k.0, k.2, k.3)

-- a pair that comes before another
abbrev Earlier : ℕ × ℕ → ℕ × ℕ → Type 0
Earlier p q = Before p.0 p.1 q.0 q.1

abbrev is_earlier : ℕ × ℕ → ℕ × ℕ → Bool
is_earlier p q = ltb p.0 q.0 || (eqb p.0 q.0 && ltb p.1 q.1)

earlier : (p q : ℕ × ℕ) → is_earlier p q ≡ true → Earlier p q
earlier p q h = elim (or_cases (ltb p.0 q.0) (eqb p.0 q.0 && ltb p.1 q.1) h) [
  | inl row ↦ inl (ltb-true _ _ row)
  | inr same ↦ let parts = and_parts (eqb p.0 q.0) _ same in inr (eqb-true _ _ parts.0, ltb-true _ _ parts.1)
]

-- every pair comes before all that stand behind it
abbrev in_order : List (ℕ × ℕ) → Bool
in_order [] = true
in_order (p ∷ pairs) = list_all (is_earlier p) pairs && in_order pairs

ordered : (pairs : List (ℕ × ℕ)) → in_order pairs ≡ true → AllPairs Earlier pairs
ordered [] h = λ i j d lt within. absurd (omega arith)
ordered (p ∷ pairs) h =
    let parts = and_parts (list_all (is_earlier p) pairs) (in_order pairs) h in
    let first = all_hold (Earlier p) (is_earlier p) (earlier p) pairs parts.0 in
    AllPairs-cons Earlier p pairs first (ordered pairs parts.1)

module _ (g : Graph) (e : Expr) where
  -- a pair is joined by its count of steps and never by fewer; and this is so where its cell is that count
  abbrev IsCount : ℕ × ℕ × ℕ → Type 0
  IsCount pair = Told g e pair.0 pair.1 (Steps pair.2)

  abbrev has_count : ℕ × ℕ × ℕ → Bool
  has_count pair =
      ltb pair.0 g.entries && (ltb pair.1 g.entries && (ltb pair.2 long && eqb (cells_of g e pair.0 pair.1) pair.2))

  counted : (u v k : ℕ) → has_count (u, v, k) ≡ true → Told g e u v (Steps k)
  counted u v k h =
      let first : u < g.entries = grind (arith, nat_tests) in
      let second : v < g.entries = grind (arith, nat_tests) in
      let is : found_in (cells_of g e u v) ≡ Steps k = grind (arith, nat_tests) in
      subst (Told g e u v) is (cell_told g e u v _ (cells_are g e u v first second))

  module _ (pairs : List (ℕ × ℕ)) where
    -- a cell that tells of a path is that of a pair of the list
    abbrev cell_listed : ℕ → ℕ → Bool
    cell_listed u v = cond (leb (cells_of g e u v) long) (list_any (is_pair u v) pairs) true

    abbrev row_listed : ℕ → Bool
    row_listed u = agree_below (cell_listed u) (λ v. true) g.entries

    abbrev rows_listed : Bool
    rows_listed = agree_below row_listed (λ u. true) g.entries

    joined_listed : rows_listed ≡ true → (u v : ℕ) → IsJoined g e u v → list_any (is_pair u v) pairs ≡ true
    joined_listed h u v j =
        let i = joined_within g e u v j in
        let reaches = joined_reached g e (cells_of g e) (cells_are g e) u v j in
        let row = agree_below_at row_listed (λ u. true) g.entries u h i.0 in
        let cell = agree_below_at (cell_listed u) (λ v. true) g.entries v row i.1 in
        sym (cond-true (leb (cells_of g e u v) long) _ _ (le-leb _ _ reaches)) ∙ cell

  -- a pair without its count
  abbrev ends : ℕ × ℕ × ℕ → ℕ × ℕ
  ends pair = (pair.0, pair.1)

  ends_joined : (pairs : List (ℕ × ℕ × ℕ)) → All IsCount pairs → All (λ pair. IsJoined g e pair.0 pair.1) (map ends pairs)
  ends_joined pairs told =
      All-map (λ pair. IsJoined g e pair.0 pair.1) ends pairs
      (All-weaker IsCount (λ pair. IsJoined g e pair.0 pair.1) (λ pair t. (t.1.0, t.1.1)) pairs told)

  abbrev pub joins_these : List (ℕ × ℕ × ℕ) → ℕ → Bool
  joins_these pairs tally =
      list_all has_count pairs
      && (rows_listed (map ends pairs) && (in_order (map ends pairs) && eqb (length pairs) tally))

  pub these_joined : (pairs : List (ℕ × ℕ × ℕ)) (tally : ℕ) → joins_these pairs tally ≡ true → JoinsJust g e pairs tally
  these_joined pairs tally h =
      let counts = and_parts (list_all has_count pairs) _ h in
      let others = and_parts (rows_listed (map ends pairs)) _ counts.1 in
      let order = and_parts (in_order (map ends pairs)) _ others.1 in
      let told = all_hold IsCount has_count (λ pair. counted pair.0 pair.1 pair.2) pairs counts.0 in
      record {
        joined = record {
          joined = ends_joined pairs told;
          all = λ u v j. listed u v (map ends pairs) (joined_listed (map ends pairs) others.0 u v j);
          ordered = ordered (map ends pairs) order.0;
        };
        told = told;
        tallied = eqb-true _ tally order.1;
      }
