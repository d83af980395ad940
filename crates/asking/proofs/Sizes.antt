-- How many bytes lines have. Assumes nothing.
use Rattle.std.proofs.Common.{◌≡◌, ℕ, zero, suc, ◌+◌, ◌*◌, ◌<◌, ◌≤◌, ◌⊎◌, inl, inr, List, [], ◌∷◌, ◌++◌, length, flat_map, length-append, arith}
use Rattle.std.specs.Prelude.{decimal, codes}
use Rattle.std.proofs.Math.Nat.{mul-le-mul_right}
use Rattle.std.proofs.lemmas.Fmt.{length-decimal-le}
use Rattle.std.proofs.lemmas.Nat.{mul-le}
use Rattle.std.proofs.lemmas.Bool.Decides.{nat_tests}
use Rattle.graphs.specs.Graphs.{Graph}
use Rattle.languages.proofs.Walks.{path_start}
use Rattle.languages.specs.Cells.{long}
use Rattle.languages.specs.Paths.{Path}
use Rattle.languages.specs.declared.step.Step.{Step}
use Rattle.listing.specs.Lines.{first_line, step_text, newline, most_line, most_step}
use Rattle.queries.specs.Calls.{found_in}
use Rattle.queries.specs.Pairs.{reaches, sum_to, tallied}
use Rattle.queries.specs.declared.found.Found.{Found}
use Rattle.queries.specs.declared.found.Found.TheVariants.{Steps, Long, Absent}
use Rattle.asking.specs.Chosen.{pair_text}
use Rattle.asking.specs.Input.{most_text}
use Rattle.asking.specs.Tells.{told, led, row_text, pairs_text, listing_text, line_of, row_of, lines_of, lines_before}
use Rattle.asking.specs.declared.evaluated.Evaluated.{Evaluated}
use Rattle.asking.specs.declared.room.TheConstants.{LINE}

-- a number below 1,000 has at most 3 digits
few_digits : (n : ℕ) → n < 1000 → length (decimal n) ≤ 3
few_digits n h = length-decimal-le 3 n (omega arith) h (omega arith)

-- the steps of a path among few entries
pub path_within : (g : Graph) (u v : ℕ) (s : List Step) → g.entries ≤ 16 → Path g u s v
    → length (flat_map step_text s) ≤ most_step * length s
path_within g u v [] few p = omega arith
path_within g u v (x ∷ s) few p =
    let last = path_start g x.entry v s p.2 in
    let one = length-append (step_text x) (flat_map step_text s) in
    omega (arith, path_within g x.entry v s few p.2, few_digits x.entry (omega arith))

-- the line of a pair of few entries, by its cell
pub pair_within : (u v c : ℕ) (path : List Step) → u < 16 → v < 16
    → (c < long → (length path ≡ c) × (length (flat_map step_text path) ≤ most_step * length path))
    → (f : Found) → f ≡ found_in c → length (pair_text u v path f) ≤ most_line + most_step * 999
pair_within u v c path hu hv by (Steps k) is =
    let s : (c < long) × (k ≡ c) = grind (arith, nat_tests) in
    let p = by s.0 in
    let count = few_digits k (omega arith) in
    omega (arith, length-append {A = ℕ}, few_digits u (omega arith), few_digits v (omega arith))
pair_within u v c path hu hv by Long is =
    omega (arith, length-append {A = ℕ}, few_digits u (omega arith), few_digits v (omega arith))
pair_within u v c path hu hv by Absent is = omega arith

first_size : (ns ks : List ℕ)
    → length (codes "entries " ++ ns ++ codes " pairs " ++ ks ++ newline) ≡ 16 + length ns + length ks
first_size ns ks =
    let pairs = length-append ns (codes " pairs ") in
    let count = length-append (ns ++ codes " pairs ") ks in
    omega (arith, length-append (ns ++ codes " pairs " ++ ks) newline)

first_short : (n k : ℕ) → n < 1000 → k < 1000 → length (first_line n k) ≤ most_line
first_short n k h i = omega (arith, first_size (decimal n) (decimal k), few_digits n h, few_digits k i)

order : (v k : ℕ) → v ≤ k → (v < k) ⊎ (v ≡ k)
order v k h = grind arith

-- a sum of numbers that are at most one each
sum_within : (f : ℕ → ℕ) (c : ℕ) → ((k : ℕ) → f k ≤ c) → (n : ℕ) → sum_to f n ≤ n * c
sum_within f c h zero = omega arith
sum_within f c h (suc n) = let s = sum_within f c h n in omega (arith, h n)

one_at_most : (c : ℕ) → reaches c ≤ 1
one_at_most c = grind (arith, nat_tests)

row_tallied : (d : ℕ → ℕ → ℕ) (n u : ℕ) → sum_to (λ v. reaches (d u v)) n ≤ n
row_tallied d n u = let s = sum_within (λ v. reaches (d u v)) 1 (λ v. one_at_most (d u v)) n in omega arith

tallied_within : (d : ℕ → ℕ → ℕ) (n : ℕ) → tallied d n n ≤ n * n
tallied_within d n = sum_within (λ u. sum_to (λ v. reaches (d u v)) n) n (row_tallied d n) n

module _ (d : ℕ → ℕ → ℕ) (w : ℕ → ℕ → List Step) where
  -- the line of a pair behind those before it, and the lines of a row behind those of the rows before
  pub row_upto : (u v k : ℕ) → v < k
      → length (row_text d w u v) + length (pair_text u v (w u v) (found_in (d u v))) ≤ length (row_text d w u k)
  row_upto u v zero h = absurd (omega arith)
  row_upto u v (suc k) h =
      let more = length-append (row_text d w u k) (pair_text u k (w u k) (found_in (d u k))) in
      elim (order v k (omega arith)) [
        | inl less ↦ omega (arith, row_upto u v k less)
        | inr same ↦ rw same (omega arith)
      ]

  pairs_upto : (n u k : ℕ) → u < k
      → length (pairs_text d w n u) + length (row_text d w u n) ≤ length (pairs_text d w n k)
  pairs_upto n u zero h = absurd (omega arith)
  pairs_upto n u (suc k) h =
      let more = length-append (pairs_text d w n k) (row_text d w k n) in
      elim (order u k (omega arith)) [
        | inl less ↦ omega (arith, pairs_upto n u k less)
        | inr same ↦ rw same (omega arith)
      ]

  pub row_length : (u v : ℕ)
      → length (row_text d w u (suc v)) ≡ length (row_text d w u v) + length (pair_text u v (w u v) (found_in (d u v)))
  row_length u v = length-append (row_text d w u v) (pair_text u v (w u v) (found_in (d u v)))

  module _ (most n : ℕ) (few : n ≤ 16) (lines : (u v : ℕ) → u < n → v < n → length (pair_text u v (w u v)
      (found_in (d u v))) ≤ most) where
    row_within : (u k : ℕ) → u < n → k ≤ n → length (row_text d w u k) ≤ k * most
    row_within u zero h i = omega arith
    row_within u (suc k) h i = omega (arith, row_length u k, row_within u k h (omega arith), lines u k h (omega arith))

    pairs_within : (k : ℕ) → k ≤ n → length (pairs_text d w n k) ≤ k * (16 * most)
    pairs_within zero h = omega arith
    pairs_within (suc k) h =
        let row = row_within k n (omega arith) (omega arith) in
        let wide : n * most ≤ 16 * most = mul-le-mul_right most few in
        omega (arith, length-append (pairs_text d w n k) (row_text d w k n), pairs_within k (omega arith))

    first_within : length (first_line n (tallied d n n)) ≤ most_line
    first_within =
        let square : n * n ≤ 16 * 16 = mul-le n n 16 16 few few in
        first_short n (tallied d n n) (omega arith) (omega (arith, tallied_within d n))

    pub listing_within : length (listing_text d w n) ≤ most_line + 16 * (16 * most)
    listing_within =
        let all = pairs_within n (omega arith) in
        let wide : n * (16 * most) ≤ 16 * (16 * most) = mul-le-mul_right (16 * most) few in
        omega (arith, length-append (first_line n (tallied d n n)) (pairs_text d w n n), first_within)

-- the lines of what was evaluated
module _ (e : Evaluated) where
  lines_short : (u v : ℕ) → u < e.entries → v < e.entries
      → length (line_of e u v) ≤ LINE
  lines_short u v hu hv = e.short u v (omega (arith, e.all)) (omega (arith, e.all))

  pub row_short : (u : ℕ) → u < e.entries → length (row_of e u) ≤ 16 * LINE
  row_short u hu =
      let wide : e.entries * LINE ≤ 16 * LINE = mul-le-mul_right LINE e.few in
      omega (arith, row_within (told e) (led e) LINE e.entries e.few lines_short u e.entries hu (omega arith))

  -- each row lies behind those before it
  pub lines_upto : (u : ℕ) → u < e.entries → length (lines_before e u) + length (row_of e u) ≤ length (lines_of e)
  lines_upto u h =
      let n = e.entries in
      let first = first_line n (tallied (told e) n n) in
      let before = length-append first (pairs_text (told e) (led e) n u) in
      let all = length-append first (pairs_text (told e) (led e) n n) in
      omega (arith, pairs_upto (told e) (led e) n u n h)

  pub listing_short : length (lines_of e) ≤ most_text
  listing_short = omega (arith, listing_within (told e) (led e) LINE e.entries e.few lines_short)
