-- The number of cells that tell of a path in a block is the tally of its pairs. Assumes nothing.
use Rattle.std.proofs.Common.{◌≡◌, ℕ, zero, suc, ◌+◌, ◌*◌, ◌<◌, ◌≤◌, List, length, get_or, take, refl, ap, ◌∙◌, subst, add-zero, arith}
use Rattle.std.proofs.lemmas.List.{take_all}
use Rattle.std.proofs.lemmas.List.Sums.{sum_by_more}
use Rattle.std.proofs.lemmas.Nat.{mul-add-lt}
use Rattle.std.specs.List.{sum_by}
use Rattle.tables.specs.Blocks.{cell}
use Rattle.queries.specs.Pairs.{sum_to, reaches, tallied}

module _ (block : List ℕ) (d : ℕ → ℕ → ℕ) (n : ℕ) (size : length block ≡ n * n) (cells : (u v : ℕ) → u < n → v < n → cell block 0 n u v ≡ d u v) where
  row_tally : (u v : ℕ) → u < n → v ≤ n → sum_by reaches (take (u * n + v) block) ≡ sum_by reaches (take (u * n) block) + sum_to (λ w. reaches (d u w)) v
  row_tally u zero h k = rw (add-zero, add-zero) refl
  row_tally u (suc v) h k =
      let e : u * n + suc v ≡ u * n + v + 1 = omega arith in
      let m : u * n + v < length block = omega (arith, mul-add-lt u n v n h (omega arith)) in
      let i : u * n + v ≡ 0 + (u * n + v) = omega arith in
      let c = ap (λ k. reaches (get_or block k 0)) i ∙ ap reaches (cells u v h (omega arith)) in
      rw e (omega (arith, sum_by_more reaches block (u * n + v) 0 m, row_tally u v h (omega arith), c))

  rows_tally : (u : ℕ) → u ≤ n → sum_by reaches (take (u * n) block) ≡ tallied d n u
  rows_tally zero h = let e : 0 * n ≡ 0 = omega arith in rw e refl
  rows_tally (suc u) h =
      let e : suc u * n ≡ u * n + n = omega arith in
      rw e (omega (arith, row_tally u n (omega arith) (omega arith), rows_tally u (omega arith)))

  pub block_tally : sum_by reaches block ≡ tallied d n n
  block_tally = subst (λ l. sum_by reaches l ≡ tallied d n n) (take_all (n * n) block (omega arith)) (rows_tally n (omega arith))
