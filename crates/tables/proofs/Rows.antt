-- Blocks that are written row by row. Assumes nothing.
use Rattle.std.proofs.Common.{◌≡◌, ℕ, ◌+◌, ◌-◌, ◌*◌, ◌<◌, ◌≤◌, min, ◌⊎◌, List, ◌++◌, length, get_or, take, ap, subst, ◌∙◌, inl, inr, append-nil, mul-le-mul_right, arith}
use Rattle.std.proofs.lemmas.Bool.{cases_lt}
use Rattle.std.proofs.lemmas.List.{places, drop_all}
use Rattle.std.proofs.lemmas.List.Edits.{get_or-between}
use Rattle.std.specs.List.{between}
use Rattle.languages.specs.Algebra.{sat_add}
use borrow.Rule.Slice.PartMut.{put_mid, Post-is}
use Rattle.tables.specs.Blocks.{block_cell}

-- the first u rows of a block are written, and the others are as they were
pub record Rows (n u : ℕ) (F : ℕ → ℕ → ℕ) (block block' : List ℕ) : Type 0 where
  pub done : (s v : ℕ) → s < u → v < n → block_cell n block' s v ≡ F s v
  pub rest : (s v : ℕ) → u ≤ s → s < n → v < n → block_cell n block' s v ≡ block_cell n block s v

-- the first v cells of a row are made smaller by going over a middle, and the others are as they were
pub record Lowered (v first : ℕ) (middle row row' : List ℕ) : Type 0 where
  pub done : (k : ℕ) → k < v → get_or row' k 0 ≡ min (get_or row k 0) (sat_add first (get_or middle k 0))
  pub rest : (k : ℕ) → v ≤ k → get_or row' k 0 ≡ get_or row k 0

-- the rows before a row end where it begins
pub row_end : (u n m : ℕ) → u < m → u * n + n ≤ m * n
row_end u n m lt = omega (arith, mul-le-mul_right n lt)

-- a cell of a row by itself
pub row_cell : (n u v : ℕ) (block : List ℕ) → v < n → get_or (between (u * n) ((u + 1) * n) block) v 0 ≡ block_cell n block u v
row_cell n u v block h = get_or-between block (u * n) ((u + 1) * n) v 0 (omega arith)

-- what lies before a part that is written over, in it, and behind it
pub length-over : (a k : ℕ) (xs ys : List ℕ) → a + k ≤ length xs → length ys ≡ k → length (put_mid a k xs ys) ≡ length xs
length-over a k xs ys l e = search (places, arith)

pub over_before : (a k i : ℕ) (xs ys : List ℕ) → i < a → a ≤ length xs → get_or (put_mid a k xs ys) i 0 ≡ get_or xs i 0
over_before a k i xs ys h l = search (places, arith)

pub over_in : (a k i : ℕ) (xs ys : List ℕ) → i < length ys → a ≤ length xs → get_or (put_mid a k xs ys) (a + i) 0 ≡ get_or ys i 0
over_in a k i xs ys h l = search (places, arith)

pub over_behind : (a k i : ℕ) (xs ys : List ℕ) → a + k ≤ i → a ≤ length xs → length ys ≡ k → get_or (put_mid a k xs ys) i 0 ≡ get_or xs i 0
over_behind a k i xs ys h l e = search (places, arith)

-- what is put at the end of a list
pub put_last : {X : Type 0} (a : ℕ) (xs ys : List X) → a ≤ length xs → put_mid a (length xs - a) xs ys ≡ take a xs ++ ys
put_last a xs ys h = ap (λ zs. take a xs ++ (ys ++ zs)) (Post-is a (length xs) xs h ∙ drop_all (length xs) xs (omega arith)) ∙ ap (λ zs. take a xs ++ zs) (append-nil ys)

-- row u is written over
pub row_over : (n u : ℕ) (F : ℕ → ℕ → ℕ) (block₀ block row : List ℕ) → u < n → length block ≡ n * n → length row ≡ n → ((v : ℕ) → v < n → get_or row v 0 ≡ F u v) → Rows n u F block₀ block → Rows n (u + 1) F block₀ (put_mid (u * n) ((u + 1) * n - u * n) block row)
row_over n u F block₀ block row lt square len is r = record {
  done = λ s v h k. by_row s v (cases_lt s u) h k;
  rest = λ s v h h' k.
      let e = row_end u n n lt in
      let b = row_end u n s (omega arith) in
      over_behind (u * n) ((u + 1) * n - u * n) (s * n + v) block row (omega arith) (omega arith) (omega arith) ∙ r.rest s v (omega arith) h' k;
}
  where
    by_row : (s v : ℕ) → (s < u) ⊎ (u ≤ s) → s < u + 1 → v < n → block_cell n (put_mid (u * n) ((u + 1) * n - u * n) block row) s v ≡ F s v
    by_row s v (inl less) h k =
        let e = row_end u n n lt in
        let b = row_end s n u less in
        over_before (u * n) ((u + 1) * n - u * n) (s * n + v) block row (omega arith) (omega arith) ∙ r.done s v less k
    by_row s v (inr ge) h k =
        let e = row_end u n n lt in
        let q : u ≡ s = omega arith in
        subst (λ j. block_cell n (put_mid (u * n) ((u + 1) * n - u * n) block row) j v ≡ F j v) q (over_in (u * n) ((u + 1) * n - u * n) v block row (omega arith) (omega arith) ∙ is v k)
