-- The first pair of a block, from the place where its cell stands. Assumes nothing.
use Rattle.std.proofs.Common.{◌≡◌, ℕ, ◌+◌, ◌-◌, ◌*◌, ◌/◌, ◌%◌, ◌<◌, ◌≤◌, false, leb, List, length, get_or, Some, None, ap, subst, ◌∙◌, arith}
use Rattle.std.proofs.lemmas.Bool.{leb-true, leb-false}
use Rattle.std.proofs.lemmas.Bool.Decides.{nat_tests}
use Rattle.std.proofs.lemmas.List.Edits.{length-between, get_or-between}
use Rattle.std.proofs.lemmas.List.Quantifiers.{position-Some}
use Rattle.std.proofs.lemmas.List.Sums.{fails_before_first}
use Rattle.std.proofs.lemmas.Nat.{row_fits, mul-add-lt, div-add-mod', div-mul-add, mod-mul-add, mod_below, div_below}
use Rattle.std.specs.List.{slice_range, position}
use Rattle.languages.specs.Cells.{long}
use Rattle.tables.specs.Blocks.{cell}
use Rattle.queries.specs.Pairs.{First, FirstIs, From, Before, Reaches}

-- the pairs in their order are the places in theirs
from_place : (n u v a b : ℕ) → v ≤ n → From u v a b → u * n + v ≤ a * n + b
from_place n u v a b h k = grind (arith, row_fits)

place_from : (n u v a b : ℕ) → b < n → u * n + v ≤ a * n + b → From u v a b
place_from n u v a b h k = grind (arith, row_fits)

before_place : (n u v a b : ℕ) → v < n → Before u v a b → u * n + v < a * n + b
before_place n u v a b h k = grind (arith, row_fits)

some_entry : (n k : ℕ) → k < n * n → 0 < n
some_entry n k h = grind arith

all_far : (xs : List ℕ) (k : ℕ) → position (λ c. leb c long) xs ≡ None → k < length xs → leb (get_or xs k 0) long ≡ false
all_far xs k e h = grind (arith, nat_tests, fails_before_first (λ c. leb c long) xs k 0)

-- in a block, and its cells from that of (u, v) on
module _ (block rest : List ℕ) (n u v : ℕ) (size : length block ≡ n * n) (column : v ≤ n) (within : u * n + v ≤ length block) (is : rest ≡ slice_range block (u * n + v) (length block)) where
  rest_length : length rest ≡ n * n - (u * n + v)
  rest_length = rw (is, length-between block (u * n + v) (length block) (omega arith)) (omega arith)

  rest_cell : (a b : ℕ) → u * n + v ≤ a * n + b → a * n + b < n * n → get_or rest (a * n + b - (u * n + v)) 0 ≡ cell block 0 n a b
  rest_cell a b h k =
      let e : u * n + v + (a * n + b - (u * n + v)) ≡ 0 + (a * n + b) = omega arith in
      rw is
      (get_or-between block (u * n + v) (length block) (a * n + b - (u * n + v)) 0 (omega arith) ∙ ap (λ i. get_or block i 0) e)

  pub first_none : position (λ c. leb c long) rest ≡ None → First (From u v) n (Reaches (cell block 0 n)) None
  first_none e a b h k r s =
      let p = from_place n u v a b column r in
      let m = mul-add-lt a n b n h k in
      omega (arith, leb-false _ _ (all_far rest (a * n + b - (u * n + v)) e (omega (arith, rest_length))), rest_cell a b p m)

  pub first_some : (i : ℕ) → position (λ c. leb c long) rest ≡ Some i → FirstIs (From u v) n (Reaches (cell block 0 n)) ((u * n + v + i) / n) ((u * n + v + i) % n)
  first_some i e =
      let at = u * n + v + i in
      let p = position-Some (λ c. leb c long) rest i 0 e in
      let m : at < n * n = omega (arith, p.0, rest_length) in
      let z : 0 < n = some_entry n at m in
      let d : at / n * n + at % n ≡ at = div-add-mod' at n in
      let y : at % n < n = mod_below at n z in
      record {
        row = div_below at n n z m;
        column = y;
        reached = place_from n u v (at / n) (at % n) y (omega arith);
        holds =
            let f : at / n * n + at % n - (u * n + v) ≡ i = omega arith in
            omega (arith, leb-true _ _ p.1, ap (λ k. get_or rest k 0) f, rest_cell (at / n) (at % n) (omega arith) (omega arith));
        none_before = λ a b h k r o s.
            let q = from_place n u v a b column r in
            let l = before_place n a b (at / n) (at % n) k o in
            omega (arith, leb-false _ _ (p.2 (a * n + b - (u * n + v)) (omega arith)), rest_cell a b q (omega arith));
      }

  -- the same pair, told by its place in the row of u where it stands there
  pub first_in_row : (i : ℕ) → position (λ c. leb c long) rest ≡ Some i → u * n + v + i - u * n < n → FirstIs (From u v) n (Reaches (cell block 0 n)) u (u * n + v + i - u * n)
  first_in_row i e h =
      let y = u * n + v + i - u * n in
      let at : u * n + v + i ≡ u * n + y = omega arith in
      let row : (u * n + v + i) / n ≡ u = ap (λ k. k / n) at ∙ div-mul-add u n y h in
      let col : (u * n + v + i) % n ≡ y = ap (λ k. k % n) at ∙ mod-mul-add u n y h in
      subst (λ x. FirstIs (From u v) n (Reaches (cell block 0 n)) x y) row (subst (FirstIs (From u v) n (Reaches (cell block 0 n)) ((u * n + v + i) / n)) col (first_some i e))
