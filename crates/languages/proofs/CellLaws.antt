-- The laws of cells: the cell of a union, of sums, of a union over numbers below n. Assumes nothing.
use Rattle.std.proofs.Common.{◌≡◌, ℕ, zero, suc, ◌+◌, ◌<◌, ◌≤◌, min, Bool, true, false, cond, ◌⊎◌, refl, subst, inl, inr, ⊎_elim, arith}
use native.Mathlib.Decide.{dec_lt, dec_le}
use Rattle.std.proofs.lemmas.Bool.{false≢true, true≢false}
use Rattle.std.proofs.lemmas.Bool.Decides.{nat_tests}
use Rattle.languages.specs.Algebra.{sat_add, least_below}
use Rattle.languages.specs.Cells.{Cell, long, none}

-- a set of numbers has one cell
no_more : {S : ℕ → Type 0} {c d : ℕ} → Cell S c → Cell S d → c ≤ d
no_more {c = c} {d = d} p q = elim (dec_lt d none) [
  | yes few ↦ (let x = q.some few in omega (arith, p.least x.0 x.1, x.2))
  | no all ↦ omega (arith, p.small)
]

pub one_cell : {S : ℕ → Type 0} {c d : ℕ} → Cell S c → Cell S d → c ≡ d
one_cell p q = omega (arith, no_more p q, no_more q p)

pub sat_add-le : (a b : ℕ) → sat_add a b ≤ none
sat_add-le a b = grind (arith, nat_tests)

pub sat_add-few : (a b : ℕ) → sat_add a b < none → (a < none) × (b < none) × (sat_add a b ≡ min (a + b) long)
sat_add-few a b h = (grind (arith, nat_tests), grind (arith, nat_tests), grind (arith, nat_tests))

pub sat_add-min : (a b x y : ℕ) → a ≤ min x long → b ≤ min y long → sat_add a b ≤ min (x + y) long
sat_add-min a b x y p q = grind (arith, nat_tests)

-- the sums of a number of S and one of T
abbrev pub Sums : (ℕ → Type 0) → (ℕ → Type 0) → ℕ → Type 0
Sums S T l = (x : ℕ) × (y : ℕ) × S x × T y × (x + y ≡ l)

pub cell_sum : {S T : ℕ → Type 0} {a b : ℕ} → Cell S a → Cell T b → Cell (Sums S T) (sat_add a b)
cell_sum {S} {T} {a} {b} p q = record {
  small = sat_add-le a b;
  some = λ h.
      let f = sat_add-few a b h in
      let x = p.some f.0 in
      let y = q.some f.1 in
      (x.0 + y.0, (x.0, y.0, x.1, y.1, refl), omega (arith, x.2, y.2, f.2));
  least = λ l w.
      let m = sat_add-min a b w.0 w.1 (p.least w.0 w.2) (q.least w.1 w.3) in omega (arith, m, w.4);
}

pub cell_min : {S T : ℕ → Type 0} {a b : ℕ} → Cell S a → Cell T b → Cell (λ l. S l ⊎ T l) (min a b)
cell_min {S} {T} {a} {b} p q = record {
  small = omega (arith, p.small);
  some = λ h. elim (dec_le a b) [
    | yes le ↦ (let x = p.some (omega arith) in (x.0, inl x.1, omega (arith, x.2)))
    | no gt ↦ (let x = q.some (omega arith) in (x.0, inr x.1, omega (arith, x.2)))
  ];
  least = λ l w. ⊎_elim (λ s. omega (arith, p.least l s)) (λ t. omega (arith, q.least l t)) w;
}

-- T has all of S, and each number of T is at least one of S
pub cell_move : {S T : ℕ → Type 0} {c : ℕ} → ((l : ℕ) → S l → T l) → ((l : ℕ) → T l → (k : ℕ) × S k × (k ≤ l)) → Cell S c → Cell T c
cell_move {S} {T} {c} into back p = record {
  small = p.small;
  some = λ h. (let x = p.some h in (x.0, into x.0 x.1, x.2));
  least = λ l t. (let x = back l t in omega (arith, p.least x.0 x.1, x.2));
}

-- no number
pub cell_none : {S : ℕ → Type 0} → ((l : ℕ) → S l → ⊥) → Cell S none
cell_none h = record { small = omega arith; some = λ k. absurd (omega arith); least = λ l s. absurd (h l s) }

-- the numbers of some S m, m below n
abbrev pub Some : ℕ → (ℕ → ℕ → Type 0) → ℕ → Type 0
Some n S l = (m : ℕ) × (m < n) × S m l

pub cell_least : {S : ℕ → ℕ → Type 0} {c : ℕ → ℕ} (n : ℕ) → ((m : ℕ) → m < n → Cell (S m) (c m)) → Cell (Some n S) (least_below n c)
cell_least {S} {c} zero h = cell_none (λ l w. omega (arith, w.1))
cell_least {S} {c} (suc n) h =
    cell_move {S = λ l. Some n S l ⊎ S n l}
    (λ l. ⊎_elim (λ w. (w.0, omega (arith, w.1), w.2)) (λ s. (n, omega arith, s)))
    (λ l w. (l, last l w, omega arith))
    (cell_min (cell_least n (λ m lt. h m (omega arith))) (h n (omega arith)))
  where
    same : (l m : ℕ) → m ≡ n → S m l → S n l
    same l m e s = subst (λ (k : ℕ). S k l) e s

    last : (l : ℕ) → Some (suc n) S l → Some n S l ⊎ S n l
    last l w = elim (dec_lt w.0 n)
        [ yes lt ↦ inl (w.0, lt, w.2) | no ge ↦ inr (same l w.0 (omega (arith, w.1)) w.2) ]

-- one number
pub cell_one : (k : ℕ) → k ≤ long → Cell (λ l. l ≡ k) k
cell_one k h = record { small = omega arith; some = λ _. (k, refl, omega arith); least = λ l e. omega arith }

-- under a test
pub cell_if : {S : ℕ → Type 0} {c : ℕ} (b : Bool) → Cell S c → Cell (λ l. S l × (b ≡ true)) (cond b c none)
cell_if true p = cell_move (λ l s. (s, refl)) (λ l w. (l, w.0, omega arith)) p
cell_if false p = cell_none (λ l w. false≢true w.1)

pub cell_unless : {S : ℕ → Type 0} {c : ℕ} (b : Bool) → Cell S c → Cell (λ l. S l × (b ≡ false)) (cond b none c)
cell_unless false p = cell_move (λ l s. (s, refl)) (λ l w. (l, w.0, omega arith)) p
cell_unless true p = cell_none (λ l w. true≢false w.1)
