-- Sums along joints below k: how one more joint allowed splits them, and what that makes of their cells. Assumes nothing.
use Rattle.std.proofs.Common.{◌≡◌, ℕ, zero, suc, ◌+◌, ◌<◌, ◌≤◌, min, ◌⊎◌, refl, subst, inl, inr, ⊎_elim, add_assoc, arith}
use native.Mathlib.Decide.{dec_lt}
use Rattle.languages.specs.Algebra.{sat_add, Cells, closed}
use Rattle.languages.specs.Cells.{Cell}
use Rattle.languages.proofs.CellLaws.{Sums, cell_sum, cell_min, cell_move}

-- one or more of the numbers of W, from u to v, added, with each joint below k
pub data Via (W : ℕ → ℕ → ℕ → Type 0) (k : ℕ) : ℕ → ℕ → ℕ → Type 0 where
  one : {u v l : ℕ} → W u v l → Via W k u v l
  more : {u v m a b : ℕ} → W u m a → m < k → Via W k m v b → Via W k u v (a + b)

pub via_join : {W : ℕ → ℕ → ℕ → Type 0} {k u m v a b : ℕ} → Via W k u m a → m < k → Via W k m v b → Via W k u v (a + b)
via_join (one w) lt q = more w lt q
via_join {W} {k} {b = b} (more {u = u} {a = x} {b = y} w lt' p) lt q =
    rw add_assoc (more w lt' (via_join p lt q))

pub via_mono : {W : ℕ → ℕ → ℕ → Type 0} {k u v l : ℕ} → Via W k u v l → Via W (suc k) u v l
via_mono (one w) = one w
via_mono (more w lt p) = more w (omega arith) (via_mono p)

abbrev pub Split : (ℕ → ℕ → ℕ → Type 0) → ℕ → ℕ → ℕ → ℕ → Type 0
Split W k u v l = Via W k u v l ⊎ ((j : ℕ) × Sums (Via W k u k) (Via W k k v) j × (j ≤ l))

before : (W : ℕ → ℕ → ℕ → Type 0) {k u v m a b : ℕ} → W u m a → m < k → Split W k m v b → Split W k u v (a + b)
before W w lt (inl p) = inl (more w lt p)
before W {a = a} {b = b} w lt (inr r) =
    inr (a + r.1.0 + r.1.1, (a + r.1.0, r.1.1, more w lt r.1.2, r.1.3, refl), omega (arith, r.2, r.1.4))

at_last : (W : ℕ → ℕ → ℕ → Type 0) {k u v a b : ℕ} → W u k a → Split W k k v b → Split W k u v (a + b)
at_last W {a = a} {b = b} w (inl p) = inr (a + b, (a, b, one w, p, refl), omega arith)
at_last W {a = a} {b = b} w (inr r) = inr (a + r.1.1, (a, r.1.1, one w, r.1.3, refl), omega (arith, r.2, r.1.4))

step : (W : ℕ → ℕ → ℕ → Type 0) {k u v m a b : ℕ} → W u m a → m < suc k → Split W k m v b → Split W k u v (a + b)
step W {k} {u} {v} {m} {a} {b} w lt s =
    elim (dec_lt m k) [ yes h ↦ before W w h s | no h ↦ here m (omega arith) w s ]
  where
    here : (m : ℕ) → k ≡ m → W u m a → Split W k m v b → Split W k u v (a + b)
    here m e = subst (λ (x : ℕ). W u x a → Split W k x v b → Split W k u v (a + b)) e (at_last W)

pub via_split : {W : ℕ → ℕ → ℕ → Type 0} {k u v l : ℕ} → Via W (suc k) u v l → Split W k u v l
via_split {W} (one w) = inl (one w)
via_split {W} (more w lt p) = step W w lt (via_split p)

-- no joint is allowed: one piece
pub via_none : {W : ℕ → ℕ → ℕ → Type 0} {u v l : ℕ} → Via W 0 u v l → W u v l
via_none (one w) = w
via_none (more w lt p) = absurd (omega arith)

pub via_cell : {W : ℕ → ℕ → ℕ → Type 0} {k u v x y z : ℕ} → Cell (Via W k u v) x → Cell (Via W k u k) y → Cell (Via W k k v) z → Cell (Via W (suc k) u v) (min x (sat_add y z))
via_cell {W} {k} {u} {v} p q r =
    cell_move {S = λ l. Via W k u v l ⊎ Sums (Via W k u k) (Via W k k v) l}
    (λ l. ⊎_elim via_mono (λ s. subst (λ (x : ℕ). Via W (suc k) u v x) s.4 (via_join (via_mono s.2) (omega arith) (via_mono s.3))))
    (λ l w. ⊎_elim (λ s. (l, inl s, omega arith)) (λ s. (s.0, inr s.1, s.2)) (via_split w))
    (cell_min p (cell_sum q r))

pub closed_cells : {W : ℕ → ℕ → ℕ → Type 0} {d : ℕ → ℕ → ℕ} (n k : ℕ) → k ≤ n → Cells n W d → Cells n (Via W k) (closed k d)
closed_cells n zero le h u v p q = cell_move (λ l w. one w) (λ l w. (l, via_none w, omega arith)) (h u v p q)
closed_cells {W} {d} n (suc k) le h u v p q =
    let ih = closed_cells {W = W} {d = d} n k (omega arith) h in
    via_cell (ih u v p q) (ih u k p (omega arith)) (ih k v (omega arith) q)
