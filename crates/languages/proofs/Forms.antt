-- The cells of a language that is made of others, from theirs: for any languages, and any way to count by which paths that are joined add up. Assumes nothing.
use Rattle.std.proofs.Common.{◌≡◌, ℕ, ◌+◌, ◌<◌, ◌≤◌, min, Bool, true, false, cond, eqb, ◌⊎◌, List, [], ◌∷◌, ◌++◌, length, sym, refl, ap, ◌∙◌, subst, inl, inr, ⊎_elim, append-nil, arith, length-append}
use Rattle.std.proofs.lemmas.Bool.Decides.{Decides-eqb}
use Rattle.graphs.specs.Graphs.{Graph}
use Rattle.languages.specs.declared.step.Step.{Step}
use Rattle.languages.specs.Algebra.{sat_add, least_below, closed, Cells}
use Rattle.languages.specs.Cells.{Cell, long, none}
use Rattle.languages.specs.Languages.{Pieces}
use Rattle.languages.specs.Paths.{Path, Linked, end}
use Rattle.languages.proofs.CellLaws.{Sums, Some, cell_sum, cell_min, cell_move, cell_least, cell_one, cell_none, cell_if, cell_unless}
use Rattle.languages.proofs.Vias.{Via, closed_cells}
use Rattle.languages.proofs.Walks.{path_start, path_end, path_join, path_cut}

-- which steps are in it, from an entry on
abbrev pub Language : Type 1
Language = ℕ → List Step → Type 0

-- a number for the steps from an entry on
pub record Counting : Type 0 where
  pub count : ℕ → List Step → ℕ
  pub nothing : (u : ℕ) → count u [] ≡ 0
  pub adds : (u : ℕ) (s t : List Step) → count u (s ++ t) ≡ count u s + count (end u s) t

-- how many steps there are
abbrev pub by_steps : Counting
by_steps = record { count = λ u s. length s; nothing = λ u. refl; adds = λ u s t. length-append s t }

-- the numbers of the data paths of a language from u to v
abbrev pub Counts : Graph → Counting → Language → ℕ → ℕ → ℕ → Type 0
Counts g c L u v l = (s : List Step) × (Path g u s v × L u s) × (c.count u s ≡ l)

-- the languages that are made of others
abbrev pub Joint : Language → Language → Language
Joint L M u s = (s₁ : List Step) × (s₂ : List Step) × (s ≡ s₁ ++ s₂) × L u s₁ × M (end u s₁) s₂

abbrev pub Either : Language → Language → Language
Either L M u s = L u s ⊎ M u s

abbrev pub Empty : Language
Empty u s = s ≡ []

abbrev pub Single : ℕ → Language
Single a u s = (v : ℕ) × (s ≡ record { letter = a; entry = v } ∷ [])

abbrev pub Tested : (ℕ → ℕ → Bool) → Bool → Language → Language
Tested test b L u s = L u s × (test u (end u s) ≡ b)

-- a path of L and then one of its repeat under `*`
pub star_more : (L : Language) (u : ℕ) (s t : List Step) → L u s → Either Empty (Pieces L) (end u s) t → Either Empty (Pieces L) u (s ++ t)
star_more L u s t i (inl none) = inr (subst (λ (x : List Step). Pieces L u (s ++ x)) (sym none) (rw append-nil (Pieces.one i)))
star_more L u s t i (inr r) = inr (Pieces.more i r)

-- `e*` is `(0|e)+`
star_out : (L : Language) {u : ℕ} {s : List Step} → Pieces (Either Empty L) u s → Either Empty (Pieces L) u s
star_out L (Pieces.one (inl i)) = inl i
star_out L (Pieces.one (inr i)) = inr (Pieces.one i)
star_out L (Pieces.more {u = u} {s = s} {t = t} (inl i) r) = subst (λ (x : List Step). Either Empty (Pieces L) (end u x) t → Either Empty (Pieces L) u (x ++ t)) (sym i) (λ y. y) (star_out L r)
star_out L (Pieces.more {u = u} {s = s} {t = t} (inr i) r) = star_more L u s t i (star_out L r)

star_in : (L : Language) {u : ℕ} {s : List Step} → Pieces L u s → Pieces (Either Empty L) u s
star_in L (Pieces.one i) = Pieces.one (inr i)
star_in L (Pieces.more i r) = Pieces.more (inr i) (star_in L r)

module _ (g : Graph) (c : Counting) where
  abbrev C : Language → ℕ → ℕ → ℕ → Type 0
  C = Counts g c

  -- two paths that are joined
  both_counted : (u m v : ℕ) (s t : List Step) → Path g u s m → c.count u (s ++ t) ≡ c.count u s + c.count m t
  both_counted u m v s t p = c.adds u s t ∙ ap (λ x. c.count u s + c.count x t) (path_end g u m s p)

  -- joining

  pub join_in : (L M : Language) (u v l : ℕ) → Some g.entries (λ m. Sums (C L u m) (C M m v)) l → C (Joint L M) u v l
  join_in L M u v l w =
      let m = w.0 in
      let a = w.2.2 in
      let b = w.2.3 in (
        a.0 ++ b.0,
        (path_join g u m v a.0 b.0 a.1.0 b.1.0, (a.0, b.0, refl, a.1.1, subst (λ (x : ℕ). M x b.0) (sym (path_end g u m a.0 a.1.0)) b.1.1)),
        omega (arith, both_counted u m v a.0 b.0 a.1.0, a.2, b.2, w.2.4),
      )

  pub join_out : (L M : Language) (u v l : ℕ) → C (Joint L M) u v l → Some g.entries (λ m. Sums (C L u m) (C M m v)) l
  join_out L M u v l w =
      let i = w.1.1 in
      let s = i.0 in
      let t = i.1 in
      let p = path_cut g u v s t (subst (λ (x : List Step). Path g u x v) i.2 w.1.0) in (
        end u s,
        path_start g (end u s) v t p.1,
        (c.count u s, c.count (end u s) t, (s, (p.0, i.3), refl), (t, (p.1, i.4), refl), sym (c.adds u s t) ∙ sym (ap (c.count u) i.2) ∙ w.2),
      )

  pub join_cell : (L M : Language) (u v : ℕ) (a b : ℕ → ℕ) → ((m : ℕ) → m < g.entries → Cell (C L u m) (a m)) → ((m : ℕ) → m < g.entries → Cell (C M m v) (b m)) → Cell (C (Joint L M) u v) (least_below g.entries (λ m. sat_add (a m) (b m)))
  join_cell L M u v a b p q =
      cell_move (join_in L M u v) (λ l w. (l, join_out L M u v l w, omega arith))
      (cell_least g.entries (λ m lt. cell_sum (p m lt) (q m lt)))

  -- repeats

  plus_in : (L : Language) {n u v l : ℕ} → Via (C L) n u v l → C (Pieces L) u v l
  plus_in L (Via.one w) = (w.0, (w.1.0, Pieces.one w.1.1), w.2)
  plus_in L (Via.more {u = u} {v = v} {m = m} w lt p) =
      let r = plus_in L p in (
        w.0 ++ r.0,
        (
          path_join g u m v w.0 r.0 w.1.0 r.1.0,
          Pieces.more w.1.1 (subst (λ (x : ℕ). Pieces L x r.0) (sym (path_end g u m w.0 w.1.0)) r.1.1),
        ),
        omega (arith, both_counted u m v w.0 r.0 w.1.0, w.2, r.2),
      )

  plus_out : (L : Language) {u : ℕ} {s : List Step} (v : ℕ) → Pieces L u s → Path g u s v → Via (C L) g.entries u v (c.count u s)
  plus_out L v (Pieces.one {s = s} i) p = Via.one (s, (p, i), refl)
  plus_out L v (Pieces.more {u = u} {s = s} {t = t} i r) p =
      let k = path_cut g u v s t p in
      subst (Via (C L) g.entries u v) (sym (c.adds u s t)) (Via.more (s, (k.0, i), refl) (path_start g (end u s) v t k.1) (plus_out L v r k.1))

  pub plus_cells : (L : Language) (d : ℕ → ℕ → ℕ) → Cells g.entries (C L) d → Cells g.entries (C (Pieces L)) (closed g.entries d)
  plus_cells L d h u v p q =
      cell_move (λ l w. plus_in L w)
      (λ l w. (l, subst (λ (x : ℕ). Via (C L) g.entries u v x) w.2 (plus_out L v w.1.1 w.1.0), omega arith))
      (closed_cells g.entries g.entries (omega arith) h u v p q)

  pub star_cells : (L : Language) (d : ℕ → ℕ → ℕ) → Cells g.entries (C (Either Empty L)) d → Cells g.entries (C (Either Empty (Pieces L))) (closed g.entries d)
  star_cells L d h u v p q =
      cell_move (λ l w. (w.0, (w.1.0, star_out L w.1.1), w.2))
      (λ l w. (l, (w.0, (w.1.0, ⊎_elim (λ i. Pieces.one (inl i)) (star_in L) w.1.1), w.2), omega arith))
      (plus_cells (Either Empty L) d h u v p q)

  -- the other forms

  pub epsilon_back : (u v l : ℕ) → C Empty u v l → (l ≡ 0) × (u ≡ v)
  epsilon_back u v l w =
      let p = subst (λ (x : List Step). Path g u x v) w.1.1 w.1.0 in
      (sym w.2 ∙ ap (c.count u) w.1.1 ∙ c.nothing u, p.1)

  pub epsilon_cells : Cells g.entries (C Empty) (λ u v. cond (eqb u v) 0 none)
  epsilon_cells u v p q =
      cell_move (λ l w. ([], ((p, (Decides-eqb u v).0 w.1), refl), c.nothing u ∙ sym w.0))
      (λ l w. (l, (let z = epsilon_back u v l w in (z.0, (Decides-eqb u v).1 z.1)), omega arith))
      (cell_if (eqb u v) (cell_one 0 (omega arith)))

  pub letter_back : (a u v l : ℕ) → C (Single a) u v l → (l ≡ c.count u (record { letter = a; entry = v } ∷ [])) × Linked g u a v
  letter_back a u v l w =
      let i = w.1.1 in
      let p = subst (λ (x : List Step). Path g u x v) i.1 w.1.0 in
      let at : i.0 ≡ v = p.2.1 in
      (sym w.2 ∙ ap (c.count u) i.1 ∙ ap (λ x. c.count u (record { letter = a; entry = x } ∷ [])) at, subst (λ (x : ℕ). Linked g u a x) at p.1)

  pub letter_cell : (a u v k x : ℕ) → u < g.entries → v < g.entries → k ≤ long → c.count u (record { letter = a; entry = v } ∷ []) ≡ k → (Linked g u a v × (x ≡ k)) ⊎ ((Linked g u a v → ⊥) × (x ≡ none)) → Cell (C (Single a) u v) x
  letter_cell a u v k x p q small is (inl h) =
      subst (Cell (C (Single a) u v)) (sym h.1)
      (cell_move (λ l w. (record { letter = a; entry = v } ∷ [], ((p, h.0, (q, refl)), (v, refl)), is ∙ sym w)) (λ l w. (l, (letter_back a u v l w).0 ∙ is, omega arith)) (cell_one k small))
  letter_cell a u v k x p q small is (inr h) = subst (Cell (C (Single a) u v)) (sym h.1) (cell_none (λ l w. h.0 (letter_back a u v l w).1))

  pub either_cells : (L M : Language) (a b : ℕ → ℕ → ℕ) → Cells g.entries (C L) a → Cells g.entries (C M) b → Cells g.entries (C (Either L M)) (λ u v. min (a u v) (b u v))
  either_cells L M a b h k u v p q =
      cell_move
      (λ l. ⊎_elim (λ w. (w.0, (w.1.0, inl w.1.1), w.2)) (λ w. (w.0, (w.1.0, inr w.1.1), w.2)))
      (λ l w. (l, ⊎_elim (λ i. inl (w.0, (w.1.0, i), w.2)) (λ i. inr (w.0, (w.1.0, i), w.2)) w.1.1, omega arith))
      (cell_min (h u v p q) (k u v p q))

  -- a test of both ends, which the end of a path decides
  module _ (test : ℕ → ℕ → Bool) (L : Language) where
    tested : (b : Bool) (u v l : ℕ) → C L u v l × (test u v ≡ b) → C (Tested test b L) u v l
    tested b u v l w = (w.0.0, (w.0.1.0, (w.0.1.1, subst (λ (x : ℕ). test u x ≡ b) (sym (path_end g u v w.0.0 w.0.1.0)) w.1)), w.0.2)

    pub untested : (b : Bool) (u v l : ℕ) → C (Tested test b L) u v l → C L u v l × (test u v ≡ b)
    untested b u v l w = ((w.0, (w.1.0, w.1.1.0), w.2), subst (λ (x : ℕ). test u x ≡ b) (path_end g u v w.0 w.1.0) w.1.1.1)

    pub same_cells : (d : ℕ → ℕ → ℕ) → Cells g.entries (C L) d → Cells g.entries (C (Tested test true L)) (λ u v. cond (test u v) (d u v) none)
    same_cells d h u v p q = cell_move (tested true u v) (λ l w. (l, untested true u v l w, omega arith)) (cell_if (test u v) (h u v p q))

    pub differ_cells : (d : ℕ → ℕ → ℕ) → Cells g.entries (C L) d → Cells g.entries (C (Tested test false L)) (λ u v. cond (test u v) none (d u v))
    differ_cells d h u v p q = cell_move (tested false u v) (λ l w. (l, untested false u v l w, omega arith)) (cell_unless (test u v) (h u v p q))
