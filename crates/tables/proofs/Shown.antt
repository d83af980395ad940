-- What the block of each form shows, from what those of its halves show. Assumes nothing.
use Rattle.std.proofs.Common.{◌≡◌, ℕ, ◌+◌, ◌-◌, ◌*◌, ◌<◌, ◌≤◌, min, Bool, true, false, cond, not, eqb, ◌⊎◌, List, length, take, drop, get_or, refl, sym, ap, ◌∙◌, subst, inl, inr, arith}
use Rattle.std.proofs.lemmas.Nat.{mul-add-lt}
use Rattle.std.proofs.lemmas.List.{places}
use Rattle.expressions.proofs.Numbered.{part_made}
use Rattle.expressions.specs.Exprs.{Expr, epsilon, letter, either, join, plus, star, same, differ}
use Rattle.expressions.specs.Numbering.{made, part_expr, well_formed}
use Rattle.expressions.specs.declared.part.Part.{Part}
use Rattle.expressions.specs.declared.part.Part.TheVariants.{Epsilon}
use Rattle.graphs.specs.Graphs.{Graph}
use Rattle.languages.proofs.Forms.{by_steps, Empty, epsilon_cells, letter_cell, either_cells, join_cell, plus_cells, star_cells, same_cells, differ_cells}
use Rattle.languages.proofs.Walks.{linked_within}
use Rattle.languages.specs.Algebra.{sat_add, least_below, closed, Cells}
use Rattle.languages.specs.Cells.{Cell, Lengths, none}
use Rattle.languages.specs.Languages.{In}
use Rattle.languages.specs.Paths.{Linked}
use Rattle.tables.specs.Blocks.{block_cell, cell, Holds, KeptWhere}
use Rattle.tables.specs.Marks.{Mark, Marked, LinkedBy}
use Rattle.tables.specs.Tables.{AllShow}
use Rattle.tables.proofs.Rows.{row_end}

-- the arithmetic of blocks
pub block_next : (q m : ℕ) → (q + 1) * m ≡ q * m + m
block_next q m = omega arith

-- the cells of an expression are small
pub shown_small : (g : Graph) (n : ℕ) (e : Expr) (block : List ℕ) → Cells n (Lengths g e) (block_cell n block) → (u v : ℕ) → u < n → v < n → block_cell n block u v ≤ none
shown_small g n e block s u v p q = (s u v p q).small

-- a closed block, where the entries are counted by another number
pub closed_as : (first block : List ℕ) (m n : ℕ) → m ≡ n → Holds m block (closed m (block_cell m first)) → Holds n block (closed n (block_cell n first))
closed_as first block m n e = subst (λ k. Holds k block (closed k (block_cell k first))) e

-- the cells of an expression, said in other words
shown_as : (g : Graph) (n : ℕ) (e : Expr) (block : List ℕ) (d : ℕ → ℕ → ℕ) → Holds n block d → Cells n (Lengths g e) d → Cells n (Lengths g e) (block_cell n block)
shown_as g n e block d h c u v p q = subst (Cell (Lengths g e u v)) (sym (h u v p q)) (c u v p q)

module _ (g : Graph) (n : ℕ) (eq : n ≡ g.entries) where
  -- the block of an earlier part
  pub half_shown : (parts : List Part) (q k a m : ℕ) (done : List ℕ) → AllShow g parts q done → k < q → a ≡ k * (n * n) → n * n ≤ m → Cells n (Lengths g (part_expr parts k)) (block_cell n (take m (drop a done)))
  half_shown parts q k a m done s h is le u v p r =
      let i = mul-add-lt u n v n p r in
      let at : get_or (take m (drop a done)) (u * n + v) 0 ≡ cell done (k * (n * n)) n u v = search (places, arith) in
      subst (Cell (Lengths g (part_expr parts k) u v)) (sym at) (rw eq (s k h u v (rw eq at p) (rw eq at r)))

  pub epsilon_shown : (filled block : List ℕ) → Holds n filled (λ u v. none) → Holds n block (λ u v. cond (eqb u v) 0 (block_cell n filled u v)) → Cells n (Lengths g epsilon) (block_cell n block)
  epsilon_shown filled block f h =
      shown_as g n epsilon block (λ u v. cond (eqb u v) 0 none) (λ u v p q. h u v p q ∙ ap (cond (eqb u v) 0) (f u v p q)) (rw eq (epsilon_cells g by_steps))

  pub letter_shown : (a : ℕ) (block : List ℕ) → Marked g (length g.places) a n block → Cells n (Lengths g (letter a)) (block_cell n block)
  letter_shown a block m u v p q =
      letter_cell g by_steps a u v 1 _ (omega arith) (omega arith) (omega arith) refl (told (m u v p q))
    where
      held : Linked g u a v → LinkedBy g (length g.places) u a v
      held l = (l.0, linked_within g u a v l, l.1)

      told : {x : ℕ} → Mark g (length g.places) u a v x → (Linked g u a v × (x ≡ 1)) ⊎ ((Linked g u a v → ⊥) × (x ≡ none))
      told (inl h) = inl ((h.0.0, h.0.2), h.1)
      told (inr h) = inr (λ l. h.0 (held l), h.1)

  pub either_shown : (e f : Expr) (left right block : List ℕ) → Holds n block (λ u v. min (block_cell n left u v) (block_cell n right u v)) → Cells n (Lengths g e) (block_cell n left) → Cells n (Lengths g f) (block_cell n right) → Cells n (Lengths g (either e f)) (block_cell n block)
  either_shown e f left right block h a b = shown_as g n (either e f) block _ h (rw eq (either_cells g by_steps (In g e) (In g f) _ _ (rw eq at a) (rw eq at b)))

  pub join_shown : (e f : Expr) (left right block : List ℕ) → Holds n block (λ u v. least_below n (λ m. sat_add (block_cell n left u m) (block_cell n right m v))) → Cells n (Lengths g e) (block_cell n left) → Cells n (Lengths g f) (block_cell n right) → Cells n (Lengths g (join e f)) (block_cell n block)
  join_shown e f left right block h a b =
      let c = rw eq at a in
      let d = rw eq at b in
      shown_as g n (join e f) block _ h (rw eq (λ u v p q. join_cell g by_steps (In g e) (In g f) u v _ _ (λ m k. c u m p k) (λ m k. d m v k q)))

  pub plus_shown : (e : Expr) (first block : List ℕ) → Holds n block (closed n (block_cell n first)) → Cells n (Lengths g e) (block_cell n first) → Cells n (Lengths g (plus e)) (block_cell n block)
  plus_shown e first block h a = shown_as g n (plus e) block _ h (rw eq (plus_cells g by_steps (In g e) _ (rw eq at a)))

  -- what a repeat is first set to under `*`
  pub first_shown : (e : Expr) (before first : List ℕ) → Holds n first (λ u v. cond (eqb u v) 0 (block_cell n before u v)) → Cells n (Lengths g e) (block_cell n before) → Cells n (Lengths g (either epsilon e)) (block_cell n first)
  first_shown e before first h a =
      shown_as g n (either epsilon e) first (λ u v. min (cond (eqb u v) 0 none) (block_cell n before u v)) (λ u v p q. h u v p q ∙ least (eqb u v) (block_cell n before u v) (a u v p q).small)
      (rw eq (either_cells g by_steps Empty (In g e) _ _ (epsilon_cells g by_steps) (rw eq at a)))
    where
      least : (b : Bool) (x : ℕ) → x ≤ none → cond b 0 x ≡ min (cond b 0 none) x
      least true x h = omega arith
      least false x h = omega arith

  pub star_shown : (e : Expr) (first block : List ℕ) → Holds n block (closed n (block_cell n first)) → Cells n (Lengths g (either epsilon e)) (block_cell n first) → Cells n (Lengths g (star e)) (block_cell n block)
  star_shown e first block h a = shown_as g n (star e) block _ h (rw eq (star_cells g by_steps (In g e) _ (rw eq at a)))

  -- a block of which the cells that pass a test are kept
  kept_as : (test : ℕ → ℕ → Bool → Type 0) (right : ℕ → ℕ → Bool) (before block : List ℕ) → ((u v : ℕ) (b : Bool) → test u v b → b ≡ right u v) → KeptWhere n test before block → Holds n block (λ u v. cond (right u v) (block_cell n before u v) none)
  kept_as test right before block told h u v p q = elim (h.cells u v p q) [
    | inl w ↦ w.1 ∙ rw (← told u v true w.0)
    | inr w ↦ w.1 ∙ rw (← told u v false w.0)
  ]

  pub same_shown : (e : Expr) (test : ℕ → ℕ → Bool → Type 0) (before block : List ℕ) → KeptWhere n test before block → ((u v : ℕ) (b : Bool) → test u v b → b ≡ g.same u v) → Cells n (Lengths g e) (block_cell n before) → Cells n (Lengths g (same e)) (block_cell n block)
  same_shown e test before block h told a =
      shown_as g n (same e) block _ (kept_as test g.same before block told h) (rw eq (same_cells g by_steps g.same (In g e) _ (rw eq at a)))

  pub differ_shown : (e : Expr) (test : ℕ → ℕ → Bool → Type 0) (before block : List ℕ) → KeptWhere n test before block → ((u v : ℕ) (b : Bool) → test u v b → b ≡ not (g.same u v)) → Cells n (Lengths g e) (block_cell n before) → Cells n (Lengths g (differ e)) (block_cell n block)
  differ_shown e test before block h told a =
      shown_as g n (differ e) block (λ u v. cond (g.same u v) none (block_cell n before u v)) (λ u v p q. kept_as test (λ u v. not (g.same u v)) before block told h u v p q ∙ turned (g.same u v) (block_cell n before u v))
      (rw eq (differ_cells g by_steps g.same (In g e) _ (rw eq at a)))
    where
      turned : (b : Bool) (x : ℕ) → cond (not b) x none ≡ cond b none x
      turned true x = refl
      turned false x = refl

  -- the block of the part just before
  pub before_shown : (parts : List Part) (q a : ℕ) (done : List ℕ) → AllShow g parts q done → length done ≡ q * (n * n) → 0 < q → a ≡ length done - n * n → Cells n (Lengths g (part_expr parts (q - 1))) (block_cell n (take (length done - a) (drop a done)))
  before_shown parts q a done s len lt is =
      let r = row_end 0 (n * n) q lt in
      let b = block_next (q - 1) (n * n) in
      let c : (q - 1 + 1) * (n * n) ≡ q * (n * n) = ap (λ k. k * (n * n)) (omega arith) in
      half_shown parts q (q - 1) a (length done - a) done s (omega arith) (omega arith) (omega arith)

-- the block of a part, by what the part is
pub part_shown : (g : Graph) (n : ℕ) (parts : List Part) (q : ℕ) (x : Part) (block : List ℕ) → well_formed 0 parts ≡ true → q < length parts → get_or parts q Epsilon ≡ x → Cells n (Lengths g (made (part_expr parts) q x)) (block_cell n block) → Cells n (Lengths g (part_expr parts q)) (block_cell n block)
part_shown g n parts q x block f h is s = subst (λ e. Cells n (Lengths g e) (block_cell n block)) (sym (part_made parts q h f ∙ ap (made (part_expr parts) q) is)) s
