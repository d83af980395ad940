-- The cells of an expression over a graph, computed by the definitions, so that examples can be settled. Assumes nothing.
use Rattle.std.proofs.Common.{◌≡◌, ℕ, min, Bool, true, false, cond, eqb, ◌&&◌, ◌⊎◌, Some, None, Option, sym, refl, ap, ◌∙◌, inl, inr, arith}
use Rattle.std.proofs.lemmas.Bool.{false≢true}
use Rattle.std.proofs.lemmas.Bool.Decides.{nat_tests}
use Rattle.std.proofs.lemmas.List.{get_or_default}
use Rattle.std.proofs.lemmas.List.Folds.{Any-from_list_any, list_any_at}
use Rattle.std.specs.List.{list_any}
use Rattle.expressions.specs.Exprs.{Expr, epsilon, letter, either, join, plus, star, same, differ}
use Rattle.graphs.specs.Graphs.{Graph, link_at}
use Rattle.graphs.specs.declared.link.Link.{Link}
use Rattle.languages.specs.Algebra.{sat_add, least_below, closed, Cells}
use Rattle.languages.specs.Cells.{Lengths, none}
use Rattle.languages.specs.Paths.{Linked}
use Rattle.languages.specs.Languages.{In}
use Rattle.languages.proofs.Forms.{by_steps, Empty, epsilon_cells, letter_cell, either_cells, join_cell, plus_cells, star_cells, same_cells, differ_cells}
use Rattle.languages.proofs.Walks.{linked_within}

-- whether a place holds the link from u to v with the letter a
abbrev is_link : ℕ → ℕ → ℕ → Option Link → Bool
is_link u a v None = false
is_link u a v (Some l) = eqb l.from u && (eqb l.letter a && eqb l.to v)

-- whether some place does
abbrev has_link : Graph → ℕ → ℕ → ℕ → Bool
has_link g u a v = list_any (is_link u a v) g.places

-- the cell of a pair of entries, by the algebra of cells
abbrev pub cells_of : Graph → Expr → ℕ → ℕ → ℕ
cells_of g epsilon u v = cond (eqb u v) 0 none
cells_of g (letter a) u v = cond (has_link g u a v) 1 none
cells_of g (either e f) u v = min (cells_of g e u v) (cells_of g f u v)
cells_of g (join e f) u v = least_below g.entries (λ m. sat_add (cells_of g e u m) (cells_of g f m v))
cells_of g (plus e) u v = closed g.entries (cells_of g e) u v
cells_of g (star e) u v = closed g.entries (λ u v. min (cond (eqb u v) 0 none) (cells_of g e u v)) u v
cells_of g (same e) u v = cond (g.same u v) (cells_of g e u v) none
cells_of g (differ e) u v = cond (g.same u v) none (cells_of g e u v)

module _ (u a v : ℕ) where
  abbrev link : Link
  link = record { from = u; letter = a; to = v }

  is_held : (o : Option Link) → is_link u a v o ≡ true → o ≡ Some link
  is_held None h = absurd (false≢true h)
  is_held (Some l) h = ap Some (grind (arith, nat_tests))

  held_is : (o : Option Link) → o ≡ Some link → is_link u a v o ≡ true
  held_is o e = rw e (grind (arith, nat_tests))

  linked : (g : Graph) (b : Bool) → has_link g u a v ≡ b → (Linked g u a v × (cond b 1 none ≡ 1)) ⊎ ((Linked g u a v → ⊥) × (cond b 1 none ≡ none))
  linked g true h =
      let k = Any-from_list_any (is_link u a v) g.places h in
      inl ((k.0, get_or_default g.places k.0 None k.1 k.2 ∙ k.3 ∙ is_held k.1 k.4), refl)
  linked g false h = inr (λ l. false≢true (sym h ∙ list_any_at (is_link u a v) g.places l.0 None (linked_within g u a v l) (held_is (link_at g l.0) l.1)), refl)

-- what is computed are the cells of the expression
pub cells_are : (g : Graph) (e : Expr) → Cells g.entries (Lengths g e) (cells_of g e)
cells_are g epsilon = epsilon_cells g by_steps
cells_are g (letter a) = λ u v p q. letter_cell g by_steps a u v 1 _ p q (omega arith) refl (linked u a v g (has_link g u a v) refl)
cells_are g (either e f) = either_cells g by_steps (In g e) (In g f) (cells_of g e) (cells_of g f) (cells_are g e) (cells_are g f)
cells_are g (join e f) = λ u v p q. join_cell g by_steps (In g e) (In g f) u v (cells_of g e u) (λ m. cells_of g f m v) (λ m h. cells_are g e u m p h) (λ m h. cells_are g f m v h q)
cells_are g (plus e) = plus_cells g by_steps (In g e) (cells_of g e) (cells_are g e)
cells_are g (star e) = star_cells g by_steps (In g e) (λ u v. min (cond (eqb u v) 0 none) (cells_of g e u v)) (either_cells g by_steps Empty (In g e) (λ u v. cond (eqb u v) 0 none) (cells_of g e) (epsilon_cells g by_steps) (cells_are g e))
cells_are g (same e) = same_cells g by_steps g.same (In g e) (cells_of g e) (cells_are g e)
cells_are g (differ e) = differ_cells g by_steps g.same (In g e) (cells_of g e) (cells_are g e)
