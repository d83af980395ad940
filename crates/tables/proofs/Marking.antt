-- How a block is marked with each place that is read. Assumes nothing.
use Rattle.std.proofs.Common.{◌≡◌, ℕ, ◌+◌, ◌*◌, ◌<◌, ◌⊎◌, List, length, get_or, set, Some, sym, ap, ◌∙◌, subst, inl, inr, arith, get_or-set_other, get_or-set_same}
use Rattle.std.proofs.lemmas.Nat.{mul-add-lt, same_from_place}
use Rattle.std.proofs.lemmas.Bool.{cases_eq, and_parts}
use Rattle.std.proofs.lemmas.Bool.Decides.{nat_tests}
use Rattle.graphs.specs.Graphs.{Graph, Lawful, link_at}
use Rattle.graphs.specs.declared.link.Link.{Link}
use Rattle.tables.specs.Blocks.{block_cell}
use Rattle.tables.specs.Marks.{link, LinkedBy, Mark, Marked}

-- a link of the first p + 1 places is the last of them or an earlier one
earlier : (g : Graph) (p u a v : ℕ) → (link_at g p ≡ Some (link u a v) → ⊥) → LinkedBy g (p + 1) u a v → LinkedBy g p u a v
earlier g p u a v no-link (k, below, at) =
    let less : k < p = elim (cases_eq k p) [ inl e ↦ absurd (no-link (subst (λ j. link_at g j ≡ Some (link u a v)) e at)) | inr ne ↦ omega (arith, ne) ] in
    (k, less, at)

-- a place that has no link between the two
mark_passed : (g : Graph) (p u a v x : ℕ) → (link_at g p ≡ Some (link u a v) → ⊥) → Mark g p u a v x → Mark g (p + 1) u a v x
mark_passed g p u a v x no-link (inl (held, e)) = inl ((held.0, omega (arith, held.1), held.2), e)
mark_passed g p u a v x no-link (inr (none, e)) = inr (λ held. none (earlier g p u a v no-link held), e)

-- a place that holds no link of the letter
pub marked_passed : (g : Graph) (p a n : ℕ) (block : List ℕ) (l : Link) → Some l ≡ link_at g p → (l.letter ≡ a → ⊥) → Marked g p a n block → Marked g (p + 1) a n block
marked_passed g p a n block l at other m u v hu hv = mark_passed g p u a v _ no_link (m u v hu hv)
  where
    no_link : link_at g p ≡ Some (link u a v) → ⊥
    no_link e = other (let q : l ≡ link u a v = cc (at, e) in ap (λ m. m.letter) q)

-- a place that holds one
pub marked_more : (g : Graph) (p a n : ℕ) (block : List ℕ) (l : Link) → Some l ≡ link_at g p → l.letter ≡ a → l.from < n → l.to < n → length block ≡ n * n → Marked g p a n block → Marked g (p + 1) a n (set block (l.from * n + l.to) 1)
marked_more g p a n block l at letter hs ht square m u v hu hv = by_cell (cases_eq (u * n + v) (l.from * n + l.to))
  where
    by_cell : (u * n + v ≡ l.from * n + l.to) ⊎ (u * n + v ≡ l.from * n + l.to → ⊥) → Mark g (p + 1) u a v (block_cell n (set block (l.from * n + l.to) 1) u v)
    by_cell (inl e) =
        let ends = same_from_place u v l.from l.to n hv ht e in
        let is : l ≡ link u a v = rw (ends.0, ends.1, ← letter) in
        inl ((p, omega arith, sym at ∙ ap Some is), ap (λ i. get_or (set block (l.from * n + l.to) 1) i 0) e ∙ get_or-set_same block (l.from * n + l.to) 1 0 (omega (arith, mul-add-lt l.from n l.to n hs ht)))
    by_cell (inr ne) =
        let other : link_at g p ≡ Some (link u a v) → ⊥ = λ h. ne (let q : l ≡ link u a v = cc (at, h) in ap (λ x. x.from * n + x.to) (sym q)) in
        subst (Mark g (p + 1) u a v) (sym (get_or-set_other block (l.from * n + l.to) (u * n + v) 1 0 ne)) (mark_passed g p u a v _ other (m u v hu hv))

-- the ends of a link that a lawful graph holds name a cell
pub inside : (g : Graph) → Lawful g → (k n : ℕ) (l : Link) → Some l ≡ link_at g k → n ≡ g.entries → (l.from < n) × (l.to < n) × (l.from * n + l.to < n * n)
inside g laws k n l at e = grind (arith, nat_tests, and_parts, laws.links k l (sym at), mul-add-lt)
