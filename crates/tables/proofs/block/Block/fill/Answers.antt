use Rattle.std.proofs.Common.{◌≡◌, ℕ, ◌+◌, ◌-◌, ◌*◌, ◌<◌, true, List, length, get_or, take, drop, refl, ◌∙◌, arith, rules}
use Rattle.std.proofs.lemmas.Bool.{ltb-true}
use Rattle.expressions.proofs.Numbered.{part_stands}
use Rattle.expressions.specs.Exprs.{Expr, epsilon, either}
use Rattle.expressions.specs.Numbering.{made, part_expr, stands_on}
use Rattle.expressions.specs.declared.part.Part.{Part}
use Rattle.expressions.specs.declared.part.Part.TheVariants.{Epsilon, Letter, Either, Join, Plus, Star, Same, Differ}
use Rattle.graphs.specs.Graphs.{Graph}
use Rattle.languages.specs.Algebra.{Cells}
use Rattle.languages.specs.Cells.{Lengths}
use Rattle.tables.specs.Blocks.{block_cell}
use Rattle.tables.proofs.Rows.{row_end}
use Rattle.tables.proofs.Shown.{closed_as, half_shown, before_shown, part_shown, shown_small, epsilon_shown, letter_shown, either_shown, join_shown, plus_shown, first_shown, star_shown, same_shown, differ_shown}
use Rattle.tables.proofs.block.Block.fill.Given.{Over}
use Rattle.tables.proofs.block.Block.fill.Goals.{After-saturating_sub}
use Rattle.tables.proofs.block.Block.fill.Goals as goal

abbrev graph : (g : Over) → After-saturating_sub g → Graph
graph g c = g.S.Source.graph c.args.source.now

-- what the cells of a block show
abbrev Shows : (g : Over) → After-saturating_sub g → Expr → List ℕ → Type 0
Shows g c e cells = Cells c.args.self.now.n (Lengths (graph g c) e) (block_cell c.args.self.now.n cells)

-- the part stands on parts before it
stands : (g : Over) (c : After-saturating_sub g) (x : Part) → get_or c.args.parts.now c.args.q Epsilon ≡ x → stands_on c.args.q x ≡ true
stands g c x is = rw is at (part_stands c.args.parts.now c.args.q c.requires.formed c.requires.is_part)

-- the block of an earlier part, that of the part just before, and what that of the part itself has to show
half : (g : Over) (c : After-saturating_sub g) (l : ℕ) → l < c.args.q → Shows g c (part_expr c.args.parts.now l) (take (c.args.self.now.n * c.args.self.now.n) (drop (l * (c.args.self.now.n * c.args.self.now.n)) c.args.done.now))
half g c l lt = half_shown (graph g c) c.args.self.now.n c.requires.entries c.args.parts.now c.args.q l _ _ c.args.done.now c.requires.shown lt refl (omega arith)

before : (g : Over) (c : After-saturating_sub g) → 0 < c.args.q → Shows g c (part_expr c.args.parts.now (c.args.q - 1)) (take (length c.args.done.now - c.saturating_sub.result) (drop c.saturating_sub.result c.args.done.now))
before g c lt = before_shown (graph g c) c.args.self.now.n c.requires.entries c.args.parts.now c.args.q c.saturating_sub.result c.args.done.now c.requires.shown c.requires.done lt c.saturating_sub.ensures

shows : (g : Over) (c : After-saturating_sub g) (x : Part) (cells : List ℕ) → get_or c.args.parts.now c.args.q Epsilon ≡ x → Shows g c (made (part_expr c.args.parts.now) c.args.q x) cells → Shows g c (part_expr c.args.parts.now c.args.q) cells
shows g c x cells is = part_shown (graph g c) c.args.self.now.n c.args.parts.now c.args.q x cells c.requires.formed c.requires.is_part is

pub block_of-requires : goal.block_of-requires
block_of-requires g c =
    let s = (goal.at.block_of-requires g c).After-saturating_sub in
    let l = c.in-Either.left in
    let lt = ltb-true (l + 1) c.args.q (stands g s (Either l) c.in-Either.is) in
    omega (arith, row_end l (c.args.self.now.n * c.args.self.now.n) c.args.q (omega arith))

pub block_of-requires-in-Join : goal.block_of-requires-in-Join
block_of-requires-in-Join g c =
    let s = (goal.at.block_of-requires-in-Join g c).After-saturating_sub in
    let l = c.in-Join.left in
    let lt = ltb-true (l + 1) c.args.q (stands g s (Join l) c.in-Join.is) in
    omega (arith, row_end l (c.args.self.now.n * c.args.self.now.n) c.args.q (omega arith))

pub close-requires : goal.close-requires
close-requires g c =
    let s = (goal.at.close-requires g c).After-saturating_sub in
    let lt = ltb-true 0 c.args.q (stands g s Plus c.in-Plus.is) in
    let copied : Shows g s (part_expr c.args.parts.now (c.args.q - 1)) c.copy_from.new.self.cells.now = rw c.copy_from.ensures.cells (before g s lt) in
    rw c.copy_from.ensures.place.entries (shown_small (graph g s) c.args.self.now.n _ c.copy_from.new.self.cells.now copied)

pub close-requires-in-Star : goal.close-requires-in-Star
close-requires-in-Star g c =
    let s = (goal.at.close-requires-in-Star g c).After-saturating_sub in
    let n = c.args.self.now.n in
    let e = part_expr c.args.parts.now (c.args.q - 1) in
    let copy = c.copy_from-in-Star in
    let zero = c.zero_diagonal-in-Star in
    let lt = ltb-true 0 c.args.q (stands g s Star c.in-Star.is) in
    let copied : Shows g s e copy.new.self.cells.now = rw copy.ensures.cells (before g s lt) in
    let first = first_shown (graph g s) n c.requires.entries e copy.new.self.cells.now zero.new.self.cells.now (rw copy.ensures.place.entries at zero.ensures.cells) copied in
    rw (zero.ensures.place.entries, copy.ensures.place.entries) (shown_small (graph g s) n (either epsilon e) zero.new.self.cells.now first)

pub returns-in-Epsilon-clause-cells : goal.returns-in-Epsilon-clause-cells
returns-in-Epsilon-clause-cells g c =
    let s = (goal.at.returns-in-Epsilon-clause-cells g c).After-saturating_sub in
    let zero = c.zero_diagonal in
    let place = c.clear.ensures.place.entries in
    shows g s Epsilon zero.new.self.cells.now c.in-Epsilon.is
    (epsilon_shown (graph g s) c.args.self.now.n c.requires.entries c.clear.new.self.cells.now zero.new.self.cells.now c.clear.ensures.cells (rw place at zero.ensures.cells))

pub returns-in-Letter-clause-cells : goal.returns-in-Letter-clause-cells
returns-in-Letter-clause-cells g c =
    let s = (goal.at.returns-in-Letter-clause-cells g c).After-saturating_sub in
    shows g s (Letter c.in-Letter.letter) c.mark.new.self.cells.now c.in-Letter.is
    (letter_shown (graph g s) c.args.self.now.n c.requires.entries c.in-Letter.letter c.mark.new.self.cells.now c.mark.ensures.cells)

pub returns-in-Either-clause-cells : goal.returns-in-Either-clause-cells
returns-in-Either-clause-cells g c =
    let s = (goal.at.returns-in-Either-clause-cells g c).After-saturating_sub in
    let l = c.in-Either.left in
    let lt = ltb-true (l + 1) c.args.q (stands g s (Either l) c.in-Either.is) in
    shows g s (Either l) c.lesser.new.self.cells.now c.in-Either.is
    (either_shown (graph g s) c.args.self.now.n c.requires.entries _ _ c.block_of.result.now _ c.lesser.new.self.cells.now c.lesser.ensures.cells (rw c.block_of.ensures.cells (half g s l (omega arith))) (before g s (omega arith)))

pub returns-in-Join-clause-cells : goal.returns-in-Join-clause-cells
returns-in-Join-clause-cells g c =
    let s = (goal.at.returns-in-Join-clause-cells g c).After-saturating_sub in
    let l = c.in-Join.left in
    let lt = ltb-true (l + 1) c.args.q (stands g s (Join l) c.in-Join.is) in
    shows g s (Join l) c.join.new.self.cells.now c.in-Join.is
    (join_shown (graph g s) c.args.self.now.n c.requires.entries _ _ c.block_of-in-Join.result.now _ c.join.new.self.cells.now c.join.ensures.cells (rw c.block_of-in-Join.ensures.cells (half g s l (omega arith))) (before g s (omega arith)))

pub returns-in-Plus-clause-cells : goal.returns-in-Plus-clause-cells
returns-in-Plus-clause-cells g c =
    let s = (goal.at.returns-in-Plus-clause-cells g c).After-saturating_sub in
    let copy = c.copy_from in
    let lt = ltb-true 0 c.args.q (stands g s Plus c.in-Plus.is) in
    shows g s Plus c.close.new.self.cells.now c.in-Plus.is
    (plus_shown (graph g s) c.args.self.now.n c.requires.entries _ copy.new.self.cells.now c.close.new.self.cells.now (closed_as copy.new.self.cells.now c.close.new.self.cells.now _ _ copy.ensures.place.entries c.close.ensures.cells) (rw copy.ensures.cells (before g s lt)))

pub returns-in-Star-clause-cells : goal.returns-in-Star-clause-cells
returns-in-Star-clause-cells g c =
    let s = (goal.at.returns-in-Star-clause-cells g c).After-saturating_sub in
    let n = c.args.self.now.n in
    let e = part_expr c.args.parts.now (c.args.q - 1) in
    let copy = c.copy_from-in-Star in
    let zero = c.zero_diagonal-in-Star in
    let lt = ltb-true 0 c.args.q (stands g s Star c.in-Star.is) in
    let copied : Shows g s e copy.new.self.cells.now = rw copy.ensures.cells (before g s lt) in
    let first = first_shown (graph g s) n c.requires.entries e copy.new.self.cells.now zero.new.self.cells.now (rw copy.ensures.place.entries at zero.ensures.cells) copied in
    shows g s Star c.close-in-Star.new.self.cells.now c.in-Star.is
    (star_shown (graph g s) n c.requires.entries e zero.new.self.cells.now c.close-in-Star.new.self.cells.now (closed_as zero.new.self.cells.now c.close-in-Star.new.self.cells.now _ _ (zero.ensures.place.entries ∙ copy.ensures.place.entries) c.close-in-Star.ensures.cells) first)

pub returns-in-Same-clause-cells : goal.returns-in-Same-clause-cells
returns-in-Same-clause-cells g c =
    let s = (goal.at.returns-in-Same-clause-cells g c).After-saturating_sub in
    let lt = ltb-true 0 c.args.q (stands g s Same c.in-Same.is) in
    shows g s Same c.keep_where.new.self.cells.now c.in-Same.is
    (same_shown (graph g s) c.args.self.now.n c.requires.entries _ _ _ c.keep_where.new.self.cells.now c.keep_where.ensures.cells (λ u v b k. search rules) (before g s lt))

pub returns-in-Differ-clause-cells : goal.returns-in-Differ-clause-cells
returns-in-Differ-clause-cells g c =
    let s = (goal.at.returns-in-Differ-clause-cells g c).After-saturating_sub in
    let lt = ltb-true 0 c.args.q (stands g s Differ c.in-Differ.is) in
    shows g s Differ c.keep_where-in-Differ.new.self.cells.now c.in-Differ.is
    (differ_shown (graph g s) c.args.self.now.n c.requires.entries _ _ _ c.keep_where-in-Differ.new.self.cells.now c.keep_where-in-Differ.ensures.cells (λ u v b k. search rules) (before g s lt))
