-- Tables that are filled block by block. Assumes nothing.
use Rattle.std.proofs.Common.{◌≡◌, ℕ, ◌+◌, ◌*◌, ◌<◌, ◌≤◌, ◌⊎◌, List, length, take, sym, ◌∙◌, subst, inl, inr, arith, get_or-take}
use Rattle.std.proofs.lemmas.Nat.{mul-add-lt}
use Rattle.std.proofs.lemmas.Bool.{cases_lt}
use borrow.Rule.Slice.PartMut.{put_mid}
use Rattle.expressions.specs.Numbering.{part_expr}
use Rattle.expressions.specs.declared.part.Part.{Part}
use Rattle.graphs.specs.Graphs.{Graph}
use Rattle.languages.specs.Algebra.{Cells}
use Rattle.languages.specs.Cells.{Cell, Lengths}
use Rattle.tables.specs.Blocks.{block_cell}
use Rattle.tables.specs.Layout.{start_of}
use Rattle.tables.specs.Tables.{Shows, AllShow, Filled}
use Rattle.tables.proofs.Rows.{row_end, length-over, over_before, over_in, over_behind}
use Rattle.tables.proofs.Shown.{block_next}

-- the front of a table, with all blocks that are filled
pub front_shown : (g : Graph) (parts : List Part) (q m : ℕ) (table : List ℕ) → start_of parts g.entries q ≤ m → AllShow g parts q table → AllShow g parts q (take m table)
front_shown g parts q m table le s k h u v p r =
    let b = row_end k (g.entries * g.entries) q h in
    let c = mul-add-lt u g.entries v g.entries p r in
    subst (Cell (Lengths g (part_expr parts k) u v)) (sym (get_or-take m table (start_of parts g.entries k + (u * g.entries + v)) 0 (omega arith))) (s k h u v p r)

-- one block more, among as many entries as the graph has
filled_own : (g : Graph) (parts : List Part) (q : ℕ) (table₀ table block : List ℕ) → Filled g parts q table₀ table → length block ≡ g.entries * g.entries → start_of parts g.entries (q + 1) ≤ length table → Cells g.entries (Lengths g (part_expr parts q)) (block_cell g.entries block) → Filled g parts (q + 1) table₀ (put_mid (start_of parts g.entries q) (g.entries * g.entries) table block)
filled_own g parts q table₀ table block f square room shown = record {
  kept = length-over (start_of parts g.entries q) (g.entries * g.entries) table block (omega arith) square ∙ f.kept;
  cells = λ k h. by_part k (cases_lt k q) h;
  behind = λ i h. over_behind (start_of parts g.entries q) (g.entries * g.entries) i table block (omega arith) (omega arith) square ∙ f.behind i (omega arith);
}
  where
    next : start_of parts g.entries (q + 1) ≡ start_of parts g.entries q + g.entries * g.entries
    next = block_next q (g.entries * g.entries)

    by_part : (k : ℕ) → (k < q) ⊎ (q ≤ k) → k < q + 1 → Shows g parts (put_mid (start_of parts g.entries q) (g.entries * g.entries) table block) k
    by_part k (inl lt) h =
        λ u v p r.
        let b = row_end k (g.entries * g.entries) q lt in
        let c = mul-add-lt u g.entries v g.entries p r in
        subst (Cell (Lengths g (part_expr parts k) u v)) (sym (over_before (start_of parts g.entries q) (g.entries * g.entries) (start_of parts g.entries k + (u * g.entries + v)) table block (omega arith) (omega arith))) (f.cells k lt u v p r)
    by_part k (inr ge) h =
        let is : q ≡ k = omega arith in
        subst (Shows g parts (put_mid (start_of parts g.entries q) (g.entries * g.entries) table block)) is
        (λ u v p r.
        let c = mul-add-lt u g.entries v g.entries p r in
        subst (Cell (Lengths g (part_expr parts q) u v)) (sym (over_in (start_of parts g.entries q) (g.entries * g.entries) (u * g.entries + v) table block (omega arith) (omega arith))) (shown u v p r))

pub filled_more : (g : Graph) (n : ℕ) → n ≡ g.entries → (parts : List Part) (q : ℕ) (table₀ table block cells : List ℕ) → Filled g parts q table₀ table → length block ≡ n * n → start_of parts n (q + 1) ≤ length table → Cells n (Lengths g (part_expr parts q)) (block_cell n cells) → block ≡ cells → Filled g parts (q + 1) table₀ (put_mid (start_of parts n q) (n * n) table block)
filled_more g n eq parts q table₀ table block cells f square room shown is =
    subst (λ m. length block ≡ m * m → start_of parts m (q + 1) ≤ length table → Cells m (Lengths g (part_expr parts q)) (block_cell m block) → Filled g parts (q + 1) table₀ (put_mid (start_of parts m q) (m * m) table block)) (sym eq) (filled_own g parts q table₀ table block f) square room
    (subst (λ b. Cells n (Lengths g (part_expr parts q)) (block_cell n b)) (sym is) shown)
