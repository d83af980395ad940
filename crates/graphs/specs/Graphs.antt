-- What a source means: a graph. Assumes nothing.
use Rattle.std.specs.Prelude.{◌≡◌, ℕ, ◌<◌, ◌≤◌, Bool, true, false, List, length, Some, None, Option, slice_get, slice_index_or}
use Rattle.graphs.specs.declared.link.Link.{Link}
use Rattle.graphs.specs.Links.{sound}

-- how many entries there are, which two of them hold the same value, and what each place holds: a link, or `None`
pub record Graph : Type 0 where
  pub entries : ℕ
  pub same : ℕ → ℕ → Bool
  pub places : List (Option Link)

-- the link at a place; past the list there is nothing
abbrev pub link_at : Graph → ℕ → Option Link
link_at g k = slice_index_or g.places k None

-- what makes a graph lawful: among its entries sameness obeys the three laws, of any other number it says no, and every link that it holds stands among its entries
pub record Lawful (g : Graph) : Type 0 where
  pub reflexive : (u : ℕ) → u < g.entries → g.same u u ≡ true
  pub symmetric : (u v : ℕ) → g.same u v ≡ true → g.same v u ≡ true
  pub transitive : (u v w : ℕ) → g.same u v ≡ true → g.same v w ≡ true → g.same u w ≡ true
  pub outside_left : (u v : ℕ) → g.entries ≤ u → g.same u v ≡ false
  pub outside_right : (u v : ℕ) → g.entries ≤ v → g.same u v ≡ false
  pub links : (k : ℕ) (l : Link) → link_at g k ≡ Some l → sound g.entries l ≡ true

-- the value of an entry
abbrev pub value_at : {V : Type 0} → List V → ℕ → Option V
value_at values u = slice_get values u

-- whether there are two values, and they are the same
abbrev pub both_same : {V : Type 0} → (V → V → Bool) → Option V → Option V → Bool
both_same alike None y = false
both_same alike (Some x) None = false
both_same alike (Some x) (Some y) = alike x y

-- the graph whose entries hold some values, and whose places are given
abbrev pub valued : {V : Type 0} → (V → V → Bool) → List V → List (Option Link) → Graph
valued alike values places = record { entries = length values; same = λ u v. both_same alike (value_at values u) (value_at values v); places = places }
