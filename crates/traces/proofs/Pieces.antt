-- Repeats, whose first piece may be taken to have steps; and cells below 1,000. Assumes nothing.
use Rattle.std.proofs.Common.{◌≡◌, ℕ, ◌+◌, ◌<◌, ◌≤◌, ◌⊎◌, inl, inr, List, [], ◌∷◌, length, sym, subst, length-append, arith}
use Rattle.expressions.specs.Exprs.{Expr}
use Rattle.graphs.specs.Graphs.{Graph}
use Rattle.languages.specs.declared.step.Step.{Step}
use Rattle.languages.specs.Cells.{Cell, long}
use Rattle.languages.specs.Languages.{Pieces, In, Joined}
use Rattle.languages.specs.Paths.{Path, end}
use Rattle.languages.proofs.Walks.{path_start, path_cut}

-- a first piece that has steps, and the pieces after it
pub record Cut (g : Graph) (e : Expr) (u v l : ℕ) : Type 0 where
  pub middle : ℕ
  pub one : List Step
  pub rest : List Step
  pub low : middle < g.entries
  pub first : Joined g e u middle one
  pub on : Path g middle rest v
  pub are : Pieces (In g e) middle rest
  pub sum : length one + length rest ≡ l
  pub some : 1 ≤ length one

-- a piece of no steps can be left out
pub pieces_cut : (g : Graph) (e : Expr) (v : ℕ) {u : ℕ} {s : List Step} → Pieces (In g e) u s → Path g u s v → In g e u s ⊎ Cut g e u v (length s)
pieces_cut g e v (Pieces.one i) p = inl i
pieces_cut g e v (Pieces.more {s = []} i r) p = pieces_cut g e v r p
pieces_cut g e v (Pieces.more {u = u} {s = x ∷ s} {t = t} i r) p =
    let c = path_cut g u v (x ∷ s) t p in
    inr (record {
      middle = end u (x ∷ s);
      one = x ∷ s;
      rest = t;
      low = path_start g (end u (x ∷ s)) v t c.1;
      first = (c.0, i);
      on = c.1;
      are = r;
      sum = sym (length-append (x ∷ s) t);
      some = omega arith;
    })

-- a cell below 1,000 is one of the numbers, and none is less
pub exact : {S : ℕ → Type 0} {c : ℕ} → Cell S c → c < long → S c
exact {S} {c} x h =
    let w = x.some (omega arith) in
    let e : w.0 ≡ c = omega (arith, w.2) in
    subst S e w.1

pub no_less : {S : ℕ → Type 0} {c : ℕ} → Cell S c → (l : ℕ) → S l → c ≤ l
no_less x l s = omega (arith, x.least l s)
