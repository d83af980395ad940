-- Of a pair one thing is told. Assumes nothing.
use Rattle.std.proofs.Common.{◌≡◌, ℕ, ◌≤◌, refl, ap, arith}
use Rattle.expressions.specs.Exprs.{Expr}
use Rattle.graphs.specs.Graphs.{Graph}
use Rattle.queries.specs.Meanings.{Told}
use Rattle.queries.specs.declared.found.Found.{Found}
use Rattle.queries.specs.declared.found.Found.TheVariants.{Steps, Long, Absent}

module _ (g : Graph) (e : Expr) (u v : ℕ) where
  pub one_told : (f h : Found) → Told g e u v f → Told g e u v h → f ≡ h
  one_told (Steps k) (Steps j) a b =
      let least : k ≤ j = rw (← b.1.2) (a.2 b.1.0 b.1.1) in
      let most : j ≤ k = rw (← a.1.2) (b.2 a.1.0 a.1.1) in
      ap Steps (omega arith)
  one_told (Steps k) Long a b = absurd (omega (arith, b.1 a.1.0 a.1.1, a.1.2, a.0))
  one_told (Steps k) Absent a b = absurd (b a.1.0 a.1.1)
  one_told Long (Steps k) a b = absurd (omega (arith, a.1 b.1.0 b.1.1, b.1.2, b.0))
  one_told Long Long a b = refl
  one_told Long Absent a b = absurd (b a.0.0 a.0.1)
  one_told Absent (Steps k) a b = absurd (a b.1.0 b.1.1)
  one_told Absent Long a b = absurd (a b.0.0 b.0.1)
  one_told Absent Absent a b = refl
