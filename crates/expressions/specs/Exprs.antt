-- Regular expressions with equality. Assumes nothing.
use Rattle.std.specs.Prelude.{ℕ, ◌+◌}

-- the eight forms
pub data Expr : Type 0 where
  epsilon : Expr
  letter : ℕ → Expr
  either : Expr → Expr → Expr
  join : Expr → Expr → Expr
  plus : Expr → Expr
  star : Expr → Expr
  same : Expr → Expr
  differ : Expr → Expr

-- how many parts an expression has: one for itself, and those of the expressions that it is made of
abbrev pub size : Expr → ℕ
size epsilon = 1
size (letter c) = 1
size (either a b) = size a + size b + 1
size (join a b) = size a + size b + 1
size (plus a) = size a + 1
size (star a) = size a + 1
size (same a) = size a + 1
size (differ a) = size a + 1
