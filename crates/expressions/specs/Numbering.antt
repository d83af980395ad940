-- The numbering of parts: which parts an expression is stored as, and which expression each of some parts stands for. Assumes nothing.
use Rattle.std.specs.Prelude.{ℕ, ◌+◌, ◌-◌, Bool, true, ◌&&◌, List, [], ◌∷◌, ◌++◌, length, nat_lt, slice_index_or}
use Rattle.expressions.specs.declared.part.Part.{Part}
use Rattle.expressions.specs.declared.part.Part.TheVariants.{Epsilon, Letter, Either, Join, Plus, Star, Same, Differ}
use Rattle.expressions.specs.Exprs.{Expr, epsilon, letter, either, join, plus, star, same, differ, size}

-- the parts of an expression, numbered from k: those of what it is made of, the left before the right, and at last its own
unfoldable pub parts_from : ℕ → Expr → List Part
parts_from k epsilon = Epsilon ∷ []
parts_from k (letter c) = Letter c ∷ []
parts_from k (either a b) = parts_from k a ++ (parts_from (k + size a) b ++ (Either (k + size a - 1) ∷ []))
parts_from k (join a b) = parts_from k a ++ (parts_from (k + size a) b ++ (Join (k + size a - 1) ∷ []))
parts_from k (plus a) = parts_from k a ++ (Plus ∷ [])
parts_from k (star a) = parts_from k a ++ (Star ∷ [])
parts_from k (same a) = parts_from k a ++ (Same ∷ [])
parts_from k (differ a) = parts_from k a ++ (Differ ∷ [])

-- the expression of part q, by those of the parts before it: a sign stands behind the part just before, which is also the right half of two
abbrev pub made : (ℕ → Expr) → ℕ → Part → Expr
made before q Epsilon = epsilon
made before q (Letter c) = letter c
made before q (Either left) = either (before left) (before (q - 1))
made before q (Join left) = join (before left) (before (q - 1))
made before q Plus = plus (before (q - 1))
made before q Star = star (before (q - 1))
made before q Same = same (before (q - 1))
made before q Differ = differ (before (q - 1))

-- the expression of a number (`epsilon` past the end)
abbrev pub expr_at : List Expr → ℕ → Expr
expr_at es k = slice_index_or es k epsilon

-- the expressions of some parts, one for each, where those of the parts before them are given
unfoldable pub exprs_after : List Expr → List Part → List Expr
exprs_after es [] = es
exprs_after es (x ∷ xs) = exprs_after (es ++ (made (expr_at es) (length es) x ∷ [])) xs

-- the expression of part q of some parts
abbrev pub part_expr : List Part → ℕ → Expr
part_expr parts q = expr_at (exprs_after [] parts) q

-- part q is made of parts before it
abbrev pub stands_on : ℕ → Part → Bool
stands_on q Epsilon = true
stands_on q (Letter c) = true
stands_on q (Either left) = nat_lt (left + 1) q
stands_on q (Join left) = nat_lt (left + 1) q
stands_on q Plus = nat_lt 0 q
stands_on q Star = nat_lt 0 q
stands_on q Same = nat_lt 0 q
stands_on q Differ = nat_lt 0 q

-- each of some parts, numbered from q, is made of parts before it
abbrev pub well_formed : ℕ → List Part → Bool
well_formed q [] = true
well_formed q (x ∷ xs) = stands_on q x && well_formed (q + 1) xs
