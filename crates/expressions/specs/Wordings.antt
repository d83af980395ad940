-- What the reading of a wording answers. Assumes nothing.
use Rattle.std.specs.Prelude.{◌≡◌, ℕ, ◌<◌, ◌≤◌, List, ◌++◌, length, take, Ok, Err, Result}
use Rattle.refusals.specs.Table.{number, place}
use Rattle.refusals.specs.declared.Refusal.{Refusal}
use Rattle.refusals.specs.declared.Refusal.TheVariants.{WordingTooLong, NotAnExpression, TooManyParts}
use Rattle.expressions.specs.declared.part.Parts.{Parts}
use Rattle.expressions.specs.Exprs.{Expr, size}
use Rattle.expressions.specs.Grammar.{most_bytes, most_parts, Expression}
use Rattle.expressions.specs.Storing.{Stored}

-- the text stands for an expression, and for no other
pub record Means (t : List ℕ) (e : Expr) : Type 0 where
  pub stands : Expression t e
  pub only : (f : Expr) → Expression t f → f ≡ e

-- some expression, of any length, begins with the text
abbrev pub Begins : List ℕ → Type 0
Begins t = (more : List ℕ) × (e : Expr) × Expression (t ++ more) e

-- the text stands for no expression, and its longest beginning that some expression has is so many bytes long
pub record Fails (t : List ℕ) (at : ℕ) : Type 0 where
  pub no_expression : (e : Expr) → Expression t e → ⊥
  pub within : at ≤ length t
  pub begins : Begins (take at t)
  pub longest : (k : ℕ) → at < k → k ≤ length t → Begins (take k t) → ⊥

-- a wording is that of an expression, and both keep the limits
pub record Worded (t : List ℕ) (e : Expr) : Type 0 where
  pub means : Means t e
  pub short : length t ≤ most_bytes
  pub few : size e ≤ most_parts

-- a wording is accepted: it is that of an expression, which is stored
pub record Accepted (t : List ℕ) (parts : Parts) : Type 0 where
  pub expr : Expr
  pub worded : Worded t expr
  pub stored : Stored expr parts

-- a wording is refused, by the first of these that applies: the case, its number and its place
pub data RefusedAs (t : List ℕ) : Refusal → ℕ → ℕ → Type 0 where
  too_long : most_bytes < length t → RefusedAs t WordingTooLong 23 0
  no_expression : {at : ℕ} → length t ≤ most_bytes → Fails t at → RefusedAs t (NotAnExpression at) 21 at
  too_many_parts : {e : Expr} → length t ≤ most_bytes → Means t e → most_parts < size e → RefusedAs t TooManyParts 22 0

-- a wording is refused so
abbrev pub Refused : List ℕ → Refusal → Type 0
Refused t x = RefusedAs t x (number x) (place x)

-- the answer says what is so
abbrev pub Parsed : List ℕ → Result Parts Refusal → Type 0
Parsed t (Ok parts) = Accepted t parts
Parsed t (Err x) = Refused t x

-- and it comes wherever it is due: an expression within the limits is accepted and stored, and what is to be refused is refused so
pub record Decided (t : List ℕ) (r : Result Parts Refusal) : Type 0 where
  pub accepted : (e : Expr) → Expression t e → length t ≤ most_bytes → size e ≤ most_parts → (parts : Parts) × (r ≡ Ok parts) × Stored e parts
  pub refused : (x : Refusal) → Refused t x → r ≡ Err x
