-- How a query and its table stand to what the calls have come to. Assumes nothing.
use Rattle.std.proofs.Common.{◌≡◌, ℕ, List}
use Rattle.expressions.specs.Exprs.{Expr}
use Rattle.expressions.specs.Storing.{Stored}
use Rattle.expressions.specs.declared.part.Parts.{Parts}
use Rattle.graphs.specs.Graphs.{Graph}
use Rattle.queries.specs.Conditions.{evaluated as evaluated_as}
use Rattle.queries.specs.Meanings.{Meant}
use Rattle.queries.specs.declared.condition.Condition.{Condition}
use Rattle.queries.specs.declared.condition.Condition.TheVariants.{Blank, Parsed}
use Rattle.runs.specs.Laws.{Standing, blank, parsed, evaluated}

-- the query holds the parts of the expression, and the answers over the table mean what they shall
pub record Shown (e : Expr) (g : Graph) (q : Condition) (t : List ℕ) : Type 0 where
  pub parts : Parts
  pub holds : q ≡ evaluated_as (Parsed parts) g.entries
  pub stored : Stored e parts
  pub meant : Meant g e q t

abbrev pub Stands : Standing → Condition → List ℕ → Type 0
Stands blank q t = q ≡ Blank
Stands (parsed e) q t = (p : Parts) × (q ≡ Parsed p) × Stored e p
Stands (evaluated e g) q t = Shown e g q t
