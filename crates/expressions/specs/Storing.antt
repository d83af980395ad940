-- What is stored of an expression. Assumes nothing.
use Rattle.std.specs.Prelude.{◌≡◌, ◌-◌, List, length, take}
use Rattle.expressions.specs.declared.part.Part.{Part}
use Rattle.expressions.specs.declared.part.Parts.{Parts}
use Rattle.expressions.specs.Exprs.{Expr}
use Rattle.expressions.specs.Numbering.{parts_from, part_expr}

-- the parts that are stored, in their order
abbrev pub parts_of : Parts → List Part
parts_of s = take s.count s.list

-- an expression is stored: its parts in their order, and the last of them stands for it
pub record Stored (e : Expr) (s : Parts) : Type 0 where
  pub parts : parts_of s ≡ parts_from 0 e
  pub decodes : part_expr (parts_of s) (length (parts_of s) - 1) ≡ e
