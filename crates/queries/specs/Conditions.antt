-- What the condition of a query tells. Assumes nothing.
use Rattle.std.specs.Prelude.{◌≡◌, ℕ, ◌-◌, Bool, true, false, List, [], length, None, Option}
use Rattle.expressions.specs.Exprs.{Expr}
use Rattle.expressions.specs.Numbering.{part_expr}
use Rattle.expressions.specs.Storing.{parts_of}
use Rattle.expressions.specs.declared.part.Part.{Part}
use Rattle.languages.specs.declared.step.Step.{Step}
use Rattle.tables.specs.Layout.{cell_at}
use Rattle.traces.specs.Choosing.{whole_count}
use Rattle.traces.specs.Leading.{Leads}
use Rattle.queries.specs.declared.condition.Condition.{Condition}
use Rattle.queries.specs.declared.condition.Condition.TheVariants.{Blank, Parsed, Evaluated}

abbrev pub is_blank : Condition → Bool
is_blank Blank = true
is_blank (Parsed p) = false
is_blank (Evaluated e) = false

abbrev pub is_evaluated : Condition → Bool
is_evaluated Blank = false
is_evaluated (Parsed p) = false
is_evaluated (Evaluated e) = true

-- the parts that are stored, in their order; a blank query has none
abbrev pub list_in : Condition → List Part
list_in Blank = []
list_in (Parsed p) = parts_of p
list_in (Evaluated e) = parts_of e.parts

-- how many parts there are
abbrev pub count_in : Condition → ℕ
count_in q = length (list_in q)

-- how many entries it was evaluated over; 0 before that
abbrev pub entries_in : Condition → ℕ
entries_in Blank = 0
entries_in (Parsed p) = 0
entries_in (Evaluated e) = e.entries

-- the condition once the parts are evaluated over so many entries
abbrev pub evaluated : Condition → ℕ → Condition
evaluated Blank n = Blank
evaluated (Parsed p) n = Evaluated (record { parts = p; entries = n })
evaluated (Evaluated e) n = Evaluated (record { parts = e.parts; entries = n })

-- the expression: that of the last part
abbrev pub expr_in : Condition → Expr
expr_in q = part_expr (list_in q) (count_in q - 1)

-- the cell of u and v for the whole expression
abbrev pub whole_cell : Condition → List ℕ → ℕ → ℕ → ℕ
whole_cell q table u v = whole_count (list_in q) table (entries_in q) u v

-- the steps that the cells lead to for the whole expression, if to any
abbrev pub LeadsIn : Condition → List ℕ → ℕ → ℕ → Option (List Step) → Type 0
LeadsIn Blank table u v found = found ≡ None
LeadsIn (Parsed p) table u v found = found ≡ None
LeadsIn (Evaluated e) table u v found = Leads (parts_of e.parts) (cell_at (parts_of e.parts) table e.entries) e.entries (length (parts_of e.parts) - 1) u v found
