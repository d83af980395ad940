-- What cells tell is so, by data paths. Assumes nothing.
use Rattle.std.proofs.Common.{◌≡◌, ℕ, ◌-◌, ◌<◌, ◌≤◌, inl, inr, min, List, [], ◌++◌, length, drop, Some, None, Ok, Err, Option, Result, MatchResult, OnOk, refl, sym, ap, ap₂, ◌∙◌, subst, arith}
use Rattle.std.proofs.lemmas.Bool.{cases_lt, cases_order}
use Rattle.std.proofs.lemmas.Bool.Decides.{nat_tests}
use Rattle.expressions.specs.Exprs.{Expr}
use Rattle.expressions.specs.Storing.{parts_of}
use Rattle.expressions.specs.Wordings.{Accepted, Refused}
use Rattle.expressions.specs.Wordings as wordings
use Rattle.expressions.specs.declared.part.Parts.{Parts}
use Rattle.tables.specs.Layout.{cells_needed}
use Rattle.tables.specs.Tables.{AllShow, Filled}
use Rattle.graphs.specs.Graphs.{Graph}
use Rattle.languages.specs.Algebra.{Cells}
use Rattle.languages.specs.Cells.{Cell, Lengths, long}
use Rattle.languages.specs.Languages.{Joined}
use Rattle.languages.specs.declared.step.Step.{Step}
use Rattle.refusals.proofs.Numbered.{one_refusal, accepted_by}
use Rattle.refusals.specs.Rows.{Row, first_refusal, ByRows}
use Rattle.refusals.specs.Table.{numbered}
use Rattle.refusals.specs.declared.Refusal.{Refusal}
use Rattle.refusals.specs.declared.Refusal.TheVariants.{NoPath, OnlyLongPaths, StepsTooShort}
use Rattle.traces.proofs.Joins.{chosen_joins}
use Rattle.traces.proofs.Pieces.{exact}
use Rattle.traces.specs.Tracing.{path_rows, TakenBy}
use Rattle.queries.specs.declared.condition.Condition.{Condition}
use Rattle.queries.specs.declared.condition.Condition.TheVariants.{Blank, Parsed, Evaluated}
use Rattle.queries.specs.declared.found.Found.{Found}
use Rattle.queries.specs.declared.found.Found.TheVariants.{Steps, Long, Absent}
use Rattle.queries.specs.Calls.{found_in, Follows, Parses, Evaluates, Traces, trace_rows}
use Rattle.queries.specs.Conditions.{evaluated, expr_in, whole_cell}
use Rattle.queries.specs.Taking.{chosen_in}
use Rattle.queries.specs.Meanings.{Told, Led, Meant}
use Rattle.queries.specs.Pairs.{After, First, Reaches, tallied}
use Rattle.queries.proofs.Among.{among, pair_within}
use Rattle.queries.proofs.Listing.{first_joined, pairs_counted, pairs_listed}
use Rattle.queries.proofs.Tracing.{taken_by, absent, only_long, no_room, accepted, c, found, rows_as}

module _ (g : Graph) (e : Expr) (u v c : ℕ) (h : Cell (Lengths g e u v) c) where
  no_shorter : (s : List Step) → Joined g e u v s → c ≤ min (length s) long
  no_shorter s j = h.least (length s) (s, j, refl)

  steps_told : c < long → Told g e u v (Steps c)
  steps_told lt = (lt, exact h lt, λ s j. omega (arith, no_shorter s j))

  long_told : c ≡ long → Told g e u v Long
  long_told is = let w = h.some (omega arith) in ((w.1.0, w.1.1), λ s j. omega (arith, no_shorter s j))

  absent_told : long < c → Told g e u v Absent
  absent_told gt s j = omega (arith, no_shorter s j)

  pub cell_told : Told g e u v (found_in c)
  cell_told = grind (arith, nat_tests, steps_told, long_told, absent_told)

-- over a filled table the cell of the whole is that of the expression, and the steps that the cells choose are those of a path in its language
module _ (g : Graph) (p : Parts) (t : List ℕ) (shown : AllShow g (parts_of p) (length (parts_of p)) t) (u v : ℕ) (hu : u < g.entries) (hv : v < g.entries) where
  pub whole_shown : Cell (Lengths g (expr_in (evaluated (Parsed p) g.entries)) u v) (whole_cell (evaluated (Parsed p) g.entries) t u v)
  whole_shown = shown (length (parts_of p) - 1) (omega (arith, p.some)) u v hu hv

  pub whole_joins : whole_cell (evaluated (Parsed p) g.entries) t u v < long → (s : List Step) × (chosen_in (evaluated (Parsed p) g.entries) t u v ≡ Some s) × Joined g (expr_in (evaluated (Parsed p) g.entries)) u v s × (length s ≡ whole_cell (evaluated (Parsed p) g.entries) t u v)
  whole_joins = chosen_joins g (parts_of p) t p.formed shown (length (parts_of p) - 1) u v (omega (arith, p.some)) hu hv

module _ (g : Graph) (p : Parts) (t : List ℕ) (room : cells_needed (parts_of p) g.entries ≤ length t) (shown : AllShow g (parts_of p) (length (parts_of p)) t) (u v : ℕ) (hu : u < g.entries) (hv : v < g.entries) where
  abbrev e : Expr
  e = expr_in (evaluated (Parsed p) g.entries)

  abbrev k : ℕ
  k = c p g.entries t u v hu hv room

  abbrev Taking : List Step → List Step → Result ℕ Refusal → Type 0
  Taking steps steps' r = TakenBy (trace_rows (evaluated (Parsed p) g.entries) t u v (length steps) (found p g.entries t u v hu hv room)) k (found p g.entries t u v hu hv room) steps steps' r

  -- where a row refuses a trace of the pair, its answer is that refusal
  module _ (steps steps' : List Step) where
    refused : (x : Refusal) (r : Result ℕ Refusal) → Taking steps steps' r → first_refusal (path_rows k (length steps) (found p g.entries t u v hu hv room)) ≡ Some (numbered x) → (r ≡ Err x) × (steps' ≡ steps)
    refused x (Ok j) w e = absurd (let h = rows_as p g.entries t u v hu hv room (length steps) in cc)
    refused x (Err y) w e = (let h = rows_as p g.entries t u v hu hv room (length steps) in ap Err (one_refusal _ y x (sym h ∙ w.0) e), w.1)

    -- a path of the count, where there is room for it
    written : (r : Result ℕ Refusal) → Taking steps steps' r → k < long → Led g e u v steps steps' r (Steps k)
    written r w h = elim (cases_lt (length steps) k) [
      | inl less ↦ (let z = refused StepsTooShort r w (no_room k (length steps) _ h less) in rw z.0 (less, refl, z.1))
      | inr more ↦ fits r w more
    ]
      where
        j : (s : List Step) × (found p g.entries t u v hu hv room ≡ Some s) × Joined g e u v s × (length s ≡ k)
        j = whole_joins g p t shown u v hu hv h

        fits : (r : Result ℕ Refusal) → Taking steps steps' r → k ≤ length steps → Led g e u v steps steps' r (Steps k)
        fits (Ok i) w more = (
          more,
          w.1,
          let s : w.2.path ≡ j.0 = (let a = w.2.are in let b = j.1 in cc) in record {
            path = j.0;
            joins = j.2;
            count = j.3;
            stands = w.2.written ∙ ap₂ (λ (x : List Step) (i : ℕ). x ++ drop i steps) s w.1;
          },
        )
        fits (Err x) w more = absurd (let a = accepted k (length steps) (found p g.entries t u v hu hv room) j.0 h more j.1 in let b = rows_as p g.entries t u v hu hv room (length steps) in cc)

  -- over a filled table every trace goes by what is so
  led : (steps steps' : List Step) (r : Result ℕ Refusal) → Traces (evaluated (Parsed p) g.entries) t u v steps steps' r → (f : Found) × Told g e u v f × Led g e u v steps steps' r f
  led steps steps' r z =
      let w = taken_by p g.entries t u v steps steps' r z in
      let h = whole_shown g p t shown u v hu hv in
      elim (cases_order k long) [
        | inl same ↦ (Long, long_told g e u v k h same, let z = refused steps steps' OnlyLongPaths r w (only_long k (length steps) _ same) in ((z.0, refl), z.1))
        | inr (inl less) ↦ (Steps k, steps_told g e u v k h less, written steps steps' r w less)
        | inr (inr more) ↦ (Absent, absent_told g e u v k h more, let z = refused steps steps' NoPath r w (absent k (length steps) _ more) in ((z.0, refl), z.1))
      ]

-- what a trace is refused by, whatever it writes
taken_rows : (rows : List Row) (k : ℕ) (o : Option (List Step)) (steps steps' : List Step) (r : Result ℕ Refusal) → TakenBy rows k o steps steps' r → ByRows rows r (λ _. Unit {0})
taken_rows rows k o steps steps' (Ok j) w = (w.0, tt)
taken_rows rows k o steps steps' (Err x) w = w.0

-- over a filled table every question is answered by what is so
module _ (g : Graph) (p : Parts) (t : List ℕ) (room : cells_needed (parts_of p) g.entries ≤ length t) (shown : AllShow g (parts_of p) (length (parts_of p)) t) where
  abbrev q : Condition
  q = evaluated (Parsed p) g.entries

  abbrev d : ℕ → ℕ → ℕ
  d = whole_cell q t

  cells : Cells g.entries (Lengths g (expr_in q)) d
  cells = whole_shown g p t shown

  meant_over : Meant g (expr_in q) q t
  meant_over = record {
    lookups = λ u v r l. among p g.entries t room (Some (u, v)) r [] (λ f. f ≡ found_in (d u v)) l _
        (λ o b. let i = pair_within g.entries u v o in accepted_by r _ _ (λ f is. rw is (cell_told g (expr_in q) u v (d u v) (cells u v i.0 i.1))) b);
    traces = λ u v steps steps' r w.
        let found = chosen_in q t u v in
        let rows = trace_rows q t u v (length steps) found in
        let z : TakenBy rows (d u v) found steps steps' r = taken_by p g.entries t u v steps steps' r w in
        among p g.entries t room (Some (u, v)) r (path_rows (d u v) (length steps) found) (λ _. Unit {0}) (taken_rows rows (d u v) found steps steps' r z) _
        (λ o b. let i = pair_within g.entries u v o in led g p t room shown u v i.0 i.1 steps steps' r w);
    nexts = λ given r l. among p g.entries t room given r [] (First (After given) g.entries (Reaches d)) l _
        (λ o b. accepted_by r _ _ (first_joined g (expr_in q) d cells (After given)) b);
    tallies = λ r l. among p g.entries t room None r [] (λ k. k ≡ tallied d g.entries g.entries) l _
        (λ o b. accepted_by r _ _ (λ k is. rw is (pairs_counted g (expr_in q) d cells)) b);
    listed = pairs_listed g (expr_in q) d cells;
  }

meant_by : (g : Graph) (p : Parts) (t : List ℕ) (q' : Condition) (t' : List ℕ) → q' ≡ evaluated (Parsed p) g.entries → cells_needed (parts_of p) g.entries ≤ length t → Filled g (parts_of p) (length (parts_of p)) t t' → Meant g (expr_in q') q' t'
meant_by g p t q' t' e room f =
    let enough : cells_needed (parts_of p) g.entries ≤ length t' = omega (arith, f.kept) in
    subst (λ q. Meant g (expr_in q) q t') (sym e) (meant_over g p t' enough f.cells)

-- so after an accepted evaluation
pub evaluates_meant : (q : Condition) (g : Graph) (t : List ℕ) (q' : Condition) (t' : List ℕ) (r : Result Unit Refusal) → Evaluates q g t q' t' r → OnOk r (Meant g (expr_in q') q' t')
evaluates_meant Blank g t q' t' (Ok done) e = absurd (let z : ◌≡◌ {A = ℕ} 0 1 = cc e.0 in omega arith)
evaluates_meant (Parsed p) g t q' t' (Ok done) e = meant_by g p t q' t' e.1 (grind (arith, nat_tests)) e.2
evaluates_meant (Evaluated b) g t q' t' (Ok done) e = meant_by g b.parts t q' t' e.1 (grind (arith, nat_tests)) e.2
evaluates_meant q g t q' t' (Err x) e = tt

-- an accepted parse stores the wording's parts, and a refused one changes nothing
pub parse_told : (q : Condition) (text : List ℕ) (q' : Condition) (r : Result Unit Refusal) → Parses q text q' r → MatchResult r (λ _. (parts : Parts) × Accepted text parts × (q' ≡ Parsed parts)) (λ x. Refused text x × (q' ≡ q))
parse_told q text q' r p = told p.judged r p.parsed p.follows
  where
    told : (j : Result Parts Refusal) (r : Result Unit Refusal) → wordings.Parsed text j → Follows q j q' r → MatchResult r (λ _. (parts : Parts) × Accepted text parts × (q' ≡ Parsed parts)) (λ x. Refused text x × (q' ≡ q))
    told (Ok parts) (Ok done) a f = (parts, a, f.0)
    told (Ok parts) (Err x) a f = absurd (cc f.1)
    told (Err y) (Ok done) a f = absurd (cc f.1)
    told (Err y) (Err x) a f = let e : y ≡ x = cc f.1 in (rw (← e) a, f.0)
