-- What comes of asking, from what the steps say. Assumes nothing.
use Rattle.std.proofs.Common.{◌≡◌, ℕ, ◌<◌, ◌≤◌, Bool, false, nat_lt, List, length, Some, None, Option, Ok, Err, Result, is_none, refl, ap, ◌∙◌, subst, ⊎_elim, arith}
use Rattle.std.proofs.lemmas.Bool.{le-ltb}
use Rattle.std.proofs.lemmas.Bool.Decides.{nat_tests}
use Rattle.std.proofs.lemmas.List.{length-map}
use Rattle.std.specs.Bool.{MatchBool}
use Rattle.expressions.specs.Exprs.{Expr}
use Rattle.expressions.specs.Storing.{parts_of}
use Rattle.expressions.specs.Wordings.{Accepted}
use Rattle.expressions.specs.declared.part.Parts.{Parts}
use Rattle.graphs.specs.Graphs.{Graph}
use Rattle.languages.specs.Cells.{long}
use Rattle.languages.specs.Languages.{Joined}
use Rattle.languages.specs.declared.step.Step.{Step}
use Rattle.queries.specs.Calls.{evaluate_rows, found_in, outside, pair_rows, Parses, Evaluates}
use Rattle.queries.specs.Conditions.{entries_in, expr_in, whole_cell}
use Rattle.queries.specs.Meanings.{Told, Counted, Meant}
use Rattle.queries.specs.Pairs.{tallied}
use Rattle.queries.specs.Taking.{chosen_in}
use Rattle.queries.specs.declared.condition.Condition.{Condition}
use Rattle.queries.specs.declared.condition.Condition.TheVariants.{Parsed}
use Rattle.refusals.specs.Rows.{first_refusal}
use Rattle.refusals.specs.Table.{numbered}
use Rattle.refusals.specs.declared.Refusal.{Refusal}
use Rattle.refusals.specs.declared.Refusal.TheVariants.{TableTooShort}
use Rattle.tables.specs.Layout.{cells_needed, cells_for}
use Rattle.queries.proofs.Meaning.{whole_joins, parse_told}
use Rattle.asking.specs.Answers.{Listed}
use Rattle.asking.specs.Input.{most_input, program_cells, wording, book_file}
use Rattle.asking.specs.Asking.{BookIn, kind_in, by_file, by_room}
use Rattle.asking.specs.Chosen.{Unaltered, LinesWithin, steps_of}
use Rattle.asking.specs.declared.room.TheConstants.{LINE}
use Rattle.asking.specs.Tells.{Worked, Asked, AskedWell, listing_text}
use Rattle.asking.proofs.Listing.{lines_told}
use Rattle.asking.proofs.Paths.{path_traced}
use Rattle.asking.proofs.Sizes.{path_within, pair_within}

-- an accepted wording needs as many cells as its expression
needs : {t : List ℕ} {parts : Parts} (a : Accepted t parts) (g : Graph) → cells_needed (parts_of parts) g.entries ≡ cells_for a.expr g.entries
needs a g = ap (λ parts. cells_needed parts g.entries) a.stored.parts

-- a book for which there is room has few entries
few_entries : (file : List ℕ) (g : Graph) → BookIn file g → g.entries ≤ 16
few_entries file g b =
    let size = length-map b.values (kind_in file).encoded in
    rw (ap (λ x. x.entries) b.graph) (omega (arith, b.fits.entries, size))

-- so a refused evaluation lacks cells, and an accepted one has them
lacks : (n p room : ℕ) (parts : Parts) (g : Graph) (t : List ℕ) (x : Refusal) → g.entries ≤ 16 → length t ≡ room → cells_needed (parts_of parts) g.entries ≡ p → first_refusal (evaluate_rows (Parsed parts) g t) ≡ Some (numbered x) → (x ≡ TableTooShort) × (room < p)
lacks n p room parts g t x few z e r = grind (arith, nat_tests)

has : (p room : ℕ) (parts : Parts) (g : Graph) (t : List ℕ) → length t ≡ room → cells_needed (parts_of parts) g.entries ≡ p → first_refusal (evaluate_rows (Parsed parts) g t) ≡ None → p ≤ room
has p room parts g t z e r = grind (arith, nat_tests)

pub asked_by : (input t t' : List ℕ) (parts : Parts) (q' : Condition) (r : Result ℕ Refusal) → length t ≡ program_cells → length input ≤ most_input → Accepted (wording input) parts → Worked (book_file input) (Parsed parts) t q' t' r → Asked input t q' t' r
asked_by input t t' parts q' (Ok n) z h a w = record { short = h; parts = parts; accepted = a; worked = w }
asked_by input t t' parts q' (Err x) z h a w =
    ⊎_elim (λ f. by_file h a.worded f)
    (λ p.
    let few = few_entries (book_file input) p.0 p.1 in
    let l = lacks 0 _ _ parts p.0 t x few z (needs a p.0) p.2 in
    rw l.0 (by_room p.0 h a.worded p.1 l.1))
    w

-- the book has few entries
pub few_by : (input t t' : List ℕ) (q' : Condition) (n : ℕ) → AskedWell input t q' t' n → n ≤ 16
few_by input t t' q' n a =
    let b = a.worked in
    let few = few_entries (book_file input) b.0 b.1 in
    rw b.2 few

-- it chooses paths that join
module _ (t t' : List ℕ) (q' : Condition) (text : List ℕ) (parts : Parts) (a : Accepted text parts) (g : Graph) (e : Evaluates (Parsed parts) g t q' t' (Ok tt)) (u v : ℕ) (hu : u < g.entries) (hv : v < g.entries) where
  steps_chosen : whole_cell q' t' u v < long → (s : List Step) × (chosen_in q' t' u v ≡ Some s) × Joined g a.expr u v s × (length s ≡ whole_cell q' t' u v)
  steps_chosen h = rw e.1 (rw a.stored.decodes at (whole_joins g parts t' e.2.cells u v hu hv (rw e.1 at h)))

  path_leads : whole_cell q' t' u v < long → Joined g a.expr u v (steps_of (chosen_in q' t' u v)) × (length (steps_of (chosen_in q' t' u v)) ≡ whole_cell q' t' u v)
  path_leads h = let s = steps_chosen h in rw s.1 (s.2, s.3)

-- no cell is altered
pub unaltered_by : (input t t' : List ℕ) (q' : Condition) (n : ℕ) → AskedWell input t q' t' n → Unaltered q' t'
unaltered_by input t t' q' n a u v hu hv h =
    let b = a.worked in
    let is : entries_in q' ≡ b.0.entries = ap entries_in b.3.1 in
    let s = steps_chosen t t' q' (wording input) a.parts a.accepted b.0 b.3 u v (omega (arith, is)) (omega (arith, is)) h in
    ap is_none s.1

-- and no line is too long
pub lines_within : (input t t' : List ℕ) (q' : Condition) (n : ℕ) → AskedWell input t q' t' n → LinesWithin LINE q' t'
lines_within input t t' q' n a u v hu hv =
    let b = a.worked in
    let is : entries_in q' ≡ b.0.entries = ap entries_in b.3.1 in
    let few = few_entries (book_file input) b.0 b.1 in
    pair_within u v (whole_cell q' t' u v) (steps_of (chosen_in q' t' u v)) (omega (arith, is)) (omega (arith, is))
    (λ h.
    let p = path_leads t t' q' (wording input) a.parts a.accepted b.0 b.3 u v (omega (arith, is)) (omega (arith, is)) h in
    (p.1, path_within b.0 u v _ few p.0.0))
    _ refl

inside : (X Y : Type 0) (b : Bool) → b ≡ false → MatchBool b X Y → Y
inside X Y b e h = rw e at h

-- what the answers to questions mean, by the contract of the evaluation
module _ (t t' : List ℕ) (q' : Condition) (parts : Parts) (g : Graph) (e : Evaluates (Parsed parts) g t q' t' (Ok tt)) (x : Expr) (m : Meant g x q' t') where
  accepted_rows : (pair : Option (ℕ × ℕ)) → outside g.entries pair ≡ false → first_refusal (pair_rows q' t' pair) ≡ None
  accepted_rows pair o =
      let room : cells_needed (parts_of parts) g.entries ≤ length t' = omega (arith, e.2.kept, has _ _ parts g t refl refl e.0) in
      let fits : nat_lt (length t') (cells_needed (parts_of parts) g.entries) ≡ false = le-ltb _ _ room in
      rw e.1 (rw (o, fits) refl)

  told : (u v : ℕ) → u < g.entries → v < g.entries → Told g x u v (found_in (whole_cell q' t' u v))
  told u v hu hv =
      let o : outside g.entries (Some (u, v)) ≡ false = grind (arith, nat_tests) in
      inside _ _ (outside g.entries (Some (u, v))) o (m.lookups u v (Ok (found_in (whole_cell q' t' u v))) (accepted_rows (Some (u, v)) o, refl))

  counted : Counted g x (tallied (whole_cell q' t') g.entries g.entries)
  counted =
      let n : entries_in q' ≡ g.entries = ap entries_in e.1 in
      subst (λ k. Counted g x (tallied (whole_cell q' t') k k)) n
      (m.tallies (Ok (tallied (whole_cell q' t') (entries_in q') (entries_in q'))) (accepted_rows None refl, refl))

-- the lines, from what was evaluated
pub listed_by : (input t t' : List ℕ) (q' : Condition) (n : ℕ) (lines : List ℕ) → length t ≡ program_cells → AskedWell input t q' t' n → lines ≡ listing_text (whole_cell q' t') (λ u v. steps_of (chosen_in q' t' u v)) n → Listed input lines
listed_by input t t' q' n lines z a l =
    let b = a.worked in
    let w : ℕ → ℕ → List Step = λ u v. steps_of (chosen_in q' t' u v) in
    let same : expr_in q' ≡ a.accepted.expr = ap expr_in b.3.1 ∙ a.accepted.stored.decodes in
    let m = subst (λ x. Meant b.0 x q' t') same b.4 in
    record {
      short = a.short;
      expr = a.accepted.expr;
      worded = a.accepted.worded;
      graph = b.0;
      book = b.1;
      room = has _ _ a.parts b.0 t z (needs a.accepted b.0) b.3.0;
      path = w;
      traced = record { parts = a.parts; accepted = a.accepted; query = q'; before = t; cells = t'; evaluates = b.3; traces = λ u v steps steps' k p. path_traced q' t' u v steps steps' k p };
      listed = lines_told (whole_cell q' t') w b.0 a.accepted.expr
          (told t t' q' a.parts b.0 b.3 a.accepted.expr m)
          (counted t t' q' a.parts b.0 b.3 a.accepted.expr m)
          m.listed
          (path_leads t t' q' (wording input) a.parts a.accepted b.0 b.3)
          lines (l ∙ ap (listing_text (whole_cell q' t') w) b.2);
    }

pub asked_all : (input text file t t' : List ℕ) (q q₁ q' : Condition) (r : Result ℕ Refusal) → length t ≡ program_cells → text ≡ wording input → file ≡ book_file input → length input ≤ most_input → Parses q text q₁ (Ok tt) → Worked file q₁ t q' t' r → Asked input t q' t' r
asked_all input text file t t' q q₁ q' r z et ef h p w =
    let k = parse_told q text q₁ (Ok tt) p in
    asked_by input t t' k.0 q' r z h (subst (λ x. Accepted x k.0) et k.1) (subst (λ f. Worked f (Parsed k.0) t q' t' r) ef (subst (λ x. Worked file x t q' t' r) k.2 w))
