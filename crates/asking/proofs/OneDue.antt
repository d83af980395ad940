-- One text is due for an input. Assumes nothing.
use Rattle.std.proofs.Common.{◌≡◌, ℕ, ◌-◌, ◌<◌, ◌≤◌, List, [], ◌∷◌, ◌++◌, length, drop, None, Ok, Result, refl, sym, ap, ◌∙◌, subst, arith}
use Rattle.std.proofs.lemmas.Bool.Decides.{nat_tests}
use Rattle.std.proofs.lemmas.List.{take_all}
use Rattle.expressions.specs.Exprs.{Expr}
use Rattle.expressions.specs.Numbering.{part_expr, parts_from}
use Rattle.expressions.specs.Storing.{parts_of}
use Rattle.expressions.specs.declared.part.Parts.{Parts}
use Rattle.graphs.specs.Graphs.{Graph}
use Rattle.languages.specs.Cells.{long}
use Rattle.languages.specs.Languages.{Joined}
use Rattle.languages.specs.declared.step.Step.{Step}
use Rattle.listing.specs.Lines.{refusal_line}
use Rattle.languages.proofs.Walks.{joined_within}
use Rattle.queries.proofs.Meaning.{whole_joins}
use Rattle.queries.proofs.Tracing.{c, found, rows_as, accepted}
use Rattle.queries.specs.Calls.{evaluate_rows, Traces}
use Rattle.queries.specs.Conditions.{evaluated}
use Rattle.queries.specs.declared.condition.Condition.TheVariants.{Parsed}
use Rattle.refusals.specs.Rows.{first_refusal}
use Rattle.tables.specs.Layout.{cells_needed, cell_at}
use Rattle.tables.specs.Tables.{AllShow}
use Rattle.traces.proofs.Led.{chosen_led, leading, leading_once}
use Rattle.traces.specs.Leading.{LeadsTo}
use Rattle.asking.proofs.OneInput.{one_expression, one_book_in, refused_once, listed_accepted}
use Rattle.asking.proofs.OneListing.{one_listing}
use Rattle.asking.proofs.OnePath.{LedBy, one_path}
use Rattle.asking.specs.Answers.{TracedBy, Listed, Due, Given, Answered}
use Rattle.refusals.specs.declared.Refusal.{Refusal}
use Rattle.asking.specs.Listings.{Lines}
use Rattle.asking.specs.Input.{most_text, wording, book_file}
use Rattle.asking.specs.declared.answer.Answer.{Answer}

-- nothing lies behind all of a list
no_rest : (s : List Step) → s ≡ s ++ drop (length s) s
no_rest [] = refl
no_rest (x ∷ s) = ap (λ t. x ∷ t) (no_rest s)

room_in : (parts : Parts) (g : Graph) (t : List ℕ) → first_refusal (evaluate_rows (Parsed parts) g t) ≡ None
    → cells_needed (parts_of parts) g.entries ≤ length t
room_in parts g t e = grind (arith, nat_tests)

-- a trace of a pair writes the steps that its cells lead to
module _ (p : Parts) (g : Graph) (t : List ℕ) (room : cells_needed (parts_of p) g.entries ≤ length t)
    (shown : AllShow g (parts_of p) (length (parts_of p)) t) (u v : ℕ) (hu : u < g.entries)
    (hv : v < g.entries) (h : cell_at (parts_of p) t g.entries (length (parts_of p) - 1) u v < long) where
  abbrev last : ℕ
  last = length (parts_of p) - 1

  steps :
      (s : List Step)
      × LeadsTo (parts_of p) (cell_at (parts_of p) t g.entries) g.entries last u v s
      × Traces (evaluated (Parsed p) g.entries) t u v s s (Ok (length s))
  steps =
      let j = whole_joins g p t shown u v hu hv h in
      let s = j.0 in
      let low : last < length (parts_of p) = omega (arith, p.some) in
      let cell = c p g.entries t u v hu hv room in
      let is = found p g.entries t u v hu hv room in
      let rows =
      rows_as p g.entries t u v hu hv room (length s) ∙ accepted cell (length s) is s h (omega (arith, j.3)) j.1
      in (
        s,
        chosen_led (parts_of p) t g.entries p.formed last u v s j.1,
        record {
          found = found p g.entries t u v hu hv room;
          led = leading (parts_of p) t g.entries p.formed last u v low;
          once = λ other k. sym (leading_once (parts_of p) t g.entries p.formed last u v low other k);
          taken = (rows, j.3, record { path = s; are = j.1; count = refl; written = no_rest s });
        },
      )

led_by : (text : List ℕ) (g : Graph) (path : ℕ → ℕ → List Step) (t : TracedBy text g path)
    → LedBy (parts_of t.parts) g path
led_by text g path t =
    let before = room_in t.parts g t.before t.evaluates.0 in
    let room : cells_needed (parts_of t.parts) g.entries ≤ length t.cells = omega (arith, t.evaluates.2.kept) in
    record {
      d = cell_at (parts_of t.parts) t.cells g.entries;
      cells = λ q u v hq hu hv. t.evaluates.2.cells q hq u v hu hv;
      led = λ u v hu hv h.
          let s = steps t.parts g t.cells room t.evaluates.2.cells u v hu hv h in
          let traced = subst (λ q. Traces q t.cells u v s.0 s.0 (Ok (length s.0))) (sym t.evaluates.1) s.2 in
          let all = take_all (length s.0) s.0 (omega arith) in
          let is : s.0 ≡ path u v = sym all ∙ t.traces u v s.0 s.0 (length s.0) traced in
          subst (LeadsTo (parts_of t.parts) (cell_at (parts_of t.parts) t.cells g.entries) g.entries
          (length (parts_of t.parts) - 1) u v) is s.1;
    }

-- one wording and one graph have one path for each pair that a short one joins
module _ (text : List ℕ) (g : Graph) (e : Expr) (path other : ℕ → ℕ → List Step) (a : TracedBy text g path)
    (b : TracedBy text g other) (is : a.accepted.expr ≡ e) where
  same_parts : parts_of b.parts ≡ parts_of a.parts
  same_parts =
      let same = one_expression text b.accepted.expr a.accepted.expr b.accepted.worded a.accepted.worded in
      b.accepted.stored.parts ∙ ap (parts_from 0) same ∙ sym a.accepted.stored.parts

  paths_alike : (u v : ℕ) (s : List Step) → Joined g e u v s → length s < long → path u v ≡ other u v
  paths_alike u v s j h =
      let w = joined_within g e u v (s, j) in
      let whole : part_expr (parts_of a.parts) (length (parts_of a.parts) - 1) ≡ e = a.accepted.stored.decodes ∙ is in
      one_path (parts_of a.parts) g path other a.parts.formed a.parts.some (led_by text g path a)
      (subst (λ ps. LedBy ps g other) same_parts (led_by text g other b)) u v w.0 w.1 s
      (subst (λ f. Joined g f u v s) (sym whole) j) h

pub listed_once : (input l m : List ℕ) → Listed input l → Listed input m → l ≡ m
listed_once input l m a b =
    let expr : b.expr ≡ a.expr = one_expression (wording input) b.expr a.expr b.worded a.worded in
    let graph : b.graph ≡ a.graph = one_book_in (book_file input) b.graph a.graph b.book a.book in
    let traced = subst (λ g. TracedBy (wording input) g b.path) graph b.traced in
    let listed = subst (λ e. Lines a.graph e b.path m) expr (subst (λ g. Lines g b.expr b.path m) graph b.listed) in
    let is = one_expression (wording input) a.traced.accepted.expr a.expr a.traced.accepted.worded a.worded in
    let paths = paths_alike (wording input) a.graph a.expr a.path b.path a.traced traced is in
    one_listing a.graph a.expr a.path b.path l m paths a.listed listed

pub due_once : (input s t : List ℕ) (a b : Answer) → Due input s a → Due input t b → (s ≡ t) × (a ≡ b)
due_once input s t (Answer.Listed n) (Answer.Listed k) p q =
    let e = listed_once input s t p.0 q.0 in
    (e, ap Answer.Listed (p.1 ∙ ap length e ∙ sym q.1))
due_once input s t (Answer.Listed n) (Answer.Refused k) p q = absurd (listed_accepted input p.0 q.1)
due_once input s t (Answer.Refused n) (Answer.Listed k) p q = absurd (listed_accepted input q.0 p.1)
due_once input s t (Answer.Refused n) (Answer.Refused k) p q =
    let e = p.2 ∙ ap refusal_line (refused_once input p.1 q.1) ∙ sym q.2 in
    (e, ap Answer.Refused (p.3 ∙ ap length e ∙ sym q.3))

-- so what is due answers an input, once it is given
pub answered : (input due text text' : List ℕ) (answer : Answer) (r : Result Answer Refusal)
    → Due input due answer → length due ≤ most_text → Given due answer text text' r
    → Answered input text text' r
answered input due text text' answer r is within given = record {
  due = due;
  answer = answer;
  is = is;
  only = λ other more d. due_once input other due more answer d is;
  within = within;
  given = given;
}
