-- Each call that its contract describes obeys the law, and leaves a query that stands so. Assumes nothing.
use Rattle.std.proofs.Common.{◌≡◌, ℕ, Bool, true, false, nat_lt, List, [], ◌++◌, length, take, Option, Some, None, Result, Ok, Err, OnOk, refl, ap, sym, ◌∙◌, arith}
use Rattle.std.proofs.lemmas.Bool.{ltb-true, ltb-false}
use Rattle.std.proofs.lemmas.List.{take_at}
use Rattle.std.specs.Bool.{MatchBool}
use Rattle.std.specs.Result.{IsOkAnd}
use Rattle.expressions.specs.Exprs.{Expr}
use Rattle.expressions.specs.Storing.{Stored}
use Rattle.expressions.specs.declared.part.Parts.{Parts}
use Rattle.graphs.specs.Graphs.{Graph}
use Rattle.languages.specs.Languages.{Joined}
use Rattle.languages.specs.declared.step.Step.{Step}
use Rattle.queries.specs.Calls.{Parses, Evaluates, Looks, Nexts, Tallies, found_in, outside, pair_rows, trace_rows}
use Rattle.queries.specs.Conditions.{evaluated as evaluated_as, expr_in, entries_in, whole_cell}
use Rattle.queries.specs.Meanings.{Told, Led, Meant, AmongOr42}
use Rattle.queries.specs.Pairs.{After, First, Reaches, tallied}
use Rattle.queries.specs.declared.found.Found.{Found}
use Rattle.queries.specs.declared.found.Found.TheVariants.{Steps, Long, Absent}
use Rattle.queries.proofs.Meaning.{parse_told}
use Rattle.queries.specs.declared.condition.Condition.{Condition}
use Rattle.queries.specs.declared.condition.Condition.TheVariants.{Blank, Parsed}
use Rattle.refusals.proofs.Numbered.{refused_by}
use Rattle.refusals.specs.Rows.{Row, ByRows, IsRefused}
use Rattle.refusals.specs.declared.Refusal.{Refusal}
use Rattle.refusals.specs.declared.Refusal.TheVariants.{NotEvaluated, NoSuchEntry, StepsTooShort}
use Rattle.traces.specs.Tracing.{path_rows, TakenBy}
use Rattle.runs.specs.Histories.{Question, lookup, next, tally, trace, Event, wording, evaluation, question}
use Rattle.runs.specs.Laws.{Standing, blank, parsed, evaluated, Answers, Obeys, Asks, Traced}
use Rattle.runs.specs.Runs.{Replies, Does, TracesWith, written}
use Rattle.runs.proofs.Standings.{Shown, Stands}

-- a call obeys the law, and the query stands to what follows
pub record Kept (s : Standing) (t : List ℕ) (x : Event) (q' : Condition) (t' : List ℕ) : Type 0 where
  pub standing : Standing
  pub obeys : Obeys s x standing
  pub stands : Stands standing q' t'
  pub same : length t' ≡ length t

stays : (s : Standing) {q q' : Condition} {t t' : List ℕ} → Stands s q t → q' ≡ q → t' ≡ t → Stands s q' t'
stays s w a b = rw (a, b) w

-- a parse

parse_kept : (s : Standing) (q : Condition) (t text : List ℕ) (r : Result Unit Refusal) (q' : Condition) (t' : List ℕ) → Stands s q t → Parses q text q' r → t' ≡ t → Kept s t (wording text r) q' t'
parse_kept s q t text (Ok done) q' t' w p k =
    let a = parse_told q text q' (Ok done) p in
    record { standing = parsed a.1.expr; obeys = (a.1.expr, a.1.worded, refl); stands = (a.0, a.2, a.1.stored); same = ap length k }
parse_kept s q t text (Err x) q' t' w p k =
    let a = parse_told q text q' (Err x) p in
    record { standing = s; obeys = (a.0, refl); stands = stays s w a.1 k; same = ap length k }

-- an evaluation

shown : {e : Expr} {p : Parts} (g : Graph) (q' : Condition) (t' : List ℕ) → Stored e p → q' ≡ evaluated_as (Parsed p) g.entries → Meant g (expr_in q') q' t' → Shown e g q' t'
shown {e} {p} g q' t' s is m =
    let same : expr_in q' ≡ e = ap expr_in is ∙ s.decodes in
    record { parts = p; holds = is; stored = s; meant = rw same at m }

evaluate_kept : (s : Standing) (q : Condition) (t : List ℕ) (g : Graph) (r : Result Unit Refusal) (q' : Condition) (t' : List ℕ) → Stands s q t → Evaluates q g t q' t' r → OnOk r (Meant g (expr_in q') q' t') → Kept s t (evaluation (length t) [] g r) q' t'
evaluate_kept blank q t g (Ok done) q' t' w f m = absurd (let h = rw w at f in cc h.0)
evaluate_kept (parsed e) q t g (Ok done) q' t' w f m =
    let h = rw w.1 at f in
    record {
      standing = evaluated e g;
      obeys = (rw w.2.parts at h.0, refl);
      stands = shown g q' t' w.2 h.1 m;
      same = h.2.kept;
    }
evaluate_kept (evaluated e b) q t g (Ok done) q' t' w f m =
    let h = rw w.holds at f in
    record {
      standing = evaluated e g;
      obeys = (rw w.stored.parts at h.0, refl);
      stands = shown g q' t' w.stored h.1 m;
      same = h.2.kept;
    }
evaluate_kept blank q t g (Err x) q' t' w f m =
    record { standing = blank; obeys = (rw w at f.0, refl); stands = stays blank w f.1 f.2; same = ap length f.2 }
evaluate_kept (parsed e) q t g (Err x) q' t' w f m =
    let h = rw w.1 at f.0 in
    record { standing = parsed e; obeys = (rw w.2.parts at h, refl); stands = stays (parsed e) w f.1 f.2; same = ap length f.2 }
evaluate_kept (evaluated e b) q t g (Err x) q' t' w f m =
    let h = rw w.holds at f.0 in
    record { standing = evaluated e b; obeys = (rw w.stored.parts at h, refl); stands = stays (evaluated e b) w f.1 f.2; same = ap length f.2 }

-- a question: while nothing is evaluated it is refused; else it is answered by what was meant

module _ {T : Type 0} (t : List ℕ) (pair : Option (ℕ × ℕ)) (r : Result T Refusal) (rest : Condition → List Row) (P : Condition → T → Type 0) where
  abbrev rows : Condition → List Row
  rows q = pair_rows q t pair ++ rest q

  asks : (Q : Graph → Expr → Type 0) → (s : Standing) (q : Condition) → Stands s q t → ByRows (rows q) r (P q) → ((e : Expr) (g : Graph) → Shown e g q t → AmongOr42 g.entries pair r (Q g e)) → Asks s pair r Q
  asks Q blank q w h meant = (refused_by (rows Blank) NotEvaluated r (P Blank) refl (rw w at h), refl)
  asks Q (parsed e) q w h meant = (refused_by (rows (Parsed w.0)) NotEvaluated r (P (Parsed w.0)) refl (rw w.1 at h), refl)
  asks Q (evaluated e g) q w h meant = meant e g w

question_kept : (s : Standing) {q q' : Condition} {t t' : List ℕ} (x : Question) → Stands s q t → (q' ≡ q) → (t' ≡ t) → Answers s x → Kept s t (question x) q' t'
question_kept s x w a b o = record { standing = s; obeys = (o, refl); stands = stays s w a b; same = ap length b }

lookup_obeys : (s : Standing) (q : Condition) (t : List ℕ) (u v : ℕ) (r : Result Found Refusal) → Stands s q t → Looks q t u v r → Answers s (lookup u v r)
lookup_obeys s q t u v r w h = asks t (Some (u, v)) r (λ q. []) (λ q f. f ≡ found_in (whole_cell q t u v)) _ s q w h (λ e g sh. sh.meant.lookups u v r h)

next_obeys : (s : Standing) (q : Condition) (t : List ℕ) (given : Option (ℕ × ℕ)) (r : Result (Option (ℕ × ℕ)) Refusal) → Stands s q t → Nexts q t given r → Answers s (next given r)
next_obeys s q t given r w h = asks t given r (λ q. []) (λ q. First (After given) (entries_in q) (Reaches (whole_cell q t))) _ s q w h (λ e g sh. sh.meant.nexts given r h)

tally_obeys : (s : Standing) (q : Condition) (t : List ℕ) (r : Result ℕ Refusal) → Stands s q t → Tallies q t r → Answers s (tally r)
tally_obeys s q t r w h = asks t None r (λ q. []) (λ q k. k ≡ tallied (whole_cell q t) (entries_in q) (entries_in q)) _ s q w h (λ e g sh. sh.meant.tallies r h)

-- a trace: what it wrote stands at the front of its buffer

-- what refuses a trace, whatever it wrote
trace_held : (q : Condition) (t : List ℕ) (u v room : ℕ) (r : Result (List Step) Refusal) (w : TracesWith q t u v room r) → ByRows (trace_rows q t u v room w.traces.found) r (λ _. Unit {0})
trace_held q t u v room r w = held w.answer w.traces.taken w.gives
  where
    held : (answer : Result ℕ Refusal) → TakenBy (trace_rows q t u v (length w.steps) w.traces.found) (whole_cell q t u v) w.traces.found w.steps w.steps' answer → r ≡ written w.steps' answer → ByRows (trace_rows q t u v room w.traces.found) r (λ _. Unit {0})
    held (Ok k) h gives = rw (gives, ← w.size) (h.0, tt)
    held (Err x) h gives = rw (gives, ← w.size) h.0

module _ (g : Graph) (e : Expr) (u v room : ℕ) (r : Result (List Step) Refusal) (steps steps' : List Step) (size : length steps ≡ room) where
  in_room : (k : ℕ) (answer : Result ℕ Refusal) → r ≡ written steps' answer → Led g e u v steps steps' answer (Steps k) → (b : Bool) → nat_lt room k ≡ b → MatchBool b (IsRefused r 46 0 StepsTooShort) (IsOkAnd r (λ s. Joined g e u v s × (length s ≡ k)))
  in_room k (Ok j) gives l true b = absurd (let h = ltb-true _ _ b in omega (arith, l.0))
  in_room k (Ok j) gives l false b =
      let s = l.2 in
      let path : take j steps' ≡ s.path = ap (take j) s.stands ∙ take_at s.path _ j (s.count ∙ sym l.1) in
      rw (gives, path) (s.joins, s.count)
  in_room k (Err x) gives l true b = (gives ∙ ap (λ n. Err n.2) l.1, refl)
  in_room k (Err x) gives l false b = absurd (let h = ltb-false _ _ b in omega (arith, l.0))

  traced : (f : Found) (answer : Result ℕ Refusal) → r ≡ written steps' answer → Led g e u v steps steps' answer f → Traced g e u v room r f
  traced (Steps k) answer gives l = in_room k answer gives l (nat_lt room k) refl
  traced Long answer gives l = (gives ∙ ap (written steps') l.0.0, refl)
  traced Absent answer gives l = (gives ∙ ap (written steps') l.0.0, refl)

  trace_meant : (n : ℕ) (answer : Result ℕ Refusal) → r ≡ written steps' answer → (b : Bool) → MatchBool b (IsRefused answer 42 0 NoSuchEntry) ((f : Found) × Told g e u v f × Led g e u v steps steps' answer f) → MatchBool b (IsRefused r 42 0 NoSuchEntry) ((f : Found) × Told g e u v f × Traced g e u v room r f)
  trace_meant n answer gives true h = (gives ∙ ap (written steps') h.0, refl)
  trace_meant n answer gives false h = (h.0, h.1, traced h.0 answer gives h.2)

trace_obeys : (s : Standing) (q : Condition) (t : List ℕ) (u v room : ℕ) (r : Result (List Step) Refusal) → Stands s q t → TracesWith q t u v room r → Answers s (trace u v room r)
trace_obeys s q t u v room r w h =
    asks t (Some (u, v)) r (λ q. path_rows (whole_cell q t u v) room h.traces.found) (λ q _. Unit {0}) _ s q w (trace_held q t u v room r h) (λ e g sh.
    trace_meant g e u v room r h.steps h.steps' h.size g.entries h.answer h.gives (outside g.entries (Some (u, v))) (sh.meant.traces u v h.steps h.steps' h.answer h.traces))

question_answered : (s : Standing) (q : Condition) (t : List ℕ) (x : Question) → Stands s q t → Replies q t x → Answers s x
question_answered s q t (lookup u v r) w d = lookup_obeys s q t u v r w d
question_answered s q t (next given r) w d = next_obeys s q t given r w d
question_answered s q t (tally r) w d = tally_obeys s q t r w d
question_answered s q t (trace u v room r) w d = trace_obeys s q t u v room r w d

-- any call

pub call_kept : (s : Standing) (q : Condition) (t : List ℕ) (x : Event) (q' : Condition) (t' : List ℕ) → Stands s q t → Does q t x q' t' → Kept s t x q' t'
call_kept s q t (wording text r) q' t' w d = parse_kept s q t text r q' t' w d.0 d.1
call_kept s q t (evaluation cells before g r) q' t' w d = rw (d.0, d.1) (evaluate_kept s q t g r q' t' w d.2 d.3)
call_kept s q t (question x) q' t' w d = question_kept s x w d.1 d.2 (question_answered s q t x w d.0)
