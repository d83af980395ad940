-- Every run obeys the law. Assumes nothing.
use Rattle.std.proofs.Common.{◌≡◌, ℕ, Bool, true, false, List, [], ◌∷◌, length, Option, None, Ok, refl, ◌∙◌}
use Rattle.expressions.specs.Exprs.{Expr}
use Rattle.graphs.specs.Graphs.{Graph}
use Rattle.queries.specs.Calls.{Nexts}
use Rattle.queries.specs.Conditions.{entries_in, whole_cell}
use Rattle.queries.specs.Meanings.{JoinedPairs}
use Rattle.queries.specs.Pairs.{tallied}
use Rattle.refusals.specs.Rows.{first_refusal}
use Rattle.refusals.specs.declared.Refusal.TheVariants.{NotEvaluated, NoSuchEntry, TableCut}
use Rattle.queries.specs.declared.condition.Condition.{Condition}
use Rattle.queries.specs.declared.condition.Condition.TheVariants.{Blank}
use Rattle.runs.specs.Histories.{Event, History}
use Rattle.runs.specs.Laws.{Standing, blank, evaluated, Obeys, WalksOn, Obeyed}
use Rattle.runs.specs.Laws as laws
use Rattle.runs.specs.Runs.{Does, Run, new, call, RunsObey}
use Rattle.runs.proofs.Obeying.{call_kept}
use Rattle.runs.proofs.Standings.{Shown, Stands}
use Rattle.runs.proofs.Walking.{next_is, next_answered, walk_firsts}

-- where the rows of a next do not apply, those of a tally do not
tally_rows : (b o c : Bool) → first_refusal ((b, 41, 0, NotEvaluated) ∷ (o, 42, 0, NoSuchEntry) ∷ (c, 43, 0, TableCut) ∷ []) ≡ None → first_refusal ((b, 41, 0, NotEvaluated) ∷ (false, 42, 0, NoSuchEntry) ∷ (c, 43, 0, TableCut) ∷ []) ≡ None
tally_rows true o c h = absurd (cc h)
tally_rows false true c h = absurd (cc h)
tally_rows false false c h = h

-- so the joined pairs are told by a tally
pairs_told : (e : Expr) (g : Graph) (q : Condition) (t : List ℕ) (given a : Option (ℕ × ℕ)) → Shown e g q t → Nexts q t given (Ok a) → (pairs : List (ℕ × ℕ)) × JoinedPairs g e pairs
pairs_told e g q t given a sh h =
    let l = sh.meant.tallies (Ok (tallied (whole_cell q t) (entries_in q) (entries_in q))) (tally_rows _ _ _ h.0, refl) in
    (l.0, l.1)

-- a next that goes on with a walk answers what follows
follows : (h : History) (s : Standing) (q : Condition) (t : List ℕ) (x : Event) (q' : Condition) (t' : List ℕ) (s' : Standing) → Obeyed h s → Stands s q t → Does q t x q' t' → Obeys s x s' → WalksOn h s x
follows h s q t x q' t' s' w st d o = λ e g given a stands asked before walk is.
    let l = pairs_told e g q t given a (rw stands at st) (rw asked at d).0 in
    let f = walk_firsts g e l.0 l.1 walk (rw stands at w) in
    record { pairs = l.0; all = l.1; first = f; then = next_is g e l.0 l.1 before a f (rw is at (next_answered g e given a (rw (stands, asked) at o).0)) }

-- what a run keeps
pub record Followed (cells : ℕ) (h : History) (q : Condition) (t : List ℕ) : Type 0 where
  pub standing : Standing
  pub obeyed : Obeyed h standing
  pub stands : Stands standing q t
  pub same : length t ≡ cells

pub followed_new : (t : List ℕ) → Followed (length t) [] Blank t
followed_new t = record { standing = blank; obeyed = laws.new; stands = refl; same = refl }

pub followed_call : (cells : ℕ) (h : History) (q : Condition) (t : List ℕ) (x : Event) (q' : Condition) (t' : List ℕ) → Followed cells h q t → Does q t x q' t' → Followed cells (x ∷ h) q' t'
followed_call cells h q t x q' t' w d =
    let k = call_kept w.standing q t x q' t' w.stands d in
    record {
      standing = k.standing;
      obeyed = laws.call w.obeyed k.obeys (follows h w.standing q t x q' t' k.standing w.obeyed w.stands d k.obeys);
      stands = k.stands;
      same = k.same ∙ w.same;
    }

pub run_followed : (table : List ℕ) {h : History} {q : Condition} {t : List ℕ} → Run table h q t → Followed (length table) h q t
run_followed table new = followed_new table
run_followed table (call run d) = followed_call _ _ _ _ _ _ _ (run_followed table run) d

pub runs_obey_lem : RunsObey
runs_obey_lem table h q t run = let o = run_followed table run in (o.standing, o.obeyed)
