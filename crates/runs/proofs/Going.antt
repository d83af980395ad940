-- How far a run of requests has come. Assumes nothing.
use Rattle.std.proofs.Common.{◌≡◌, ℕ, ◌+◌, ◌-◌, ◌<◌, ◌≤◌, min, List, [], ◌∷◌, ◌++◌, length, get_or, take, drop, set, refl, ap, sym, ◌∙◌, append_assoc, arith}
use Rattle.std.proofs.lemmas.List.{drop-drop, drop-set-lt, drop_at, length-append, length-drop, take_at, take_more, take_more_set}
use Rattle.graphs.specs.Graphs.{Graph}
use Rattle.languages.specs.declared.step.Step.{Step}
use Rattle.queries.specs.declared.condition.Condition.{Condition}
use Rattle.queries.specs.declared.condition.Condition.TheVariants.{Blank}
use Rattle.runs.specs.declared.request.Answer.{Answer}
use Rattle.runs.specs.declared.request.Request.{Request}
use Rattle.runs.specs.Histories.{History}
use Rattle.runs.specs.Making.{Made}
use Rattle.runs.specs.Requests.{Ran, Transcript, steps_in}
use Rattle.runs.specs.Requests as requests
use Rattle.runs.specs.Runs.{Run}
use Rattle.runs.specs.Runs as runs
use Rattle.runs.proofs.Followed.{run_followed}

-- i requests are made, and their traces have written so many steps
pub record Going {S : Type 0} (graph : S → Graph) (asked : List (Request S)) (table₀ table : List ℕ) (steps₀ steps : List Step) (answers₀ answers : List Answer) (i written : ℕ) (q : Condition) : Type 0 where
  pub history : History
  pub traced : List Step
  pub run : Run table₀ history q table
  pub transcript : Transcript graph (length table₀) (length steps₀) (take i asked) (take i answers) history traced
  pub count : written ≡ length traced
  pub fits : written ≤ length steps₀
  pub steps_are : steps ≡ traced ++ drop (length traced) steps₀
  pub behind : drop i answers ≡ drop i answers₀

-- none so far
pub going_new : {S : Type 0} (graph : S → Graph) (asked : List (Request S)) (table : List ℕ) (steps : List Step) (answers : List Answer) (q : Condition) → q ≡ Blank → Going graph asked table table steps steps answers answers 0 0 q
going_new graph asked table steps answers q is = record {
  history = [];
  traced = [];
  run = rw is runs.new;
  transcript = requests.new;
  count = refl;
  fits = omega arith;
  steps_are = refl;
  behind = refl;
}

-- one more
module _ {S : Type 0} (graph : S → Graph) (asked : List (Request S)) (table₀ table table' : List ℕ) (steps₀ steps rest : List Step) (answers₀ answers : List Answer) (i written : ℕ) (q q' : Condition) (request : Request S) (answer : Answer) (k : Going graph asked table₀ table steps₀ steps answers₀ answers i written q) (m : Made graph request q q' table table' (drop written steps) rest answer) where
  left : length steps ≡ length steps₀ → length (drop written steps) ≡ length steps₀ - length k.traced
  left same = omega (arith, length-drop written steps, k.count)

  kept_front : take written steps ≡ k.traced
  kept_front = ap (take written) k.steps_are ∙ take_at k.traced _ written (sym k.count)

  kept_rest : drop written steps ≡ drop (length k.traced) steps₀
  kept_rest = ap (drop written) k.steps_are ∙ drop_at k.traced _ written (sym k.count)

  -- the table is as long as at first
  cells : length table ≡ length table₀
  cells = (run_followed table₀ k.run).same

  now_written : take written steps ++ rest ≡ (k.traced ++ m.traced) ++ drop (length (k.traced ++ m.traced)) steps₀
  now_written =
      let n : length k.traced + length m.traced ≡ length (k.traced ++ m.traced) = sym (length-append k.traced m.traced) in
      let e : rest ≡ m.traced ++ drop (length (k.traced ++ m.traced)) steps₀ = m.written ∙ ap (λ xs. m.traced ++ drop (length m.traced) xs) kept_rest ∙ ap (λ xs. m.traced ++ xs) (drop-drop (length m.traced) (length k.traced) steps₀ ∙ ap (λ n. drop n steps₀) n) in
      ap (λ xs. xs ++ rest) kept_front ∙ ap (λ xs. k.traced ++ xs) e ∙ sym (append_assoc k.traced m.traced _)

  pub going_on : i < length asked → i < length answers → request ≡ get_or asked i request → length steps ≡ length steps₀ → length rest ≡ length (drop written steps) → Going graph asked table₀ table' steps₀ (take written steps ++ rest) answers₀ (set answers i answer) (i + 1) (written + steps_in answer) q'
  going_on h j is same size = record {
    history = m.event ∷ k.history;
    traced = k.traced ++ m.traced;
    run = runs.call k.run m.does;
    transcript = rw (take_more asked i request h, ← is, take_more_set answers i answer j) (requests.call k.transcript (rw (left same, cells) at m.tells));
    count = omega (arith, length-append k.traced m.traced, k.count, m.count);
    fits = omega (arith, m.count, ap length m.written, length-append m.traced (drop (length m.traced) (drop written steps)), length-drop (length m.traced) (drop written steps), length-drop written steps, k.fits);
    steps_are = now_written;
    behind = drop-set-lt (i + 1) answers i answer (omega arith) ∙ sym (drop-drop 1 i answers) ∙ ap (drop 1) k.behind ∙ drop-drop 1 i answers₀;
  }

-- all that there are places for
pub going_ran : {S : Type 0} (graph : S → Graph) (asked : List (Request S)) (table₀ table : List ℕ) (steps₀ steps : List Step) (answers₀ answers : List Answer) (i written : ℕ) (q : Condition) → Going graph asked table₀ table steps₀ steps answers₀ answers i written q → i ≡ min (length asked) (length answers₀) → Ran graph asked table₀ table steps₀ steps answers₀ answers i
going_ran graph asked table₀ table steps₀ steps answers₀ answers i written q k all =
    let o = run_followed table₀ k.run in
    record {
      history = k.history;
      traced = k.traced;
      count = all;
      transcript = k.transcript;
      law = (o.standing, o.obeyed);
      written = k.steps_are;
      behind = k.behind;
      condition = q;
      run = k.run;
    }
