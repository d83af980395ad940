-- What each call makes of its request. Assumes nothing.
use Rattle.std.proofs.Common.{◌≡◌, ℕ, ◌≤◌, min, List, [], ◌++◌, length, take, drop, Option, Result, Ok, Err, OnOk, refl, ap, sym, ◌∙◌, append_assoc, arith}
use Rattle.std.proofs.lemmas.Bool.Decides.{nat_tests}
use Rattle.std.proofs.lemmas.List.{drop-append-le, length-take, take-append-drop, take_at}
use denote.Ref.{Bor}
use Rattle.graphs.specs.Graphs.{Graph}
use Rattle.languages.specs.declared.step.Step.{Step}
use Rattle.queries.specs.Calls.{Parses, Evaluates, Looks, Nexts, Tallies, Traces}
use Rattle.queries.specs.Conditions.{expr_in}
use Rattle.queries.specs.Meanings.{Meant}
use Rattle.queries.specs.declared.condition.Condition.{Condition}
use Rattle.queries.specs.declared.found.Found.{Found}
use Rattle.refusals.specs.declared.Refusal.{Refusal}
use Rattle.runs.specs.declared.request.Answer.TheVariants as answered
use Rattle.runs.specs.declared.request.Request.{Request}
use Rattle.runs.specs.declared.request.Request.TheVariants.{Tally, Parse, Evaluate, Lookup, Next, Trace}
use Rattle.runs.specs.Histories.{lookup, next, tally, trace, wording, evaluation, question}
use Rattle.runs.specs.Making.{Made}
use Rattle.runs.specs.Requests.{a_parse, an_evaluation, a_lookup, a_next, a_tally, a_trace, a_refused_trace}

module _ {S : Type 0} (graph : S → Graph) (request : Request S) (q : Condition) (table : List ℕ) (steps : List Step) where
  pub made_parse : (text : Bor (List ℕ)) → request ≡ Parse text → (q' : Condition) (r : Result Unit Refusal) → Parses q text.now q' r → Made graph request q q' table table steps steps (answered.Parse r)
  made_parse text is q' r p =
      record { event = wording text.now r; traced = []; tells = rw is (a_parse text r); does = (p, refl); count = refl; written = refl }

  pub made_evaluate : (source : Bor S) → request ≡ Evaluate source → (q' : Condition) (table' : List ℕ) (r : Result Unit Refusal) → Evaluates q (graph source.now) table q' table' r → OnOk r (Meant (graph source.now) (expr_in q') q' table') → Made graph request q q' table table' steps steps (answered.Evaluate r)
  made_evaluate source is q' table' r p m =
      record { event = evaluation (length table) [] (graph source.now) r; traced = []; tells = rw is (an_evaluation source r); does = (refl, refl, p, m); count = refl; written = refl }

  pub made_lookup : (u v : ℕ) → request ≡ Lookup u v → (r : Result Found Refusal) → Looks q table u v r → Made graph request q q table table steps steps (answered.Lookup r)
  made_lookup u v is r p =
      record { event = question (lookup u v r); traced = []; tells = rw is (a_lookup u v r); does = (p, refl, refl); count = refl; written = refl }

  pub made_next : (after : Option (ℕ × ℕ)) → request ≡ Next after → (r : Result (Option (ℕ × ℕ)) Refusal) → Nexts q table after r → Made graph request q q table table steps steps (answered.Next r)
  made_next after is r p =
      record { event = question (next after r); traced = []; tells = rw is (a_next after r); does = (p, refl, refl); count = refl; written = refl }

  pub made_tally : request ≡ Tally → (r : Result ℕ Refusal) → Tallies q table r → Made graph request q q table table steps steps (answered.Tally r)
  made_tally is r p =
      record { event = question (tally r); traced = []; tells = rw is (a_tally r); does = (p, refl, refl); count = refl; written = refl }

  -- a trace has the front of what is left of the buffer
  pub made_trace : (u v asked room : ℕ) → request ≡ Trace u v asked → room ≡ min asked (length steps) → (front : List Step) (r : Result ℕ Refusal) → Traces q table u v (take room steps) front r → Made graph request q q table table steps (front ++ drop room steps) (answered.Trace r)
  made_trace u v asked room is least front (Ok k) p =
      let s = p.taken.2.path in
      let size : length (take room steps) ≡ room = omega (arith, length-take room steps) in
      let fits : k ≤ length (take room steps) = grind (arith, nat_tests, p.taken.0, p.taken.1) in
      let gone : drop k (take room steps) ++ drop room steps ≡ drop k steps = sym (drop-append-le k (take room steps) (drop room steps) fits) ∙ ap (drop k) (take-append-drop room steps) in
      record {
        event = question (trace u v room (Ok s));
        traced = s;
        tells = rw (is, least, ← p.taken.2.count) (a_trace u v asked s);
        does = (record { steps = take room steps; steps' = front; answer = Ok k; size = size; traces = p; gives = ap Ok (sym (ap (take k) p.taken.2.written ∙ take_at s _ k p.taken.2.count)) }, refl, refl);
        count = sym p.taken.2.count;
        written = ap (λ xs. xs ++ drop room steps) p.taken.2.written ∙ append_assoc s _ _ ∙ ap (λ xs. s ++ xs) gone ∙ ap (λ n. s ++ drop n steps) (sym p.taken.2.count);
      }
  made_trace u v asked room is least front (Err x) p =
      let size : length (take room steps) ≡ room = omega (arith, length-take room steps) in
      record {
        event = question (trace u v room (Err x));
        traced = [];
        tells = rw (is, least) (a_refused_trace u v asked x);
        does = (record { steps = take room steps; steps' = front; answer = Err x; size = size; traces = p; gives = refl }, refl, refl);
        count = refl;
        written = ap (λ xs. xs ++ drop room steps) p.taken.1 ∙ take-append-drop room steps;
      }
