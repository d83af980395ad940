-- An input that is cut one byte behind the most that the program takes is answered as the whole is. Assumes nothing.
use Rattle.std.proofs.Common.{◌≡◌, ℕ, ◌+◌, ◌<◌, ◌≤◌, ◌⊎◌, inl, inr, List, Option, length, take, Some, None, Ok, Err, Result, sym, ◌∙◌, subst, ⊎_elim, arith, length-take}
use Rattle.std.specs.Prelude.{⊤, IfSome}
use Rattle.std.proofs.lemmas.List.{take_all}
use Rattle.asking.specs.Answers.{Listed}
use Rattle.asking.specs.Asking.{RefusedAs, too_long, by_wording, by_file, by_room}
use Rattle.asking.specs.Input.{most_input}
use Rattle.refusals.specs.declared.Refusal.{Refusal}
use Rattle.pairs.specs.Program.{RefusalLine, IsDue, Ends}
use Rattle.pairs.specs.declared.failure.Failure.{Failure}

-- what is due for the cut is due for the whole
record Alike (cut all : List ℕ) : Type 0 where
  listed : (text : List ℕ) → Listed cut text → Listed all text
  refused : (text : List ℕ) → RefusalLine cut text → RefusalLine all text

-- of two inputs that are both too long
module _ (cut all : List ℕ) (long : most_input < length cut) (longer : most_input < length all) where
  refused_alike : {x : Refusal} {n at : ℕ} → RefusedAs cut x n at → RefusedAs all x n at
  refused_alike (too_long h) = too_long longer
  refused_alike (by_wording h w) = absurd (omega arith)
  refused_alike (by_file h w f) = absurd (omega arith)
  refused_alike (by_room g h w b r) = absurd (omega arith)

  too_long_alike : Alike cut all
  too_long_alike = record {
    listed = λ text l. let h = l.short in absurd (omega arith);
    refused = λ text l. (l.0, refused_alike l.1, l.2);
  }

cut_alike : (all : List ℕ) → Alike (take (most_input + 1) all) all
cut_alike all = ⊎_elim
    (λ few. subst (λ cut. Alike cut all) (sym (take_all (most_input + 1) all few)) (record { listed = λ text l. l; refused = λ text l. l }))
    (λ many. too_long_alike (take (most_input + 1) all) all (omega (arith, length-take (most_input + 1) all)) (omega arith))
    (split (length all))
  where
    split : (n : ℕ) → (n ≤ most_input + 1) ⊎ (most_input + 1 < n)
    split n = grind arith

module _ (cut all : List ℕ) (alike : Alike cut all) where
  due_alike : (text : List ℕ) → IsDue cut text → IsDue all text
  due_alike text (inl l) = inl (alike.listed text l)
  due_alike text (inr l) = inr (alike.refused text l)

  ends_alike : (before after : Option (List ℕ)) (r : Result ⊤ Failure) → Ends cut before after r → Ends all before after r
  ends_alike before after (Ok u) e = (e.0, alike.listed e.0 e.1, e.2)
  ends_alike before after (Err Failure.Refused) e = (e.0, alike.refused e.0 e.1, e.2)
  ends_alike before after (Err (Failure.Stopped x)) (inl kept) = inl kept
  ends_alike before after (Err (Failure.Stopped x)) (inr e) = inr (e.0, due_alike e.0 e.1, e.2)

-- the program ends for the whole as it does for the cut
ends_whole : (all : List ℕ) (before after : Option (List ℕ)) (r : Result ⊤ Failure) → Ends (take (most_input + 1) all) before after r → Ends all before after r
ends_whole all = ends_alike (take (most_input + 1) all) all (cut_alike all)

-- and so where it is known what there is
pub ends_known : (there : Option (List ℕ)) (input items : List ℕ) (before after : Option (List ℕ)) (r : Result ⊤ Failure) → IfSome there (λ all. items ≡ take (most_input + 1) all) → input ≡ items → Ends input before after r → IfSome there (λ all. Ends all before after r)
ends_known None input items before after r read is e = tt
ends_known (Some all) input items before after r read is e = ends_whole all before after r (subst (λ cut. Ends cut before after r) (is ∙ read) e)
