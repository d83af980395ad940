-- What an answer leaves in a buffer. Assumes nothing.
use Rattle.std.proofs.Common.{◌≡◌, ℕ, ◌≤◌, Bool, false, List, length, take, Some, Ok, Err, Result, IsOk, refl, sym, ap, ◌∙◌, subst, arith}
use Rattle.std.specs.Prelude.{nat_le}
use Rattle.std.proofs.lemmas.Bool.Decides.{nat_tests}
use Rattle.listing.specs.Lines.{line_rows}
use Rattle.refusals.specs.Rows.{first_refusal}
use Rattle.refusals.specs.Table.{numbered}
use Rattle.refusals.specs.declared.Refusal.{Refusal}
use Rattle.refusals.specs.declared.Refusal.TheVariants.{TextTooShort}
use Rattle.asking.specs.declared.answer.Answer.{Answer}
use Rattle.asking.specs.Answers.{text_length, Given, Answered}
use Rattle.asking.specs.Input.{most_text}

-- a text that is no longer than the longest has room where the longest has
pub room_for_all : (size most room : ℕ) → size ≤ most → most ≤ room → nat_le most room ≡ nat_le size room
room_for_all size most room h i = grind (arith, nat_tests)

-- the row applies where a text has no room
pub lacks_room : (due : List ℕ) (room : ℕ) (b : Bool) → b ≡ nat_le (length due) room → b ≡ false → first_refusal (line_rows due room) ≡ Some (numbered TextTooShort)
lacks_room due room b e f = grind (arith, nat_tests)

not_longer : (due : List ℕ) (room : ℕ) (x : Refusal) → length due ≤ room → first_refusal (line_rows due room) ≡ Some (numbered x) → ⊥
not_longer due room x h e = grind (arith, nat_tests)

given_ok : (due text text' : List ℕ) (answer : Answer) (r : Result Answer Refusal) → length due ≤ length text → Given due answer text text' r → IsOk r
given_ok due text text' answer (Ok a) h g = refl
given_ok due text text' answer (Err x) h g = absurd (not_longer due (length text) x h g.0)

-- where there is room for every answer, there is one
pub ok_in_room : (input text text' : List ℕ) (r : Result Answer Refusal) → length text ≡ most_text → Answered input text text' r → IsOk r
ok_in_room input text text' r e h = given_ok h.due text text' h.answer r (omega (arith, h.within)) h.given

-- the text is within the buffer
text_within : (due text text' : List ℕ) (answer a : Answer) → Given due answer text text' (Ok a) → text_length a ≡ length (take (text_length a) text')
text_within due text text' answer a g = rw g.0 (g.1.size ∙ ap length (sym g.1.front))

pub within_buffer : (input text text' : List ℕ) (r : Result Answer Refusal) (a : Answer) (n : ℕ) → r ≡ Ok a → n ≡ text_length a → Answered input text text' r → n ≡ length (take n text')
within_buffer input text text' r a n is e h = subst (λ k. k ≡ length (take k text')) (sym e) (text_within h.due text text' h.answer a (subst (Given h.due h.answer text text') is h.given))
