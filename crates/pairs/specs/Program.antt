-- What the program writes for the bytes that its reader gives, and how it ends. Assumes nothing.
use Rattle.std.specs.Prelude.{◌≡◌, ℕ, ◌≤◌, ◌⊎◌, List, length, take, Option, Ok, Err, Result, ⊤}
use Rattle.std.specs.Io.KnownBytes.{Appends, Keeps}
use Rattle.asking.specs.Answers.{Listed}
use Rattle.asking.specs.Asking.{RefusedBy}
use Rattle.listing.specs.Lines.{refusal_line}
use Rattle.refusals.specs.declared.Refusal.{Refusal}
use Rattle.pairs.specs.declared.failure.Failure.{Failure}

-- the line of the refusal of an input
abbrev pub RefusalLine : List ℕ → List ℕ → Type 0
RefusalLine input text = (x : Refusal) × RefusedBy input x × (text ≡ refusal_line x)

-- the text that is due for an input: the lines of an answer, or the line of the refusal
abbrev pub IsDue : List ℕ → List ℕ → Type 0
IsDue input text = Listed input text ⊎ RefusalLine input text

-- of a text a writer has got some at least, from its front
abbrev pub WroteFront : List ℕ → Option (List ℕ) → Option (List ℕ) → Type 0
WroteFront text before after = (k : ℕ) × (k ≤ length text) × Appends before after (take k text)

-- how the program ends, and what the writer has got then: it ends well just for the lines of an answer, written whole
-- and flushed; as refused just for the line of the refusal, so too; where it is stopped, nothing was written, or some
-- of the text that is due, from its front
abbrev pub Ends : List ℕ → Option (List ℕ) → Option (List ℕ) → Result ⊤ Failure → Type 0
Ends input before after (Ok _) = (text : List ℕ) × Listed input text × Appends before after text
Ends input before after (Err Failure.Refused) = (text : List ℕ) × RefusalLine input text × Appends before after text
Ends input before after (Err (Failure.Stopped _)) = Keeps before after ⊎ ((text : List ℕ) × IsDue input text × WroteFront text before after)
