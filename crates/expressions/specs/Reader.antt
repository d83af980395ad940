-- What a method of the reader does with it; no public contract cites this file. Assumes nothing.
use Rattle.std.specs.Prelude.{ℕ, List, MatchResult, Result}
use Rattle.expressions.specs.declared.draft.Draft.{Draft}
use Rattle.expressions.specs.declared.reader.Reader.{Reader}
use Rattle.expressions.specs.declared.reader.SyntaxError.{SyntaxError}

-- it has read something on from where it was, or says where that is lost
abbrev pub Reads : (List ℕ → ℕ → Draft → Draft → ℕ → Type 0) → (List ℕ → ℕ → ℕ → Type 0) → Reader → Reader → Result Unit SyntaxError → Type 0
Reads Read Lost b a r = MatchResult r (λ _. Read b.text.now b.at b.draft a.draft a.at) (λ e. Lost b.text.now b.at e.at)
