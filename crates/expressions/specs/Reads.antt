-- What the functions of the reader answer, by the machine; no public contract cites this file. Assumes nothing.
use Rattle.std.specs.Prelude.{◌≡◌, ℕ, ◌+◌, ◌*◌, ◌<◌, ◌≤◌, ◌⊎◌, List, ◌++◌, length, drop, ◌≢◌, slice_index, slice_index_or}
use Rattle.std.proofs.Math.Option.{Option, none}
use Rattle.expressions.specs.declared.part.Part.{Part}
use Rattle.expressions.specs.declared.part.Part.TheVariants.{Epsilon, Plus, Star, Same, Differ}
use Rattle.expressions.specs.declared.draft.Draft.{Draft}
use Rattle.expressions.specs.Exprs.{Expr}
use Rattle.expressions.specs.Grammar.{most_parts, bar, opening, closing, nought}
use Rattle.expressions.specs.Machine.{Frame, State, expect, after, total, joined, go, Answer, bad}
use Rattle.expressions.specs.Numbering.{parts_from}
use Rattle.expressions.specs.Wordings.{Means}

-- some parts are counted, and as many of them as there is room for are kept
pub record Kept (s : Draft) (P : List Part) : Type 0 where
  pub room : length s.list ≡ most_parts
  pub counted : s.count ≡ length P
  pub kept : (i : ℕ) → i < length P → i < most_parts → slice_index_or s.list i Epsilon ≡ slice_index_or P i Epsilon

-- one part came behind the others
pub record Pushed (b a : Draft) (x : Part) : Type 0 where
  pub room : length a.list ≡ length b.list
  pub counted : a.count ≡ b.count + 1
  pub kept : (i : ℕ) → i < b.count → slice_index_or a.list i Epsilon ≡ slice_index_or b.list i Epsilon
  pub new : b.count < most_parts → slice_index_or a.list b.count Epsilon ≡ x

-- the parts of an expression came
abbrev pub Grows : Draft → Draft → Expr → Type 0
Grows b a e = (P : List Part) → Kept b P → Kept a (P ++ parts_from (length P) e)

-- the machine from a place of the text
abbrev pub At : State → List ℕ → ℕ → Answer
At s t n = go s (drop n t) n

-- bytes that are no sign, and that begin no atom
abbrev pub NoSign : ℕ → Type 0
NoSign c = (c ≢ 43) × (c ≢ 42) × (c ≢ 61) × (c ≢ 126)

abbrev pub NoAtom : ℕ → Type 0
NoAtom c = (97 ≤ c → c ≤ 122 → ⊥) × (c ≢ nought) × (c ≢ opening)

-- of the byte at n, where there is one
abbrev pub Next : List ℕ → ℕ → (ℕ → Type 0) → Type 0
Next t n P = n < length t → P (slice_index t n)

-- a sign, and its part
abbrev pub SignPart : ℕ → Part → Type 0
SignPart c x = ((c ≡ 43) × (x ≡ Plus)) ⊎ (((c ≡ 42) × (x ≡ Star)) ⊎ (((c ≡ 61) × (x ≡ Same)) ⊎ ((c ≡ 126) × (x ≡ Differ))))

-- a bracket is closed at n, or is not
pub record Closed (t : List ℕ) (n to : ℕ) : Type 0 where
  pub there : n < length t
  pub is : slice_index t n ≡ closing
  pub behind : to ≡ n + 1

pub record Unclosed (t : List ℕ) (n at : ℕ) : Type 0 where
  pub place : at ≡ n
  pub not : Next t n (λ c. c ≢ closing)

-- the reader has moved on; each byte brings two parts at most
pub record Moved (t : List ℕ) (from : ℕ) (b a : Draft) (to : ℕ) : Type 0 where
  pub further : from < to
  pub within : to ≤ length t
  pub room : a.count + 2 * from < b.count + 2 * to
  pub grew : b.count < a.count

-- an atom with some signs was read: the machine goes the same way, whatever stands before
pub record AtomRead (t : List ℕ) (from : ℕ) (b a : Draft) (to : ℕ) : Type 0 where
  pub item : Expr
  pub moved : Moved t from b a to
  pub goes : (σ : List Frame) (alt run : Option Expr) → At (expect σ alt run) t from ≡ At (after σ alt run item) t to
  pub grows : Grows b a item

-- with all its signs
pub record ItemRead (t : List ℕ) (from : ℕ) (b a : Draft) (to : ℕ) : Type 0 where
  pub atom : AtomRead t from b a to
  pub no_sign : Next t to NoSign

-- items were read, of which `run` stands before the last
pub record ItemsRead (t : List ℕ) (from : ℕ) (b a : Draft) (to : ℕ) : Type 0 where
  pub run : Option Expr
  pub item : Expr
  pub moved : Moved t from b a to
  pub goes : (σ : List Frame) (alt : Option Expr) → At (expect σ alt none) t from ≡ At (after σ alt run item) t to
  pub grows : Grows b a (joined run item)
  pub no_sign : Next t to NoSign

-- all items of a run
pub record RunRead (t : List ℕ) (from : ℕ) (b a : Draft) (to : ℕ) : Type 0 where
  pub items : ItemsRead t from b a to
  pub no_atom : Next t to NoAtom

-- runs were read, of which `alt` stands before the last, whose last item stands behind `run`
pub record RunsRead (t : List ℕ) (from : ℕ) (b a : Draft) (to : ℕ) : Type 0 where
  pub alt : Option Expr
  pub run : Option Expr
  pub item : Expr
  pub moved : Moved t from b a to
  pub goes : (σ : List Frame) → At (expect σ none none) t from ≡ At (after σ alt run item) t to
  pub grows : Grows b a (total alt run item)
  pub no_sign : Next t to NoSign
  pub no_atom : Next t to NoAtom

-- all runs of an expression
pub record ExpressionRead (t : List ℕ) (from : ℕ) (b a : Draft) (to : ℕ) : Type 0 where
  pub runs : RunsRead t from b a to
  pub no_bar : Next t to (λ c. c ≢ bar)

-- where each function finds the text wrong
abbrev pub ItemLost : List ℕ → ℕ → ℕ → Type 0
ItemLost t from at = (σ : List Frame) (alt run : Option Expr) → At (expect σ alt run) t from ≡ bad at

abbrev pub RunLost : List ℕ → ℕ → ℕ → Type 0
RunLost t from at = (σ : List Frame) (alt : Option Expr) → At (expect σ alt none) t from ≡ bad at

abbrev pub ExpressionLost : List ℕ → ℕ → ℕ → Type 0
ExpressionLost t from at = (σ : List Frame) → At (expect σ none none) t from ≡ bad at

-- the whole text is an expression, whose parts came
abbrev pub Whole : List ℕ → Draft → Type 0
Whole t s = (e : Expr) × Means t e × Kept s (parts_from 0 e)
