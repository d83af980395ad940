-- The payloads of a kind of value. Assumes nothing.
use Rattle.std.specs.Prelude.{ℕ, ◌+◌, ◌*◌, ◌/◌, ◌%◌, Bool, ◌&&◌, List, [], ◌∷◌, ◌++◌, length, take, drop, nat_le}

-- the number of the kind, the least and the most bytes of a payload, and which payloads of such a length stand for a value
pub record Shape : Type 0 where
  pub number : ℕ
  pub least : ℕ
  pub most : ℕ
  pub proper : List ℕ → Bool

-- the number that two bytes stand for, the low one first
abbrev pub word : ℕ → ℕ → ℕ
word low high = low + 256 * high

-- a number in two bytes, the low one first
abbrev pub two_bytes : ℕ → List ℕ
two_bytes n = n % 256 ∷ n / 256 ∷ []

-- a length that a payload may have
abbrev pub fitting : Shape → ℕ → Bool
fitting sh n = nat_le sh.least n && nat_le n sh.most

-- a payload that stands for a value
abbrev pub valid : Shape → List ℕ → Bool
valid sh p = fitting sh (length p) && sh.proper p

-- a buffer after bytes were written to its front, as far as there was room
abbrev pub overlaid : List ℕ → List ℕ → List ℕ
overlaid bytes out = take (length out) (bytes ++ drop (length bytes) out)
