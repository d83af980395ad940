-- Names, which are texts of at most 128 bytes, one at least. Assumes nothing.
use Rattle.std.specs.Prelude.{◌≡◌, ℕ, ◌-◌, Bool, true, List, ◌++◌, length, take, replicate}
use Rattle.std.specs.Str.{bytes_eq}
use Rattle.kinds.specs.declared.name.Name.{Name}
use Rattle.kinds.specs.Payloads.{Shape}
use Rattle.kinds.specs.Ranges.{within}

-- the bytes of a name, of which there are 1 to 128; those stored past its end have no influence
abbrev pub text : Name → List ℕ
text n = take (within 128 n.len) n.bytes

-- whether two names are one text, byte for byte
abbrev pub same_name : Name → Name → Bool
same_name m n = bytes_eq (text m) (text n)

-- the payload of a name is its bytes, and every 1 to 128 bytes are a name
abbrev pub name_shape : Shape
name_shape = record { number = 1; least = 1; most = 128; proper = λ p. true }

-- a text, and zeros up to 128 bytes
abbrev pub padding : List ℕ → List ℕ
padding p = p ++ replicate (128 - length p) 0

-- a name as it is read from a file
abbrev pub name_of : List ℕ → Name
name_of p = record { len = length p; bytes = padding p }

-- two names with the same bytes
abbrev pub SameText : Name → Name → Type 0
SameText m n = text m ≡ text n
