-- What each byte is.
use Rattle.std.proofs.Common.{◌≡◌, ℕ, ◌≤◌, refl, arith}
use Rattle.std.proofs.lemmas.Bool.Decides.{nat_tests}
use Rattle.expressions.specs.Grammar.{Sign, plus_sign, star_sign, same_sign, differ_sign, byte}
use Rattle.expressions.specs.Machine.{Class, class, letter_byte, nought_byte, opening_byte, closing_byte, bar_byte, sign_byte, other_byte}

pub class_byte : (s : Sign) → class (byte s) ≡ sign_byte s
class_byte plus_sign = refl
class_byte star_sign = refl
class_byte same_sign = refl
class_byte differ_sign = refl

pub class_letter : (c : ℕ) → 97 ≤ c → c ≤ 122 → class c ≡ letter_byte
class_letter c h k = grind (arith, nat_tests)

-- the bytes of a class
abbrev pub Means : ℕ → Class → Type 0
Means c letter_byte = (97 ≤ c) × (c ≤ 122)
Means c nought_byte = c ≡ 48
Means c opening_byte = c ≡ 40
Means c closing_byte = c ≡ 41
Means c bar_byte = c ≡ 124
Means c (sign_byte s) = c ≡ byte s
Means c other_byte = Unit {0}

pub means : (c : ℕ) → Means c (class c)
means c = grind (arith, nat_tests)
