-- A machine that reads a text byte by byte: what private functions are held to; no public contract cites this file. Assumes nothing.
use Rattle.std.specs.Prelude.{ℕ, ◌+◌, cond, ◌&&◌, List, [], ◌∷◌, ◌==◌, nat_le}
use Rattle.std.proofs.Math.Option.{Option, none, some}
use Rattle.expressions.specs.Exprs.{Expr, epsilon, letter, either, join}
use Rattle.expressions.specs.Grammar.{Sign, plus_sign, star_sign, same_sign, differ_sign, signed, bar, opening, closing, nought}

-- what a byte is in a wording
pub data Class : Type 0 where
  letter_byte : Class
  nought_byte : Class
  opening_byte : Class
  closing_byte : Class
  bar_byte : Class
  sign_byte : Sign → Class
  other_byte : Class

abbrev pub class : ℕ → Class
class c =
    cond (c == opening) opening_byte
    (cond (c == closing) closing_byte
    (cond (c == bar) bar_byte
    (cond (c == nought) nought_byte
    (cond (c == 43) (sign_byte plus_sign)
    (cond (c == 42) (sign_byte star_sign)
    (cond (c == 61) (sign_byte same_sign)
    (cond (c == 126) (sign_byte differ_sign)
    (cond (nat_le 97 c && nat_le c 122) letter_byte other_byte))))))))

-- an open bracket: what stands before it in its expression (left of the last `|`), and in its run
pub record Frame : Type 0 where
  pub alt : Option Expr
  pub run : Option Expr

-- an atom has to come; or an item stands
pub data State : Type 0 where
  expect : List Frame → Option Expr → Option Expr → State
  after : List Frame → Option Expr → Option Expr → Expr → State

-- an item behind a run, and what stands so far in an expression
abbrev pub joined : Option Expr → Expr → Expr
joined none e = e
joined (some r) e = join r e

abbrev pub total : Option Expr → Option Expr → Expr → Expr
total none run e = joined run e
total (some a) run e = either a (joined run e)

-- an atom begins
abbrev pub begin : List Frame → Option Expr → Option Expr → ℕ → Class → Option State
begin σ alt run c letter_byte = some (after σ alt run (letter c))
begin σ alt run c nought_byte = some (after σ alt run epsilon)
begin σ alt run c opening_byte = some (expect (record { alt = alt; run = run } ∷ σ) none none)
begin σ alt run c closing_byte = none
begin σ alt run c bar_byte = none
begin σ alt run c (sign_byte s) = none
begin σ alt run c other_byte = none

-- a bracket is closed
abbrev pub close : List Frame → Expr → Option State
close [] e = none
close (f ∷ σ) e = some (after σ f.alt f.run e)

-- something comes behind an item
abbrev pub extend : List Frame → Option Expr → Option Expr → Expr → ℕ → Class → Option State
extend σ alt run e c letter_byte = begin σ alt (some (joined run e)) c letter_byte
extend σ alt run e c nought_byte = begin σ alt (some (joined run e)) c nought_byte
extend σ alt run e c opening_byte = begin σ alt (some (joined run e)) c opening_byte
extend σ alt run e c closing_byte = close σ (total alt run e)
extend σ alt run e c bar_byte = some (expect σ (some (total alt run e)) none)
extend σ alt run e c (sign_byte s) = some (after σ alt run (signed s e))
extend σ alt run e c other_byte = none

unfoldable pub step : State → ℕ → Option State
step (expect σ alt run) c = begin σ alt run c (class c)
step (after σ alt run e) c = extend σ alt run e c (class c)

-- the expression of the whole text, or where it goes wrong
pub data Answer : Type 0 where
  good : Expr → Answer
  bad : ℕ → Answer

abbrev pub finish : State → ℕ → Answer
finish (expect σ alt run) n = bad n
finish (after [] alt run e) n = good (total alt run e)
finish (after (f ∷ σ) alt run e) n = bad n

unfoldable pub go : State → List ℕ → ℕ → Answer
go s [] n = finish s n
go s (c ∷ t) n = elim (step s c) [ none ↦ bad n | some s' ↦ go s' t (n + 1) ]

abbrev pub start : State
start = expect [] none none
