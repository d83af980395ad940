-- Which text stands for which expression. Assumes nothing.
use Rattle.std.specs.Prelude.{ℕ, ◌≤◌, List, [], ◌∷◌, ◌++◌}
use Rattle.expressions.specs.Exprs.{Expr, epsilon, letter, either, join, plus, star, same, differ}

-- a wording has at most so many bytes, and its expression at most so many parts
abbrev pub most_bytes : ℕ
most_bytes = 200

abbrev pub most_parts : ℕ
most_parts = 32

-- the signs + * = ~
pub data Sign : Type 0 where
  plus_sign : Sign
  star_sign : Sign
  same_sign : Sign
  differ_sign : Sign

-- the byte of a sign
abbrev pub byte : Sign → ℕ
byte plus_sign = 43
byte star_sign = 42
byte same_sign = 61
byte differ_sign = 126

-- an expression with a sign behind it
abbrev pub signed : Sign → Expr → Expr
signed plus_sign e = plus e
signed star_sign e = star e
signed same_sign e = same e
signed differ_sign e = differ e

-- the bytes | ( ) 0
abbrev pub bar : ℕ
bar = 124

abbrev pub opening : ℕ
opening = 40

abbrev pub closing : ℕ
closing = 41

abbrev pub nought : ℕ
nought = 48

mutual
  -- an expression: a run alone, or with `|` and a run behind an expression; so of three runs the first two belong together
  pub data Expression : List ℕ → Expr → Type 0 where
    a_run : {t : List ℕ} {e : Expr} → Run t e → Expression t e
    or_run : {t u : List ℕ} {e f : Expr} → Expression t e → Run u f → Expression (t ++ (bar ∷ u)) (either e f)

  -- a run: an item alone, or with an item behind a run; so of three items the first two are joined first
  pub data Run : List ℕ → Expr → Type 0 where
    an_item : {t : List ℕ} {e : Expr} → Item t e → Run t e
    and_item : {t u : List ℕ} {e f : Expr} → Run t e → Item u f → Run (t ++ u) (join e f)

  -- an item: an atom alone, or with a sign behind an item
  pub data Item : List ℕ → Expr → Type 0 where
    an_atom : {t : List ℕ} {e : Expr} → Atom t e → Item t e
    with_sign : {t : List ℕ} {e : Expr} → Item t e → (s : Sign) → Item (t ++ (byte s ∷ [])) (signed s e)

  -- an atom: a letter a to z, the byte `0`, or brackets and an expression between them
  pub data Atom : List ℕ → Expr → Type 0 where
    a_letter : {c : ℕ} → 97 ≤ c → c ≤ 122 → Atom (c ∷ []) (letter c)
    a_nought : Atom (nought ∷ []) epsilon
    in_brackets : {t : List ℕ} {e : Expr} → Expression t e → Atom (opening ∷ (t ++ (closing ∷ []))) e
