-- The machine reads every expression.
use Rattle.std.proofs.Common.{◌≡◌, ℕ, ◌+◌, List, [], ◌∷◌, ◌++◌, length, sym, refl, ap, ◌∙◌, append_assoc, append-nil, arith, length-append}
use Rattle.std.proofs.Math.Option.{Option, none, some}
use Rattle.expressions.specs.Exprs.{Expr, epsilon, letter, either, join}
use Rattle.expressions.specs.Grammar.{byte, signed, Expression, a_run, or_run, Run, an_item, and_item, Item, an_atom, with_sign, Atom, a_letter, a_nought, in_brackets}
use Rattle.expressions.specs.Machine.{Frame, State, expect, after, joined, total, step, go, good, bad, start}
use Rattle.expressions.proofs.Classes.{class_byte, class_letter}

pub go_some : (s s' : State) (c : ℕ) (t : List ℕ) (n : ℕ) → step s c ≡ some s' → go s (c ∷ t) n ≡ go s' t (n + 1)
unfolding go
go_some s s' c t n e = rw (e, go)

pub go_none : (s : State) (c : ℕ) (t : List ℕ) (n : ℕ) → step s c ≡ none → go s (c ∷ t) n ≡ bad n
unfolding go
go_none s c t n e = rw (e, go)

-- an expression, a run and an item were read
abbrev RanE : List Frame → List ℕ → Expr → List ℕ → ℕ → Type 0
RanE σ t e rest n =
    (alt : Option Expr) × (run : Option Expr) × (i : Expr) × (total alt run i ≡ e) × (go (expect σ none none) (t ++ rest) n ≡ go (after σ alt run i) rest (n + length t))

abbrev RanR : List Frame → Option Expr → List ℕ → Expr → List ℕ → ℕ → Type 0
RanR σ alt t e rest n =
    (run : Option Expr) × (i : Expr) × (joined run i ≡ e) × (go (expect σ alt none) (t ++ rest) n ≡ go (after σ alt run i) rest (n + length t))

abbrev RanI : List Frame → Option Expr → Option Expr → List ℕ → Expr → List ℕ → ℕ → Type 0
RanI σ alt run t e rest n = go (expect σ alt run) (t ++ rest) n ≡ go (after σ alt run e) rest (n + length t)

at : (s : State) (rest : List ℕ) (m n : ℕ) → m ≡ n → go s rest m ≡ go s rest n
at s rest m n e = ap (go s rest) e

-- before an item, a join is as good as started
atom_swap :
    {u : List ℕ} {f : Expr} → Atom u f → (σ : List Frame) (alt run : Option Expr) (i : Expr) (rest : List ℕ) (m : ℕ)
    → go (after σ alt run i) (u ++ rest) m ≡ go (expect σ alt (some (joined run i))) (u ++ rest) m
unfolding step go
atom_swap (a_letter {c} h k) σ alt run i rest m =
    go_some (after σ alt run i) (after σ alt (some (joined run i)) (letter c)) c rest m (rw (class_letter c h k))
    ∙ sym (go_some (expect σ alt (some (joined run i))) (after σ alt (some (joined run i)) (letter c)) c rest m (rw (class_letter c h k)))
atom_swap a_nought σ alt run i rest m = refl
atom_swap (in_brackets x) σ alt run i rest m = refl

item_swap :
    {u : List ℕ} {f : Expr} → Item u f → (σ : List Frame) (alt run : Option Expr) (i : Expr) (rest : List ℕ) (m : ℕ)
    → go (after σ alt run i) (u ++ rest) m ≡ go (expect σ alt (some (joined run i))) (u ++ rest) m
item_swap (an_atom a) σ alt run i rest m = atom_swap a σ alt run i rest m
item_swap (with_sign {t} x s) σ alt run i rest m = rw append_assoc (item_swap x σ alt run i (byte s ∷ rest) m)

mutual
  unfolding step

  pub expression_go : {t : List ℕ} {e : Expr} → Expression t e → (σ : List Frame) (rest : List ℕ) (n : ℕ) → RanE σ t e rest n
  expression_go (a_run r) σ rest n = let x = run_go r σ none rest n in (none, x.0, x.1, x.2, x.3)
  expression_go (or_run {t} {u} {e} {f} d r) σ rest n =
      let x = expression_go d σ (124 ∷ (u ++ rest)) n in
      let all : Expr = total x.0 x.1 x.2 in
      let y = run_go r σ (some all) rest (n + length t + 1) in
      let h : either all (joined y.0 y.1) ≡ either e f = cc (x.3, y.2) in (
        some all,
        y.0,
        y.1,
        h,
        rw append_assoc
            (x.4 ∙ go_some (after σ x.0 x.1 x.2) (expect σ (some all) none) 124 (u ++ rest) (n + length t) refl ∙ y.3
            ∙ at (after σ (some all) y.0 y.1) rest (n + length t + 1 + length u) (n + length (t ++ (124 ∷ u))) (simp length-append (omega arith))),
      )

  pub run_go : {t : List ℕ} {e : Expr} → Run t e → (σ : List Frame) (alt : Option Expr) (rest : List ℕ) (n : ℕ) → RanR σ alt t e rest n
  run_go (an_item {e} i) σ alt rest n = (none, e, refl, item_go i σ alt none rest n)
  run_go (and_item {t} {u} {e} {f} r i) σ alt rest n =
      let x = run_go r σ alt (u ++ rest) n in
      let all : Expr = joined x.0 x.1 in
      let h : join all f ≡ join e f = cc x.2 in (
        some all,
        f,
        h,
        rw append_assoc
            (x.3 ∙ item_swap i σ alt x.0 x.1 rest (n + length t) ∙ item_go i σ alt (some all) rest (n + length t)
            ∙ at (after σ alt (some all) f) rest (n + length t + length u) (n + length (t ++ u)) (simp length-append (omega arith))),
      )

  pub item_go : {t : List ℕ} {e : Expr} → Item t e → (σ : List Frame) (alt run : Option Expr) (rest : List ℕ) (n : ℕ) → RanI σ alt run t e rest n
  item_go (an_atom a) σ alt run rest n = atom_go a σ alt run rest n
  item_go (with_sign {t} {e} i s) σ alt run rest n =
      rw append_assoc
      (item_go i σ alt run (byte s ∷ rest) n
      ∙ go_some (after σ alt run e) (after σ alt run (signed s e)) (byte s) rest (n + length t) (rw (class_byte s))
      ∙ at (after σ alt run (signed s e)) rest (n + length t + 1) (n + length (t ++ (byte s ∷ []))) (simp length-append (omega arith)))

  pub atom_go : {t : List ℕ} {e : Expr} → Atom t e → (σ : List Frame) (alt run : Option Expr) (rest : List ℕ) (n : ℕ) → RanI σ alt run t e rest n
  atom_go (a_letter {c} h k) σ alt run rest n = go_some (expect σ alt run) (after σ alt run (letter c)) c rest n (rw (class_letter c h k))
  atom_go a_nought σ alt run rest n = go_some (expect σ alt run) (after σ alt run epsilon) 48 rest n refl
  atom_go (in_brackets {t} {e} d) σ alt run rest n =
      let τ : List Frame = record { alt = alt; run = run } ∷ σ in
      let x = expression_go d τ (41 ∷ rest) (n + 1) in
      rw append_assoc
      (go_some (expect σ alt run) (expect τ none none) 40 (t ++ (41 ∷ rest)) n refl ∙ x.4
      ∙ go_some (after τ x.0 x.1 x.2) (after σ alt run e) 41 rest (n + 1 + length t) (ap (λ y. some (after σ alt run y)) x.3)
      ∙ at (after σ alt run e) rest (n + 1 + length t + 1) (n + length (40 ∷ (t ++ (41 ∷ [])))) (simp length-append (omega arith)))

-- of a whole text
pub complete : (t : List ℕ) (e : Expr) → Expression t e → go start t 0 ≡ good e
unfolding go
complete t e d =
    let x = expression_go d [] [] 0 in
    let p : go start (t ++ []) 0 ≡ good (total x.0 x.1 x.2) = x.4 in
    let q : go start t 0 ≡ good (total x.0 x.1 x.2) = rw append-nil at p in
    q ∙ ap good x.3
