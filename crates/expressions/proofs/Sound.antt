-- What the machine has read stands for what it holds; and where it stops, nothing goes on.
use Rattle.std.proofs.Common.{◌≡◌, ℕ, ◌+◌, List, [], ◌∷◌, ◌++◌, length, sym, refl, ap, ◌∙◌, subst, append_assoc, append-nil, arith}
use Rattle.std.proofs.Math.Option.{Option, none, some}
use Rattle.expressions.specs.Exprs.{Expr, letter, either}
use Rattle.expressions.specs.Grammar.{byte, Expression, a_run, or_run, Run, an_item, and_item, Item, an_atom, with_sign, a_letter, a_nought, in_brackets}
use Rattle.expressions.specs.Wordings.{Begins}
use Rattle.expressions.specs.Machine.{Class, class, letter_byte, nought_byte, opening_byte, closing_byte, bar_byte, sign_byte, other_byte, Frame, State, expect, after, joined, total, step, go, Answer, good, bad, finish, begin, extend, close}
use Rattle.expressions.proofs.Classes.{Means, means}
use Rattle.expressions.proofs.Complete.{go_some, go_none}

abbrev pub Alt : Option Expr → List ℕ → Type 0
Alt none q = q ≡ []
Alt (some e) q = (t : List ℕ) × (q ≡ t ++ (124 ∷ [])) × Expression t e

abbrev pub Rn : Option Expr → List ℕ → Type 0
Rn none r = r ≡ []
Rn (some e) r = Run r e

abbrev pub Under : List Frame → List ℕ → Type 0
Under [] p = p ≡ []
Under (f ∷ σ) p =
    (a : List ℕ) × (q : List ℕ) × (r : List ℕ) × (p ≡ a ++ (q ++ (r ++ (40 ∷ [])))) × Under σ a × Alt f.alt q × Rn f.run r

abbrev pub Holds : State → List ℕ → Type 0
Holds (expect σ alt run) p = (a : List ℕ) × (q : List ℕ) × (r : List ℕ) × (p ≡ a ++ (q ++ r)) × Under σ a × Alt alt q × Rn run r
Holds (after σ alt run i) p =
    (a : List ℕ) × (q : List ℕ) × (r : List ℕ) × (s : List ℕ) × (p ≡ a ++ (q ++ (r ++ s))) × Under σ a × Alt alt q × Rn run r × Item s i

run_of : (run : Option Expr) (r s : List ℕ) (i : Expr) → Rn run r → Item s i → Run (r ++ s) (joined run i)
run_of none r s i e x = subst (λ w. Run (w ++ s) i) (sym e) (an_item x)
run_of (some y) r s i d x = and_item d x

whole_of : (alt run : Option Expr) (q r s : List ℕ) (i : Expr) → Alt alt q → Rn run r → Item s i → Expression (q ++ (r ++ s)) (total alt run i)
whole_of none run q r s i e d x = subst (λ w. Expression (w ++ (r ++ s)) (joined run i)) (sym e) (a_run (run_of run r s i d x))
whole_of (some y) run q r s i e d x =
    let z : Expression (e.0 ++ (124 ∷ (r ++ s))) (either y (joined run i)) = or_run e.2 (run_of run r s i d x) in
    rw (e.1, append_assoc) z

abbrev pub Held : Option State → List ℕ → Type 0
Held none p = Unit {0}
Held (some s) p = Holds s p

begin_held :
    (σ : List Frame) (alt run : Option Expr) (c : ℕ) (k : Class) → Means c k → (p : List ℕ) → Holds (expect σ alt run) p
    → Held (begin σ alt run c k) (p ++ (c ∷ []))
begin_held σ alt run c letter_byte m p h =
    (h.0, h.1, h.2, c ∷ [], rw h.3 (simp append_assoc), h.4, h.5, h.6, an_atom (a_letter m.0 m.1))
begin_held σ alt run c nought_byte m p h =
    (h.0, h.1, h.2, 48 ∷ [], rw (h.3, m) (simp append_assoc), h.4, h.5, h.6, an_atom a_nought)
begin_held σ alt run c opening_byte m p h =
    (p ++ (c ∷ []), [], [], sym (append-nil (p ++ (c ∷ []))), (h.0, h.1, h.2, rw (h.3, m) (simp append_assoc), h.4, h.5, h.6), refl, refl)
begin_held σ alt run c closing_byte m p h = tt
begin_held σ alt run c bar_byte m p h = tt
begin_held σ alt run c (sign_byte s) m p h = tt
begin_held σ alt run c other_byte m p h = tt

-- an item that stands begins a join
turned : (σ : List Frame) (alt run : Option Expr) (i : Expr) (p : List ℕ) → Holds (after σ alt run i) p → Holds (expect σ alt (some (joined run i))) p
turned σ alt run i p h = (h.0, h.1, h.2 ++ h.3, h.4, h.5, h.6, run_of run h.2 h.3 i h.7 h.8)

close_held :
    (σ : List Frame) (e : Expr) (a t : List ℕ) → Under σ a → Expression t e → Held (close σ e) ((a ++ t) ++ (41 ∷ []))
close_held [] e a t u d = tt
close_held (f ∷ σ) e a t u d =
    (u.0, u.1, u.2, 40 ∷ (t ++ (41 ∷ [])), rw u.3 (simp append_assoc), u.4, u.5, u.6, an_atom (in_brackets d))

extend_held :
    (σ : List Frame) (alt run : Option Expr) (i : Expr) (c : ℕ) (k : Class) → Means c k → (p : List ℕ) → Holds (after σ alt run i) p
    → Held (extend σ alt run i c k) (p ++ (c ∷ []))
extend_held σ alt run i c letter_byte m p h = begin_held σ alt (some (joined run i)) c letter_byte m p (turned σ alt run i p h)
extend_held σ alt run i c nought_byte m p h = begin_held σ alt (some (joined run i)) c nought_byte m p (turned σ alt run i p h)
extend_held σ alt run i c opening_byte m p h = begin_held σ alt (some (joined run i)) c opening_byte m p (turned σ alt run i p h)
extend_held σ alt run i c closing_byte m p h =
    rw (h.4, m) (close_held σ (total alt run i) h.0 (h.1 ++ (h.2 ++ h.3)) h.5 (whole_of alt run h.1 h.2 h.3 i h.6 h.7 h.8))
extend_held σ alt run i c bar_byte m p h = (
  h.0,
  (h.1 ++ (h.2 ++ h.3)) ++ (124 ∷ []),
  [],
  rw (h.4, m) (simp (append_assoc, append-nil)),
  h.5,
  (h.1 ++ (h.2 ++ h.3), refl, whole_of alt run h.1 h.2 h.3 i h.6 h.7 h.8),
  refl,
)
extend_held σ alt run i c (sign_byte s) m p h =
    (h.0, h.1, h.2, h.3 ++ (byte s ∷ []), rw (h.4, m) (simp append_assoc), h.5, h.6, h.7, with_sign h.8 s)
extend_held σ alt run i c other_byte m p h = tt

step_held : (s : State) (c : ℕ) (p : List ℕ) → Holds s p → Held (step s c) (p ++ (c ∷ []))
unfolding step
step_held (expect σ alt run) c p h = begin_held σ alt run c (class c) (means c) p h
step_held (after σ alt run i) c p h = extend_held σ alt run i c (class c) (means c) p h

-- brackets can be closed
closing : (σ : List Frame) (p : List ℕ) → Under σ p → (t : List ℕ) (e : Expr) → Expression t e → Begins (p ++ t)
closing [] p u t e d = ([], e, rw (u, append-nil) d)
closing (f ∷ σ) p u t e d =
    let x = closing σ u.0 u.4 (u.1 ++ (u.2 ++ (40 ∷ (t ++ (41 ∷ []))))) (total f.alt f.run e)
    (whole_of f.alt f.run u.1 u.2 (40 ∷ (t ++ (41 ∷ []))) e u.5 u.6 (an_atom (in_brackets d))) in
    (41 ∷ x.0, x.1, rw u.3 (simp append_assoc (simp append_assoc at x.2)))

viable : (s : State) (p : List ℕ) → Holds s p → Begins p
viable (expect σ alt run) p h =
    let x = closing σ h.0 h.4 (h.1 ++ (h.2 ++ (97 ∷ []))) (total alt run (letter 97))
    (whole_of alt run h.1 h.2 (97 ∷ []) (letter 97) h.5 h.6 (an_atom (a_letter (omega arith) (omega arith)))) in
    (97 ∷ x.0, x.1, rw h.3 (simp append_assoc (simp append_assoc at x.2)))
viable (after σ alt run i) p h =
    rw h.4 (closing σ h.0 h.5 (h.1 ++ (h.2 ++ h.3)) (total alt run i) (whole_of alt run h.1 h.2 h.3 i h.6 h.7 h.8))

-- what an answer says of the rest t, from a state s after the text p, at place n
abbrev pub Stuck : State → List ℕ → List ℕ → ℕ → ℕ → Type 0
Stuck s a [] n m = Unit {0}
Stuck s a (c ∷ b) n m = (more : List ℕ) → go s (a ++ (c ∷ more)) n ≡ bad m

abbrev pub Right : State → List ℕ → List ℕ → ℕ → Answer → Type 0
Right s p t n (good e) = Expression (p ++ t) e
Right s p t n (bad m) = (a : List ℕ) × (b : List ℕ) × (t ≡ a ++ b) × (m ≡ n + length a) × Begins (p ++ a) × Stuck s a b n m

at_end : (s : State) (p : List ℕ) (n : ℕ) → Holds s p → Right s p [] n (finish s n)
at_end (expect σ alt run) p n h = ([], [], refl, omega arith, rw append-nil (viable (expect σ alt run) p h), tt)
at_end (after [] alt run i) p n h =
    rw (append-nil, h.4, h.5) (whole_of alt run h.1 h.2 h.3 i h.6 h.7 h.8)
at_end (after (f ∷ σ) alt run i) p n h = ([], [], refl, omega arith, rw append-nil (viable (after (f ∷ σ) alt run i) p h), tt)

onward : (s s' : State) (p : List ℕ) (c : ℕ) (t : List ℕ) (n : ℕ) → step s c ≡ some s' → (r : Answer) → Right s' (p ++ (c ∷ [])) t (n + 1) r → Right s p (c ∷ t) n r
onward s s' p c t n e (good x) h = rw append_assoc at h
onward s s' p c t n e (bad m) h =
    (c ∷ h.0, h.1, ap (λ w. c ∷ w) h.2, omega (arith, h.3), rw append_assoc at h.4, later h.1 h.5)
  where
    later : (b : List ℕ) → Stuck s' h.0 b (n + 1) m → Stuck s (c ∷ h.0) b n m
    later [] k = tt
    later (d ∷ b) k = λ more. go_some s s' c (h.0 ++ (d ∷ more)) n e ∙ k more

turn :
    (s : State) (p : List ℕ) (c : ℕ) (t : List ℕ) (n : ℕ) → Holds s p → (o : Option State) → step s c ≡ o → Held o (p ++ (c ∷ []))
    → ((s' : State) → Holds s' (p ++ (c ∷ [])) → Right s' (p ++ (c ∷ [])) t (n + 1) (go s' t (n + 1))) → Right s p (c ∷ t) n (go s (c ∷ t) n)
turn s p c t n h none e k rec =
    subst (Right s p (c ∷ t) n) (sym (go_none s c t n e))
    ([], c ∷ t, refl, omega arith, rw append-nil (viable s p h), λ more. go_none s c more n e)
turn s p c t n h (some s') e k rec =
    subst (Right s p (c ∷ t) n) (sym (go_some s s' c t n e)) (onward s s' p c t n e (go s' t (n + 1)) (rec s' k))

pub right : (t : List ℕ) (s : State) (p : List ℕ) (n : ℕ) → Holds s p → Right s p t n (go s t n)
unfolding go
right [] s p n h = at_end s p n h
right (c ∷ t) s p n h = turn s p c t n h (step s c) refl (step_held s c p h) (λ s' k. right t s' (p ++ (c ∷ [])) (n + 1) k)
