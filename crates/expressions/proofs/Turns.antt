-- The reader's turns, over plain values. Assumes nothing.
use Rattle.std.proofs.Common.{◌≡◌, ℕ, ◌+◌, ◌-◌, ◌<◌, ◌≤◌, ◌⊎◌, List, [], ◌∷◌, length, get_or, drop, Ok, Err, Result, sym, refl, ap, ◌∙◌, subst, inl, inr, arith, MatchResult}
use Rattle.std.proofs.Math.Option.{Option, none, some}
use Rattle.std.proofs.lemmas.List.{drop_more, drop_all}
use Rattle.std.proofs.lemmas.Bool.Decides.{nat_tests}
use Rattle.std.proofs.lemmas.Bool.{cases_lt}
use Rattle.expressions.specs.declared.part.Part.{Part}
use Rattle.expressions.specs.declared.part.Part.TheVariants.{Epsilon, Letter, Either, Join}
use Rattle.expressions.specs.declared.draft.Draft.{Draft}
use Rattle.expressions.specs.declared.reader.SyntaxError.{SyntaxError}
use Rattle.expressions.specs.Exprs.{Expr, epsilon, letter, either, join}
use Rattle.expressions.specs.Grammar.{Sign, plus_sign, star_sign, same_sign, differ_sign, byte, signed, bar, opening, closing, nought}
use Rattle.expressions.specs.Machine.{Frame, State, expect, after, joined, total, step, go, bad, finish}
use Rattle.expressions.specs.Numbering.{parts_from}
use Rattle.expressions.specs.Reads.{Pushed, At, NoSign, NoAtom, Next, SignPart, Closed, Unclosed, Moved, AtomRead, ItemRead, ItemsRead, RunRead, RunsRead, ExpressionRead, ItemLost, RunLost, ExpressionLost}
use Rattle.expressions.proofs.Classes.{class_byte, class_letter}
use Rattle.expressions.proofs.Complete.{go_some, go_none}
use Rattle.expressions.proofs.Keeping.{kept_push, grows_sign, grows_two}
use Rattle.expressions.proofs.Numbered.{part}

-- the machine at a place

pub at_some : (s s' : State) (t : List ℕ) (n c : ℕ) → n < length t → get_or t n 0 ≡ c → step s c ≡ some s' → At s t n ≡ At s' t (n + 1)
at_some s s' t n c h e k = rw (drop_more t n 0 h, e) (go_some s s' c (drop (n + 1) t) n k)

pub at_none : (s : State) (t : List ℕ) (n : ℕ) → n < length t → step s (get_or t n 0) ≡ none → At s t n ≡ bad n
at_none s t n h k = rw (drop_more t n 0 h) (go_none s (get_or t n 0) (drop (n + 1) t) n k)

pub at_end : (s : State) (t : List ℕ) (n : ℕ) → length t ≤ n → At s t n ≡ finish s n
unfolding go
at_end s t n h = rw (drop_all n t h)

at_stop : (s : State) (t : List ℕ) (n : ℕ) → (n < length t → step s (get_or t n 0) ≡ none) → finish s n ≡ bad n → At s t n ≡ bad n
at_stop s t n h e = elim (cases_lt n (length t)) [ inl lt ↦ at_none s t n lt (h lt) | inr ge ↦ at_end s t n ge ∙ e ]

pub at_same : (s s' : State) (t : List ℕ) (n : ℕ) → n < length t → step s (get_or t n 0) ≡ step s' (get_or t n 0) → At s t n ≡ At s' t n
unfolding go
at_same s s' t n h k = rw (drop_more t n 0 h) (rw (k, go))

-- where it stops: at a byte that nothing takes

pub stopped :
    (t : List ℕ) (n : ℕ) (f : Frame) (σ : List Frame) (alt run : Option Expr) (i : Expr) → Next t n NoSign → Next t n NoAtom → Next t n (λ c. c ≡ bar → ⊥)
    → Next t n (λ c. c ≡ closing → ⊥) → At (after (f ∷ σ) alt run i) t n ≡ bad n
unfolding step
stopped t n f σ alt run i s a b d = at_stop (after (f ∷ σ) alt run i) t n (λ lt. grind (arith, nat_tests, s lt, a lt, b lt, d lt)) refl

pub short :
    (t : List ℕ) (n : ℕ) (alt run : Option Expr) (i : Expr) → n < length t → Next t n NoSign → Next t n NoAtom → Next t n (λ c. c ≡ bar → ⊥)
    → At (after [] alt run i) t n ≡ bad n
unfolding step
short t n alt run i lt s a b = at_none (after [] alt run i) t n lt (grind (arith, nat_tests, s lt, a lt, b lt))

-- atoms

-- one byte, and its one part
atom_one :
    (t : List ℕ) (from c : ℕ) (b a : Draft) (e : Expr) (x : Part) → ((σ : List Frame) (alt run : Option Expr) → step (expect σ alt run) c ≡ some (after σ alt run e))
    → ((k : ℕ) → parts_from k e ≡ x ∷ []) → from < length t → get_or t from 0 ≡ c → Pushed b a x → AtomRead t from b a (from + 1)
atom_one t from c b a e x goes is lt there p = record {
  item = e;
  moved = record { further = omega arith; within = omega arith; room = omega arith; grew = omega arith };
  goes = λ σ alt run. at_some (expect σ alt run) (after σ alt run e) t from c lt there (goes σ alt run);
  grows = λ P h. rw (is (length P)) (kept_push b a x P p h);
}

pub atom_nought : (t : List ℕ) (from : ℕ) (b a : Draft) → from < length t → get_or t from 0 ≡ nought → Pushed b a Epsilon → AtomRead t from b a (from + 1)
unfolding step parts_from
atom_nought t from b a = atom_one t from nought b a epsilon Epsilon (λ σ alt run. refl) (λ k. refl)

pub atom_letter :
    (t : List ℕ) (from c : ℕ) (b a : Draft) → from < length t → get_or t from 0 ≡ c → 97 ≤ c → c ≤ 122 → Pushed b a (Letter c) → AtomRead t from b a (from + 1)
unfolding step parts_from
atom_letter t from c b a lt e low high = atom_one t from c b a (letter c) (Letter c) (λ σ alt run. rw (class_letter c low high)) (λ k. refl) lt e

opened : (σ : List Frame) (alt run : Option Expr) (t : List ℕ) (from : ℕ) → from < length t → get_or t from 0 ≡ opening → At (expect σ alt run) t from ≡ At (expect (record { alt = alt; run = run } ∷ σ) none none) t (from + 1)
unfolding step
opened σ alt run t from lt e = at_some (expect σ alt run) (expect (record { alt = alt; run = run } ∷ σ) none none) t from opening lt e refl

pub atom_lost : (t : List ℕ) (from : ℕ) → Next t from NoAtom → ItemLost t from from
unfolding step
atom_lost t from h σ alt run = at_stop (expect σ alt run) t from (λ lt. grind (arith, nat_tests, h lt)) refl

pub atom_lost_inside : (t : List ℕ) (from x : ℕ) → from < length t → get_or t from 0 ≡ opening → ExpressionLost t (from + 1) x → ItemLost t from x
atom_lost_inside t from x lt e h σ alt run = opened σ alt run t from lt e ∙ h (record { alt = alt; run = run } ∷ σ)

-- behind an expression in brackets
pub atom_closing :
    (t u : List ℕ) (from to behind : ℕ) (b a : Draft) → u ≡ t → from < length t → get_or t from 0 ≡ opening → ExpressionRead t (from + 1) b a to
    → (r : Result Unit SyntaxError) → MatchResult r (λ _. Closed u to behind) (λ e. Unclosed u to e.at) → MatchResult r (λ _. AtomRead t from b a behind) (λ e. ItemLost t from e.at)
unfolding step
atom_closing t u from to behind b a same lt e x (Ok done) h =
    let k : Closed t to behind = rw same at h in
    let r = x.runs in
    let m : Moved t (from + 1) b a to = r.moved in
    let all : Expr = total r.alt r.run r.item in
    record {
      item = all;
      moved = record { further = omega arith; within = omega arith; room = omega arith; grew = omega arith };
      goes =
          λ σ alt run.
          let τ : List Frame = record { alt = alt; run = run } ∷ σ in
          opened σ alt run t from lt e ∙ r.goes τ ∙ at_some (after τ r.alt r.run r.item) (after σ alt run all) t to closing k.there k.is refl
          ∙ ap (At (after σ alt run all) t) (sym k.behind);
      grows = r.grows;
    }
atom_closing t u from to behind b a same lt e x (Err y) h = λ σ alt run.
    let k : Unclosed t to y.at = rw same at h in
    let r = x.runs in
    let f : Frame = record { alt = alt; run = run } in
    opened σ alt run t from lt e ∙ r.goes (f ∷ σ) ∙ stopped t to f σ r.alt r.run r.item r.no_sign r.no_atom x.no_bar k.not ∙ ap bad (sym k.place)

-- items

-- a sign, by its part
sign_of : (c : ℕ) (x : Part) → SignPart c x → (s : Sign) × (c ≡ byte s) × (x ≡ part s)
sign_of c x (inl h) = (plus_sign, h.0, h.1)
sign_of c x (inr (inl h)) = (star_sign, h.0, h.1)
sign_of c x (inr (inr (inl h))) = (same_sign, h.0, h.1)
sign_of c x (inr (inr (inr h))) = (differ_sign, h.0, h.1)

pub item_turn :
    (t u : List ℕ) (from at : ℕ) (b m a : Draft) (x : Part) → u ≡ t → AtomRead t from b m at → at < length u → SignPart (get_or u at 0) x
    → Pushed m a x → AtomRead t from b a (at + 1)
unfolding step
item_turn t u from at b m a x same h lt c p =
    let lt' : at < length t = rw same at lt in
    let v : Moved t from b m at = h.moved in
    let s = sign_of (get_or t at 0) x (rw same at c) in
    record {
      item = signed s.0 h.item;
      moved = record { further = omega arith; within = omega arith; room = omega arith; grew = omega arith };
      goes = λ σ alt run. h.goes σ alt run ∙ at_some (after σ alt run h.item) (after σ alt run (signed s.0 h.item)) t at (byte s.0) lt' s.1 (rw (class_byte s.0));
      grows = grows_sign b m a h.item s.0 h.grows (subst (Pushed m a) s.2 p);
    }

-- runs

-- how far the reader has moved, by two readings and the part made of them
moved_on :
    (t : List ℕ) (from at next to : ℕ) (b m n a : Draft) (x : Part) → Moved t from b m at → at ≤ next → Moved t next m n to → Pushed n a x → Moved t from b a to
moved_on t from at next to b m n a x v h w p = record { further = omega arith; within = omega arith; room = omega arith; grew = omega arith }

abbrev pub Starts : ℕ → Type 0
Starts c = ((97 ≤ c) × (c ≤ 122)) ⊎ ((c ≡ 48) ⊎ (c ≡ 40))

step_swap : (σ : List Frame) (alt run : Option Expr) (i : Expr) (c : ℕ) → Starts c → step (after σ alt run i) c ≡ step (expect σ alt (some (joined run i))) c
unfolding step
step_swap σ alt run i c h = grind (arith, nat_tests, h)

-- behind a run, the machine goes as it does within a join
run_swap :
    (t : List ℕ) (from at : ℕ) (b m : Draft) (h : ItemsRead t from b m at) → at < length t → Starts (get_or t at 0)
    → (σ : List Frame) (alt : Option Expr) → At (expect σ alt none) t from ≡ At (expect σ alt (some (joined h.run h.item))) t at
run_swap t from at b m h lt c σ alt =
    h.goes σ alt ∙ at_same (after σ alt h.run h.item) (expect σ alt (some (joined h.run h.item))) t at lt (step_swap σ alt h.run h.item (get_or t at 0) c)

pub run_turn :
    (t u : List ℕ) (from at to : ℕ) (b m n a : Draft) (left : ℕ) → u ≡ t → ItemsRead t from b m at → at < length u → Starts (get_or u at 0)
    → ItemRead u at m n to → Pushed n a (Join left) → left ≡ m.count - 1 → ItemsRead t from b a to
unfolding parts_from
run_turn t u from at to b m n a left same h lt c y p l =
    let x : ItemRead t at m n to = rw same at y in
    let e : Expr = joined h.run h.item in
    let f : Expr = x.atom.item in
    record {
      run = some e;
      item = f;
      moved = moved_on t from at at to b m n a (Join left) h.moved (omega arith) x.atom.moved p;
      goes = λ σ alt. run_swap t from at b m h (rw same at lt) (rw same at c) σ alt ∙ x.atom.goes σ alt (some e);
      grows = grows_two b m n a e f (join e f) left Join (λ k. refl) h.grows x.atom.grows p l;
      no_sign = x.no_sign;
    }

pub run_lost :
    (t u : List ℕ) (from at x : ℕ) (b m : Draft) → u ≡ t → ItemsRead t from b m at → at < length u → Starts (get_or u at 0) → ItemLost u at x → RunLost t from x
run_lost t u from at x b m same h lt c k σ alt =
    run_swap t from at b m h (rw same at lt) (rw same at c) σ alt ∙ (rw same at (k σ alt (some (joined h.run h.item))))

-- expressions

-- behind a bar, the machine goes on within an `either`
barred :
    (t : List ℕ) (from at : ℕ) (b m : Draft) (h : RunsRead t from b m at) → at < length t → get_or t at 0 ≡ bar
    → (σ : List Frame) → At (expect σ none none) t from ≡ At (expect σ (some (total h.alt h.run h.item)) none) t (at + 1)
unfolding step
barred t from at b m h lt e σ =
    h.goes σ ∙ at_some (after σ h.alt h.run h.item) (expect σ (some (total h.alt h.run h.item)) none) t at bar lt e refl

pub expression_turn :
    (t u : List ℕ) (from at to : ℕ) (b m n a : Draft) (left : ℕ) → u ≡ t → RunsRead t from b m at → at < length u → get_or u at 0 ≡ bar
    → RunRead u (at + 1) m n to → Pushed n a (Either left) → left ≡ m.count - 1 → RunsRead t from b a to
unfolding parts_from
expression_turn t u from at to b m n a left same h lt c y p l =
    let x : RunRead t (at + 1) m n to = rw same at y in
    let r = x.items in
    let e : Expr = total h.alt h.run h.item in
    let f : Expr = joined r.run r.item in
    record {
      alt = some e;
      run = r.run;
      item = r.item;
      moved = moved_on t from at (at + 1) to b m n a (Either left) h.moved (omega arith) r.moved p;
      goes = λ σ. barred t from at b m h (rw same at lt) (rw same at c) σ ∙ r.goes σ (some e);
      grows = grows_two b m n a e f (either e f) left Either (λ k. refl) h.grows r.grows p l;
      no_sign = r.no_sign;
      no_atom = x.no_atom;
    }

pub expression_lost :
    (t u : List ℕ) (from at x : ℕ) (b m : Draft) → u ≡ t → RunsRead t from b m at → at < length u → get_or u at 0 ≡ bar → RunLost u (at + 1) x → ExpressionLost t from x
expression_lost t u from at x b m same h lt c k σ =
    barred t from at b m h (rw same at lt) (rw same at c) σ ∙ (rw same at (k σ (some (total h.alt h.run h.item))))
