-- All joined pairs in their order: cells that tell which pairs are joined give the list. Assumes nothing.
use Rattle.std.proofs.Common.{◌≡◌, ℕ, zero, suc, ◌+◌, ◌<◌, ◌≤◌, Bool, true, false, cond, leb, ◌⊎◌, inl, inr, List, [], ◌∷◌, ◌++◌, length, Option, Some, None, length-append, append-nil, append_assoc, refl, sym, subst, arith}
use Rattle.std.proofs.lemmas.Bool.{leb-true, leb-false}
use Rattle.std.proofs.lemmas.List.Elements.{All-push, Contains-append_left, Contains-append_right}
use Rattle.std.proofs.lemmas.List.Quantifiers.{all_pairs_push}
use Rattle.std.specs.List.{All, AllPairs, Contains}
use Rattle.expressions.specs.Exprs.{Expr}
use Rattle.graphs.specs.Graphs.{Graph}
use Rattle.languages.proofs.Walks.{joined_within}
use Rattle.languages.specs.Algebra.{Cells}
use Rattle.languages.specs.Cells.{Lengths, long}
use Rattle.queries.specs.Meanings.{IsJoined, JoinedPairs, Counted}
use Rattle.queries.specs.Pairs.{Before, First, Reaches, reached_in_row, reached_pairs, reaches, sum_to, tallied}

-- the pairs before (x, y) of which P holds, in their order
pub record Listed (P : ℕ → ℕ → Type 0) (x y : ℕ) (pairs : List (ℕ × ℕ)) : Type 0 where
  pub holds : All (λ pair. P pair.0 pair.1) pairs
  pub before : All (λ pair. Before pair.0 pair.1 x y) pairs
  pub all : (u v : ℕ) → P u v → Before u v x y → Contains pairs (u, v)
  pub ordered : AllPairs (λ p q. Before p.0 p.1 q.0 q.1) pairs

module _ (P : ℕ → ℕ → Type 0) where
  listed_none : Listed P 0 0 []
  listed_none = record {
    holds = λ k d h. absurd (omega arith);
    before = λ k d h. absurd (omega arith);
    all = λ u v p b. absurd (grind arith);
    ordered = λ i j d h k. absurd (omega arith);
  }

  module _ (x y : ℕ) (pairs : List (ℕ × ℕ)) (l : Listed P x y pairs) where
    before_more : All (λ pair. Before pair.0 pair.1 x (suc y)) pairs
    before_more k d h = let b = l.before k d h in grind arith

    all_more : P x y → (u v : ℕ) → P u v → Before u v x (suc y) → Contains (pairs ++ (x, y) ∷ []) (u, v)
    all_more p u v q (inl lt) = Contains-append_left _ _ _ (l.all u v q (inl lt))
    all_more p u v q (inr (is, lt)) =
        let c : (v < y) ⊎ (v ≡ y) = grind arith in
        elim c [
          | inl below ↦ Contains-append_left _ _ _ (l.all u v q (inr (is, below)))
          | inr same ↦ Contains-append_right pairs _ _ (0, omega arith, cc)
        ]

    listed_with : P x y → Listed P x (suc y) (pairs ++ (x, y) ∷ [])
    listed_with p = record {
      holds = All-push (λ pair. P pair.0 pair.1) pairs (x, y) l.holds p;
      before = All-push (λ pair. Before pair.0 pair.1 x (suc y)) pairs (x, y) before_more (inr (refl, omega arith));
      all = all_more p;
      ordered = all_pairs_push (λ p q. Before p.0 p.1 q.0 q.1) pairs (x, y) l.ordered l.before;
    }

    without : (P x y → ⊥) → (u v : ℕ) → P u v → Before u v x (suc y) → Before u v x y
    without never u v p (inl lt) = inl lt
    without never u v p (inr (is, lt)) =
        let c : (v < y) ⊎ (v ≡ y) = grind arith in
        elim c [ inl below ↦ inr (is, below) | inr same ↦ absurd (never (rw (← is, ← same) p)) ]

    listed_without : (P x y → ⊥) → Listed P x (suc y) pairs
    listed_without never = record {
      holds = l.holds;
      before = before_more;
      all = λ u v p b. l.all u v p (without never u v p b);
      ordered = l.ordered;
    }

  listed_row : (x n : ℕ) (pairs : List (ℕ × ℕ)) → ((u v : ℕ) → P u v → v < n) → Listed P x n pairs → Listed P (suc x) 0 pairs
  listed_row x n pairs within l = record {
    holds = l.holds;
    before = λ k d h. let b = l.before k d h in grind arith;
    all = λ u v p b. let w = within u v p in l.all u v p (grind arith);
    ordered = l.ordered;
  }

one_counted : (pairs : List (ℕ × ℕ)) (x y c : ℕ) (b : Bool) → leb c long ≡ b → length (pairs ++ cond b ((x, y) ∷ []) []) ≡ length pairs + reaches c
one_counted pairs x y c true e = rw e (length-append pairs ((x, y) ∷ []))
one_counted pairs x y c false e = rw e (length-append pairs [])

reached_in_row_counted : (d : ℕ → ℕ → ℕ) (x y : ℕ) → length (reached_in_row d x y) ≡ sum_to (λ v. reaches (d x v)) y
reached_in_row_counted d x zero = refl
reached_in_row_counted d x (suc y) = omega (arith, one_counted (reached_in_row d x y) x y (d x y) (leb (d x y) long) refl, reached_in_row_counted d x y)

pub reached_counted : (d : ℕ → ℕ → ℕ) (n x : ℕ) → length (reached_pairs d n x) ≡ tallied d n x
reached_counted d n zero = refl
reached_counted d n (suc x) = omega (arith, length-append (reached_pairs d n x) (reached_in_row d x n), reached_counted d n x, reached_in_row_counted d x n)

-- where a cell tells of a path just where P holds
module _ (P : ℕ → ℕ → Type 0) (n : ℕ) (d : ℕ → ℕ → ℕ) (within : (u v : ℕ) → P u v → (u < n) × (v < n)) (reached_is : (u v : ℕ) → u < n → v < n → d u v ≤ long → P u v) (is_reached : (u v : ℕ) → P u v → d u v ≤ long) where
  one_listed : (x y : ℕ) → x < n → y < n → (pairs : List (ℕ × ℕ)) → Listed P x y pairs → (b : Bool) → leb (d x y) long ≡ b → Listed P x (suc y) (pairs ++ cond b ((x, y) ∷ []) [])
  one_listed x y h i pairs l true e = listed_with P x y pairs l (reached_is x y h i (leb-true _ _ e))
  one_listed x y h i pairs l false e = subst (Listed P x (suc y)) (sym (append-nil pairs)) (listed_without P x y pairs l (λ p. omega (arith, is_reached x y p, leb-false _ _ e)))

  row_listed : (x y : ℕ) → x < n → y ≤ n → (pairs : List (ℕ × ℕ)) → Listed P x 0 pairs → Listed P x y (pairs ++ reached_in_row d x y)
  row_listed x zero h i pairs l = subst (Listed P x 0) (sym (append-nil pairs)) l
  row_listed x (suc y) h i pairs l =
      subst (Listed P x (suc y)) (append_assoc pairs (reached_in_row d x y) _)
      (one_listed x y h (omega arith) (pairs ++ reached_in_row d x y) (row_listed x y h (omega arith) pairs l) (leb (d x y) long) refl)

  rows_listed : (x : ℕ) → x ≤ n → Listed P x 0 (reached_pairs d n x)
  rows_listed zero h = listed_none P
  rows_listed (suc x) h = listed_row P x n _ (λ u v p. (within u v p).1) (row_listed x n (omega arith) (omega arith) (reached_pairs d n x) (rows_listed x (omega arith)))

-- cells of an expression tell which pairs are joined
module _ (g : Graph) (e : Expr) (d : ℕ → ℕ → ℕ) (cells : Cells g.entries (Lengths g e) d) where
  pub reached_joined : (u v : ℕ) → u < g.entries → v < g.entries → d u v ≤ long → IsJoined g e u v
  reached_joined u v h k l = let c = (cells u v h k).some (omega arith) in (c.1.0, c.1.1)

  pub joined_reached : (u v : ℕ) → IsJoined g e u v → d u v ≤ long
  joined_reached u v j =
      let i = joined_within g e u v j in
      omega (arith, (cells u v i.0 i.1).least (length j.0) (j.0, j.1, refl))

  -- so they are listed by them
  pub pairs_listed : JoinedPairs g e (reached_pairs d g.entries g.entries)
  pairs_listed =
      let l = rows_listed (IsJoined g e) g.entries d (joined_within g e) reached_joined joined_reached g.entries (omega arith) in
      record { joined = l.holds; all = λ u v j. l.all u v j (inl (joined_within g e u v j).0); ordered = l.ordered }

  -- their number is that of the cells that are reached
  pub pairs_counted : Counted g e (tallied d g.entries g.entries)
  pairs_counted = (reached_pairs d g.entries g.entries, pairs_listed, reached_counted d g.entries g.entries)

  -- and the first pair that is reached is the first that is joined
  pub first_joined : (Reach : ℕ → ℕ → Type 0) (a : Option (ℕ × ℕ)) → First Reach g.entries (Reaches d) a → First Reach g.entries (IsJoined g e) a
  first_joined Reach None f = λ u v h k r j. f u v h k r (joined_reached u v j)
  first_joined Reach (Some pair) f = record {
    row = f.row;
    column = f.column;
    reached = f.reached;
    holds = reached_joined _ _ f.row f.column f.holds;
    none_before = λ a b h k r o j. f.none_before a b h k r o (joined_reached a b j);
  }
