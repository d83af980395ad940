-- A walk of next calls is answered the joined pairs in their order. Assumes nothing.
use Rattle.std.proofs.Common.{◌≡◌, ℕ, suc, ◌+◌, ◌<◌, ◌≤◌, Bool, true, false, inl, inr, List, [], ◌∷◌, ◌++◌, length, get_or, take, reverse, slice_get, Option, Some, None, Ok, Err, refl, ap, sym, ◌∙◌, arith}
use Rattle.std.proofs.lemmas.Bool.{cases_lt, cases_order}
use Rattle.std.proofs.lemmas.List.{get_or_push, get_or-take, length-reverse, length-take, reverse-append, take_more}
use Rattle.std.proofs.lemmas.Option.{get_or_from_slice_get, slice_get-get_or, slice_get_past, slice_get_within}
use Rattle.std.specs.Bool.{MatchBool}
use Rattle.expressions.specs.Exprs.{Expr}
use Rattle.graphs.specs.Graphs.{Graph}
use Rattle.languages.proofs.Walks.{joined_within}
use Rattle.queries.specs.Calls.{outside}
use Rattle.queries.specs.Pairs.{After, Before, First}
use Rattle.refusals.specs.Rows.{IsRefused}
use Rattle.refusals.specs.declared.Refusal.TheVariants.{NoSuchEntry}
use Rattle.runs.specs.Histories.{next, Event, wording, evaluation, question, History}
use Rattle.queries.specs.Meanings.{IsJoined, JoinedPairs}
use Rattle.runs.specs.Laws.{Standing, evaluated, Answers, Obeys, Stays, latest, Walk, begins, goes_on, waits, Obeyed, call}

-- no pair comes before itself, or before one that comes before it
not_both : (p q : ℕ × ℕ) → Before p.0 p.1 q.0 q.1 → Before q.0 q.1 p.0 p.1 → ⊥
not_both p q a b = grind arith

-- the pairs that a walk has been answered are the first of a list
abbrev pub Firsts : List (ℕ × ℕ) → List (ℕ × ℕ) → Type 0
Firsts pairs before = reverse before ≡ take (length before) pairs

module _ (g : Graph) (e : Expr) (pairs : List (ℕ × ℕ)) (l : JoinedPairs g e pairs) where
  firsts_length : (before : List (ℕ × ℕ)) → Firsts pairs before → length before ≤ length pairs
  firsts_length before f = omega (arith, ap length f, length-reverse before, length-take (length before) pairs)

  turned : (q : ℕ × ℕ) (before : List (ℕ × ℕ)) → reverse (q ∷ before) ≡ reverse before ++ (q ∷ [])
  turned q before = reverse-append (q ∷ []) before

  latest_is : (q d : ℕ × ℕ) (before : List (ℕ × ℕ)) → Firsts pairs (q ∷ before) → get_or pairs (length before) d ≡ q
  latest_is q d before f =
      let n : length (reverse before) ≡ length before = length-reverse before in
      sym (get_or-take (length (q ∷ before)) pairs (length before) d (omega arith)) ∙ ap (λ xs. get_or xs (length before) d) (sym f ∙ turned q before) ∙ get_or_push (reverse before) q d (length before) n

  -- so a pair of the list comes after the latest just where its place is behind theirs
  ahead : (before : List (ℕ × ℕ)) (j : ℕ) (d : ℕ × ℕ) → Firsts pairs before → length before ≤ j → j < length pairs → After (latest before) (get_or pairs j d).0 (get_or pairs j d).1
  ahead [] j d f h k = tt
  ahead (q ∷ before) j d f h k = rw (latest_is q d before f) at (l.ordered (length before) j d (omega arith) k)

  behind : (before : List (ℕ × ℕ)) (j : ℕ) (d : ℕ × ℕ) → Firsts pairs before → j < length pairs → After (latest before) (get_or pairs j d).0 (get_or pairs j d).1 → length before ≤ j
  behind [] j d f k a = omega arith
  behind (q ∷ before) j d f k a = elim (cases_order j (length before)) [
    | inl is ↦ absurd (let same : get_or pairs j d ≡ q = rw is (latest_is q d before f) in not_both q q (rw same at a) (rw same at a))
    | inr (inl lt) ↦ absurd (not_both q (get_or pairs j d) a (rw (latest_is q d before f) at (l.ordered j (length before) d lt (firsts_length (q ∷ before) f))))
    | inr (inr gt) ↦ omega arith
  ]

  -- the first joined pair after the latest is the next of the list
  pub next_is : (before : List (ℕ × ℕ)) (a : Option (ℕ × ℕ)) → Firsts pairs before → First (After (latest before)) g.entries (IsJoined g e) a → a ≡ slice_get pairs (length before)
  next_is before None f h = elim (cases_lt (length before) (length pairs)) [
    | inl lt ↦
        let d : ℕ × ℕ = (0, 0) in
        let p = get_or pairs (length before) d in
        let j = l.joined (length before) d lt in
        let i = joined_within g e p.0 p.1 j in
        absurd (h p.0 p.1 i.0 i.1 (ahead before (length before) d f (omega arith) lt) j)
    | inr past ↦ sym (slice_get_past pairs (length before) past)
  ]
  next_is before (Some p) f h =
      let c = l.all p.0 p.1 h.holds in
      let b = behind before c.0 p f c.1 (rw c.2 h.reached) in
      elim (cases_order (length before) c.0) [
        | inl is ↦ sym (slice_get-get_or pairs (length before) p (omega (arith, c.1)) ∙ ap Some (rw is c.2))
        | inr (inl lt) ↦
            let q = get_or pairs (length before) p in
            let j = l.joined (length before) p (omega (arith, c.1)) in
            let i = joined_within g e q.0 q.1 j in
            absurd (h.none_before q.0 q.1 i.0 i.1 (ahead before (length before) p f (omega arith) (omega (arith, c.1))) (rw c.2 at (l.ordered (length before) c.0 p lt c.1)) j)
        | inr (inr gt) ↦ absurd (omega (arith, b, gt))
      ]

  -- and a walk that is answered it has been answered one more
  firsts_more : (before : List (ℕ × ℕ)) (p : ℕ × ℕ) → Firsts pairs before → Some p ≡ slice_get pairs (length before) → Firsts pairs (p ∷ before)
  firsts_more before p f is =
      let i = slice_get_within pairs (length before) p (sym is) in
      let at = get_or_from_slice_get pairs (length before) p p (sym is) in
      let one : suc (length before) ≡ length before + 1 = omega arith in
      let more : take (length before + 1) pairs ≡ take (length before) pairs ++ (p ∷ []) = take_more pairs (length before) p i ∙ ap (λ q. take (length before) pairs ++ (q ∷ [])) at in
      turned p before ∙ ap (λ xs. xs ++ (p ∷ [])) f ∙ sym more ∙ ap (λ n. take n pairs) (sym one)

-- the law of the latest call
last_call : (h : History) (x : Event) (s' : Standing) → Obeyed (x ∷ h) s' → (s : Standing) × Obeyed h s × Obeys s x s'
last_call h x s' (call {s = s} before o f) = (s, before, o)

-- a call that a walk goes on behind leaves the standing as it is
standing_stays : (s s' : Standing) (x : Event) → Stays x → Obeys s x s' → s' ≡ s
standing_stays s s' (wording text (Ok done)) w o = absurd w
standing_stays s s' (wording text (Err x)) w o = o.1
standing_stays s s' (evaluation cells before g (Ok done)) w o = absurd w
standing_stays s s' (evaluation cells before g (Err x)) w o = o.1
standing_stays s s' (question x) w o = o.1

-- the answer of a next that was accepted
answered : (g : Graph) (e : Expr) (given a : Option (ℕ × ℕ)) (b : Bool) → MatchBool b (IsRefused {T = Option (ℕ × ℕ)} (Ok a) 42 0 NoSuchEntry) (First (After given) g.entries (IsJoined g e) a) → First (After given) g.entries (IsJoined g e) a
answered g e given a true h = absurd (cc h.0)
answered g e given a false h = h

pub next_answered : (g : Graph) (e : Expr) (given a : Option (ℕ × ℕ)) → Answers (evaluated e g) (next given (Ok a)) → First (After given) g.entries (IsJoined g e) a
next_answered g e given a o = answered g e given a (outside g.entries given) o

pub walk_firsts : (g : Graph) (e : Expr) (pairs : List (ℕ × ℕ)) → JoinedPairs g e pairs → {h : History} {before : List (ℕ × ℕ)} → Walk h before → Obeyed h (evaluated e g) → Firsts pairs before
walk_firsts g e pairs l begins w = refl
walk_firsts g e pairs l (goes_on {h = h} {pairs = before} p walk) w =
    let c = last_call h _ _ w in
    let same : c.0 ≡ evaluated e g = sym c.2.1 in
    let f = walk_firsts g e pairs l walk (rw same at c.1) in
    firsts_more g e pairs l before p f (next_is g e pairs l before (Some p) f (next_answered g e (latest before) (Some p) (rw same at c.2.0)))
walk_firsts g e pairs l (waits {h = h} x stays walk) w =
    let c = last_call h x _ w in
    let same : c.0 ≡ evaluated e g = sym (standing_stays c.0 _ x stays c.2) in
    walk_firsts g e pairs l walk (rw same at c.1)
