-- A graph and an expression have one listing, where the paths are one. Assumes nothing.
use Rattle.std.proofs.Common.{◌≡◌, ℕ, zero, suc, ◌<◌, ◌⊎◌, inl, inr, List, [], ◌∷◌, ◌++◌, length, flat_map, refl, sym, ap, ap₂, ◌∙◌, subst, arith}
use Rattle.std.specs.List.{All, AllPairs, Contains}
use Rattle.expressions.specs.Exprs.{Expr}
use Rattle.graphs.specs.Graphs.{Graph}
use Rattle.languages.specs.Cells.{long}
use Rattle.languages.specs.Languages.{Joined}
use Rattle.languages.specs.declared.step.Step.{Step}
use Rattle.listing.specs.Lines.{first_line, pair_line}
use Rattle.queries.proofs.Told.{one_told}
use Rattle.queries.specs.Meanings.{IsJoined, JoinedPairs, Told}
use Rattle.queries.specs.Pairs.{Before}
use Rattle.queries.specs.declared.found.Found.{Found}
use Rattle.queries.specs.declared.found.Found.TheVariants.{Steps, Long, Absent}
use Rattle.asking.specs.Listings.{LineBy, LineOf, Lines}

-- lists in one order, with the same elements, are one list
module _ {X : Type 0} (R : X → X → Type 0) (never_both : (x y : X) → R x y → R y x → ⊥) where
  abbrev Within : List X → List X → Type 0
  Within xs ys = (x : X) → Contains xs x → Contains ys x

  later : (x y : X) (ys : List X) → AllPairs R (y ∷ ys) → Contains ys x → R y x
  later x y ys o c = subst (R y) c.2 (o 0 (suc c.0) x (omega arith) (omega (arith, c.1)))

  head_or : (x y : X) (ys : List X) → Contains (y ∷ ys) x → (y ≡ x) ⊎ Contains ys x
  head_or x y ys (zero, h, e) = inl e
  head_or x y ys (suc k, h, e) = inr (k, omega arith, e)

  one_head : (x y : X) (xs ys : List X) → AllPairs R (x ∷ xs) → AllPairs R (y ∷ ys) → (y ≡ x) ⊎ Contains ys x
      → (x ≡ y) ⊎ Contains xs y → x ≡ y
  one_head x y xs ys a b (inl e) d = sym e
  one_head x y xs ys a b (inr c) (inl e) = e
  one_head x y xs ys a b (inr c) (inr d) = absurd (never_both x y (later y x xs a d) (later x y ys b c))

  tail_within : (x : X) (xs ys : List X) → AllPairs R (x ∷ xs) → Within (x ∷ xs) (x ∷ ys) → Within xs ys
  tail_within x xs ys a w z c =
      elim (head_or z x ys (w z (suc c.0, omega (arith, c.1), c.2))) [
        | inl e ↦ (let r = later z x xs a c in absurd (never_both x z r
            (subst (λ y. R z y) (sym e) (subst (λ y. R y z) e r))))
        | inr d ↦ d
      ]

  tail_ordered : (x : X) (xs : List X) → AllPairs R (x ∷ xs) → AllPairs R xs
  tail_ordered x xs a i j d h k = a (suc i) (suc j) d (omega arith) (omega arith)

  pub one_order : (xs ys : List X) → AllPairs R xs → AllPairs R ys → Within xs ys → Within ys xs → xs ≡ ys
  one_order [] [] a b w v = refl
  one_order [] (y ∷ ys) a b w v = let c = v y (0, omega arith, refl) in absurd (let h = c.1 in omega arith)
  one_order (x ∷ xs) [] a b w v = let c = w x (0, omega arith, refl) in absurd (let h = c.1 in omega arith)
  one_order (x ∷ xs) (y ∷ ys) a b w v =
      let e = one_head x y xs ys a b (head_or x y ys (w x (0, omega arith, refl)))
      (head_or y x xs (v y (0, omega arith, refl))) in
      let b' : AllPairs R (x ∷ ys) = subst (λ z. AllPairs R (z ∷ ys)) (sym e) b in
      let w' : Within (x ∷ xs) (x ∷ ys) = subst (λ z. Within (x ∷ xs) (z ∷ ys)) (sym e) w in
      let v' : Within (x ∷ ys) (x ∷ xs) = subst (λ z. Within (z ∷ ys) (x ∷ xs)) (sym e) v in
      ap₂ (λ (z : X) (zs : List X). z ∷ zs) e (one_order xs ys (tail_ordered x xs a) (tail_ordered x ys b')
      (tail_within x xs ys a w') (tail_within x ys xs b' v'))

-- texts that agree at each element make one text
texts_alike : {X : Type 0} (f g : X → List ℕ) (P : X → Type 0) → ((x : X) → P x → f x ≡ g x) → (xs : List X)
    → All P xs → flat_map f xs ≡ flat_map g xs
texts_alike f g P h [] a = refl
texts_alike f g P h (x ∷ xs) a = ap₂ (λ (s t : List ℕ). s ++ t) (h x (a 0 x (omega arith)))
    (texts_alike f g P h xs (λ k d i. a (suc k) d (omega arith)))

not_before : (p q : ℕ × ℕ) → Before p.0 p.1 q.0 q.1 → Before q.0 q.1 p.0 p.1 → ⊥
not_before p q a b = grind arith

module _ (g : Graph) (e : Expr) where
  pub one_pairs : (ps qs : List (ℕ × ℕ)) → JoinedPairs g e ps → JoinedPairs g e qs → ps ≡ qs
  one_pairs ps qs a b =
      one_order (λ p q. Before p.0 p.1 q.0 q.1) not_before ps qs a.ordered b.ordered
      (λ x c. b.all x.0 x.1 (subst (λ p. IsJoined g e p.0 p.1) c.2 (a.joined c.0 x c.1)))
      (λ x c. a.all x.0 x.1 (subst (λ p. IsJoined g e p.0 p.1) c.2 (b.joined c.0 x c.1)))

  -- the line of a pair is one
  module _ (u v : ℕ) where
    by_one : (f : Found) (p q : List Step) (l m : List ℕ)
        → ((s : List Step) → Joined g e u v s → length s < long → p ≡ q) → Told g e u v f
        → LineBy g e u v p l f → LineBy g e u v q m f → l ≡ m
    by_one (Steps k) p q l m same t a b =
        a.2 ∙ ap (pair_line u v k) (same t.1.0 t.1.1 (omega (arith, t.1.2, t.0))) ∙ sym b.2
    by_one Long p q l m same t a b = a ∙ sym b
    by_one Absent p q l m same t a b = absurd a

    one_line : (p q : List Step) (l m : List ℕ)
        → ((s : List Step) → Joined g e u v s → length s < long → p ≡ q) → LineOf g e u v p l
        → LineOf g e u v q m → l ≡ m
    one_line p q l m same a b =
        by_one a.0 p q l m same a.1 a.2 (subst (LineBy g e u v q m) (one_told g e u v b.0 a.0 b.1 a.1) b.2)

  pub one_listing : (p q : ℕ → ℕ → List Step) (l m : List ℕ)
      → ((u v : ℕ) (s : List Step) → Joined g e u v s → length s < long → p u v ≡ q u v) → Lines g e p l
      → Lines g e q m → l ≡ m
  one_listing p q l m same a b =
      let pairs = one_pairs a.pairs b.pairs a.joined b.joined in
      let texts = texts_alike (λ (x : ℕ × ℕ). a.line x.0 x.1) (λ (x : ℕ × ℕ). b.line x.0 x.1)
      (λ x. IsJoined g e x.0 x.1)
      (λ x j. one_line x.0 x.1 (p x.0 x.1) (q x.0 x.1) (a.line x.0 x.1) (b.line x.0 x.1) (same x.0 x.1)
      (a.tells x.0 x.1 j) (b.tells x.0 x.1 j)) a.pairs a.joined.joined in
      a.text ∙ ap₂ (λ (k : ℕ) (t : List ℕ). first_line g.entries k ++ t) (ap length pairs)
      (texts ∙ ap (flat_map (λ (x : ℕ × ℕ). b.line x.0 x.1)) pairs) ∙ sym b.text
