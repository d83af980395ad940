-- The machine's answer is right.
use Rattle.std.proofs.Common.{◌≡◌, ℕ, suc, ◌+◌, ◌-◌, ◌<◌, ◌≤◌, List, [], ◌∷◌, ◌++◌, length, take, sym, refl, ap, ◌∙◌, subst, append_assoc, append-nil, arith, length-append, take_at}
use Rattle.std.proofs.Math.Seq.{take-append-add}
use Rattle.expressions.specs.Exprs.{Expr}
use Rattle.expressions.specs.Grammar.{Expression}
use Rattle.expressions.specs.Machine.{go, good, bad, start}
use Rattle.expressions.specs.Wordings.{Means, Begins, Fails}
use Rattle.expressions.proofs.Complete.{complete}
use Rattle.expressions.proofs.Sound.{right, Right, Stuck}

longest_of :
    (a b : List ℕ) (m : ℕ) → m ≡ 0 + length a → Stuck start a b 0 m → (k : ℕ) → m < k → k ≤ length (a ++ b) → Begins (take k (a ++ b)) → ⊥
longest_of a [] m e h k lt le x = omega (arith, simp append-nil at le)
longest_of a (c ∷ b) m e h k lt le x =
    let j : ℕ = k - length a - 1 in
    let n : length a + suc j ≡ k = omega arith in
    let y : take k (a ++ (c ∷ b)) ≡ a ++ (c ∷ take j b) = subst (λ i. take i (a ++ (c ∷ b)) ≡ a ++ (c ∷ take j b)) n (take-append-add a (c ∷ b) (suc j)) in
    let d : Expression (a ++ (c ∷ (take j b ++ x.0))) x.1 = simp append_assoc at (rw y at x.2) in
    let good_one = complete _ x.1 d in
    let bad_one = h (take j b ++ x.0) in
    cc

pub is_meant : (t : List ℕ) (e : Expr) → go start t 0 ≡ good e → Means t e
is_meant t e h = record {
  stands = subst (Right start [] t 0) h (right t start [] 0 ([], [], [], refl, refl, refl, refl));
  only = λ f d. let y = complete t f d in cc;
}

wrong_at :
    (t a b : List ℕ) (m : ℕ) → t ≡ a ++ b → m ≡ 0 + length a → Begins a → Stuck start a b 0 m → ((e : Expr) → Expression t e → ⊥) → Fails t m
wrong_at t a b m e n x h no_one =
    let l : length t ≡ length a + length b = ap length e ∙ length-append a b in
    let k : length a ≡ m = omega arith in
    record {
      no_expression = no_one;
      within = omega arith;
      begins = subst Begins (sym (ap (take m) e ∙ take_at a b m k)) x;
      longest = λ j lt le y. longest_of a b m n h j lt (omega (arith, length-append a b)) (rw e at y);
    }

pub is_wrong : (t : List ℕ) (m : ℕ) → go start t 0 ≡ bad m → Fails t m
is_wrong t m h =
    let r = subst (Right start [] t 0) h (right t start [] 0 ([], [], [], refl, refl, refl, refl)) in
    wrong_at t r.0 r.1 m r.2 r.3 r.4 r.5 (λ e d. let y = complete t e d in cc)
