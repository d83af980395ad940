-- The first number that passes a test. Assumes nothing.
use Rattle.std.proofs.Common.{◌≡◌, ℕ, zero, suc, ◌<◌, Bool, true, false, cond, inl, inr, Some, None, Option, refl, subst, arith}
use Rattle.std.proofs.lemmas.Bool.{cases_lt}
use Rattle.std.specs.Option.{option_or}
use Rattle.traces.specs.Choosing.{first}

at_passes : (n : ℕ) (t : ℕ → Bool) (m : ℕ) (o : Option ℕ) (b : Bool) → t n ≡ b → ((k : ℕ) → o ≡ Some k → (k < n) × (t k ≡ true)) → option_or o (cond b (Some n) None) ≡ Some m → (m < suc n) × (t m ≡ true)
at_passes n t m (Some k) b e h is = let s : k ≡ m = cc in subst (λ x. (x < suc n) × (t x ≡ true)) s (let w = h k refl in (omega (arith, w.0), w.1))
at_passes n t m None true e h is = let s : n ≡ m = cc in subst (λ x. (x < suc n) × (t x ≡ true)) s (omega arith, e)
at_passes n t m None false e h is = absurd cc

-- the first passes
pub first_passes : (n : ℕ) (t : ℕ → Bool) (m : ℕ) → first n t ≡ Some m → (m < n) × (t m ≡ true)
first_passes zero t m e = absurd cc
first_passes (suc n) t m e = at_passes n t m (first n t) (t n) refl (first_passes n t) e

at_none : (n : ℕ) (t : ℕ → Bool) (m : ℕ) (o : Option ℕ) (b : Bool) → t n ≡ b → (o ≡ None → m < n → t m ≡ false) → option_or o (cond b (Some n) None) ≡ None → m < suc n → t m ≡ false
at_none n t m (Some k) b e h is lt = absurd cc
at_none n t m None true e h is lt = absurd cc
at_none n t m None false e h is lt = elim (cases_lt m n) [
  | inl less ↦ h refl less
  | inr more ↦ (let s : n ≡ m = omega arith in subst (λ x. t x ≡ false) s e)
]

-- where there is none, none passes
pub first_none : (n : ℕ) (t : ℕ → Bool) → first n t ≡ None → (m : ℕ) → m < n → t m ≡ false
first_none zero t e m lt = absurd (omega arith)
first_none (suc n) t e m lt = at_none n t m (first n t) (t n) refl (λ h l. first_none n t h m l) e lt

-- one that passes after none is the first
pub first_found : (m n : ℕ) (t : ℕ → Bool) → m < n → first m t ≡ None → t m ≡ true → first n t ≡ Some m
first_found m zero t lt e h = absurd (omega arith)
first_found m (suc n) t lt e h = elim (cases_lt m n) [
  | inl less ↦ rw (first_found m n t less e h) refl
  | inr more ↦ (let s : m ≡ n = omega arith in
      subst (λ x. option_or (first x t) (cond (t x) (Some x) None) ≡ Some m) s (rw (e, h) refl))
]
