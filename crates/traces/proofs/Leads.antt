-- A choice leads to where less is left: a part before, or as many steps fewer. Assumes nothing.
use Rattle.std.proofs.Common.{◌≡◌, ℕ, ◌+◌, ◌-◌, ◌<◌, ◌≤◌, Bool, true, false, cond, ◌&&◌, ◌==◌, Some, None, Option, refl, arith}
use Rattle.std.proofs.lemmas.Bool.Decides.{nat_tests}
use Rattle.std.specs.Option.{option_or}
use Rattle.expressions.specs.Numbering.{stands_on}
use Rattle.expressions.specs.declared.part.Part.{Part}
use Rattle.expressions.specs.declared.part.Part.TheVariants.{Epsilon, Letter, Either, Join, Plus, Star, Same, Differ}
use Rattle.traces.specs.declared.choice.Choice.{Choice}
use Rattle.traces.specs.declared.choice.Choice.TheVariants.{Stay, Along, Inside, Through}
use Rattle.traces.specs.Choosing.{first, is_middle, over, through, inside, stay, pieces, choose}
use Rattle.traces.proofs.Firsts.{first_passes}

-- what is left where a choice leads, of k steps at part q
abbrev pub Leads : (ℕ → ℕ → ℕ → ℕ) → ℕ → ℕ → ℕ → ℕ → ℕ → Option Choice → Type 0
Leads d n q u v k None = Unit {0}
Leads d n q u v k (Some Stay) = k ≡ 0
Leads d n q u v k (Some (Along step)) = k ≡ 1
Leads d n q u v k (Some (Inside p)) = (p < q) × (d p u v ≡ k)
Leads d n q u v k (Some (Through l m r)) = (m < n) × (d l u m + d r m v ≡ k) × (l < q) × (r ≤ q) × (r + d r m v < q + k)

-- what holds where a test is passed and where it is not holds of what is chosen by it
pub by_test : (P : Option Choice → Type 0) (b : Bool) (x : Choice) → (b ≡ true → P (Some x)) → (b ≡ false → P None) → P (cond b (Some x) None)
by_test P true x p n = p refl
by_test P false x p n = n refl

-- what a middle tells
pub middle_tells : (d : ℕ → ℕ → ℕ → ℕ) (least l r u v k m : ℕ) → is_middle d least l r u v k m ≡ true → (least ≤ d l u m) × (d l u m + d r m v ≡ k)
middle_tells d least l r u v k m h = grind (arith, nat_tests)

-- a middle whose cells add up is told as one
pub middle_told : (d : ℕ → ℕ → ℕ → ℕ) (least l r u v k m x y : ℕ) → d l u m ≡ x → d r m v ≡ y → least ≤ x → x + y ≡ k → is_middle d least l r u v k m ≡ true
middle_told d least l r u v k m x y a b h e = grind (arith, nat_tests)

module _ (d : ℕ → ℕ → ℕ → ℕ) (n q u v k : ℕ) where
  or_leads : (x y : Option Choice) → Leads d n q u v k x → Leads d n q u v k y → Leads d n q u v k (option_or x y)
  or_leads None y a b = b
  or_leads (Some c) y a b = a

  stay_leads : Leads d n q u v k (stay u v k)
  stay_leads = by_test (Leads d n q u v k) ((u == v) && (k == 0)) Stay (λ e. grind (arith, nat_tests)) (λ e. tt)

  inside_leads : (p : ℕ) → p < q → Leads d n q u v k (inside d p u v k)
  inside_leads p h = by_test (Leads d n q u v k) (d p u v == k) (Inside p) (λ e. (h, grind (arith, nat_tests))) (λ e. tt)

  over_leads : (least l r : ℕ) → l < q → r ≤ q → r < q + least → (o : Option ℕ) → first n (is_middle d least l r u v k) ≡ o → Leads d n q u v k (over l r o)
  over_leads least l r a b c None e = tt
  over_leads least l r a b c (Some m) e =
      let p = first_passes n (is_middle d least l r u v k) m e in
      let t = middle_tells d least l r u v k m p.1 in
      (p.0, t.1, a, b, omega (arith, t.0, t.1))

  through_leads : (least l r : ℕ) → l < q → r ≤ q → r < q + least → Leads d n q u v k (through d n least l r u v k)
  through_leads least l r a b c = over_leads least l r a b c (first n (is_middle d least l r u v k)) refl

  pieces_lead : 0 < q → Leads d n q u v k (pieces d n q u v k)
  pieces_lead h = or_leads (inside d (q - 1) u v k) (through d n 1 (q - 1) q u v k) (inside_leads (q - 1) (omega arith)) (through_leads 1 (q - 1) q (omega arith) (omega arith) (omega arith))

  pub leads : (x : Part) → stands_on q x ≡ true → Leads d n q u v k (choose d n x q u v k)
  leads Epsilon h = stay_leads
  leads (Letter a) h = by_test (Leads d n q u v k) (k == 1) (Along (record { letter = a; entry = v })) (λ e. grind (arith, nat_tests)) (λ e. tt)
  leads (Either l) h = or_leads (inside d l u v k) (inside d (q - 1) u v k) (inside_leads l (grind (arith, nat_tests))) (inside_leads (q - 1) (grind (arith, nat_tests)))
  leads (Join l) h = through_leads 0 l (q - 1) (grind (arith, nat_tests)) (omega arith) (grind (arith, nat_tests))
  leads Plus h = pieces_lead (grind (arith, nat_tests))
  leads Star h = or_leads (stay u v k) (pieces d n q u v k) stay_leads (pieces_lead (grind (arith, nat_tests)))
  leads Same h = inside_leads (q - 1) (grind (arith, nat_tests))
  leads Differ h = inside_leads (q - 1) (grind (arith, nat_tests))
