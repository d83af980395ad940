-- The steps that cells lead to are those that are chosen. Assumes nothing.
use Rattle.std.proofs.Common.{◌≡◌, ℕ, zero, suc, ◌<◌, true, List, [], ◌∷◌, ◌++◌, length, Some, None, Option, refl, sym, ap, ap₂, ◌∙◌, subst, arith}
use Rattle.expressions.specs.Numbering.{well_formed}
use Rattle.expressions.specs.declared.part.Part.{Part}
use Rattle.languages.specs.declared.step.Step.{Step}
use Rattle.traces.specs.declared.choice.Choice.{Choice}
use Rattle.traces.specs.declared.choice.Choice.TheVariants.{Stay, Along, Inside, Through}
use Rattle.tables.specs.Layout.{cell_at}
use Rattle.traces.specs.Taking.{joined, follow, taken_within, chosen}
use Rattle.traces.specs.Leading.{choice_at, LeadsTo, stays, goes_along, goes_inside, goes_over, LeadsNowhere, Leads as Leading}
use Rattle.traces.proofs.Fuel.{led, by_choice}
use Rattle.traces.proofs.Leads.{Leads}

-- the halves of what is joined
joined_by : (P : List Step → Type 0) (a b : Option (List Step)) (s : List Step) → joined a b ≡ Some s → ((x y : List Step) → a ≡ Some x → b ≡ Some y → P (x ++ y)) → P s
joined_by P (Some x) (Some y) s e h = let is : x ++ y ≡ s = cc in subst P is (h x y refl refl)
joined_by P (Some x) None s e h = absurd cc
joined_by P None b s e h = absurd cc

module _ (parts : List Part) (d : ℕ → ℕ → ℕ → ℕ) (n : ℕ) where
  -- two choices at one place are one
  one_choice : (q u v : ℕ) (a b : Choice) → choice_at parts d n q u v ≡ Some a → choice_at parts d n q u v ≡ Some b → a ≡ b
  one_choice q u v a b x y = cc (sym x ∙ y)

  -- with so much fuel, where a choice leads
  by_fuel : (f q u v : ℕ) (s : List Step) → ((p x y : ℕ) (t : List Step) → taken_within parts d n f p x y ≡ Some t → LeadsTo parts d n p x y t) → (c : Option Choice) → choice_at parts d n q u v ≡ c → follow (taken_within parts d n f) u v c ≡ Some s → LeadsTo parts d n q u v s
  by_fuel f q u v s h None is e = absurd cc
  by_fuel f q u v s h (Some Stay) is e = let z : [] ≡ s = cc e in subst (LeadsTo parts d n q u v) z (stays is)
  by_fuel f q u v s h (Some (Along step)) is e = let z : step ∷ [] ≡ s = cc e in subst (LeadsTo parts d n q u v) z (goes_along step is)
  by_fuel f q u v s h (Some (Inside p)) is e = goes_inside p is (h p u v s e)
  by_fuel f q u v s h (Some (Through l m r)) is e =
      joined_by (LeadsTo parts d n q u v) (taken_within parts d n f l u m) (taken_within parts d n f r m v) s e
      (λ x y a b. goes_over l m r is (h l u m x a) (h r m v y b))

  -- what is taken is led to, whatever the fuel
  pub taken_led : (f q u v : ℕ) (s : List Step) → taken_within parts d n f q u v ≡ Some s → LeadsTo parts d n q u v s
  taken_led zero q u v s e = absurd cc
  taken_led (suc f) q u v s e = by_fuel f q u v s (taken_led f) (choice_at parts d n q u v) refl e

-- part q leads to one list of steps at most
pub one_led : {parts : List Part} {d : ℕ → ℕ → ℕ → ℕ} {n q u v : ℕ} {s t : List Step} → LeadsTo parts d n q u v s → LeadsTo parts d n q u v t → s ≡ t
one_led (stays a) (stays b) = refl
one_led (stays a) (goes_along step b) = absurd (cc (sym a ∙ b))
one_led (stays a) (goes_inside p b x) = absurd (cc (sym a ∙ b))
one_led (stays a) (goes_over l m r b x y) = absurd (cc (sym a ∙ b))
one_led (goes_along step a) (stays b) = absurd (cc (sym a ∙ b))
one_led (goes_along step a) (goes_along other b) = let same : step ≡ other = cc (sym a ∙ b) in ap (λ x. x ∷ []) same
one_led (goes_along step a) (goes_inside p b x) = absurd (cc (sym a ∙ b))
one_led (goes_along step a) (goes_over l m r b x y) = absurd (cc (sym a ∙ b))
one_led (goes_inside p a x) (stays b) = absurd (cc (sym a ∙ b))
one_led (goes_inside p a x) (goes_along step b) = absurd (cc (sym a ∙ b))
one_led {parts} {d} {n} {q} {u} {v} {s} {t} (goes_inside p a x) (goes_inside o b y) =
    let same : o ≡ p = cc (sym a ∙ b) in
    one_led x (subst (λ k. LeadsTo parts d n k u v t) same y)
one_led (goes_inside p a x) (goes_over l m r b y z) = absurd (cc (sym a ∙ b))
one_led (goes_over l m r a x y) (stays b) = absurd (cc (sym a ∙ b))
one_led (goes_over l m r a x y) (goes_along step b) = absurd (cc (sym a ∙ b))
one_led (goes_over l m r a x y) (goes_inside p b z) = absurd (cc (sym a ∙ b))
one_led {parts} {d} {n} {q} {u} {v} (goes_over l m r {s} {t} a x y) (goes_over i j k {s = s'} {t = t'} b z w) =
    let e = sym a ∙ b in
    let el : i ≡ l = cc e in
    let em : j ≡ m = cc e in
    let er : k ≡ r = cc e in
    ap₂ (λ (g h : List Step). g ++ h)
    (one_led x (subst (λ c. LeadsTo parts d n c u m s') el (subst (λ c. LeadsTo parts d n i u c s') em z)))
    (one_led y (subst (λ c. LeadsTo parts d n c m v t') er (subst (λ c. LeadsTo parts d n k c v t') em w)))

module _ (parts : List Part) (table : List ℕ) (n : ℕ) (formed : well_formed 0 parts ≡ true) where
  abbrev D : ℕ → ℕ → ℕ → ℕ
  D = cell_at parts table n

  -- what is chosen where a choice is made
  at_choice : (q u v : ℕ) → q < length parts → (c : Option Choice) → choice_at parts D n q u v ≡ c → (chosen parts table n q u v ≡ follow (chosen parts table n) u v c) × Leads D n q u v (D q u v) c
  at_choice q u v low c is =
      (by_choice parts table n formed q u v low ∙ ap (follow (chosen parts table n) u v) is, subst (Leads D n q u v (D q u v)) is (led parts D n formed q u v low))

  -- what is led to is chosen
  pub led_chosen : {q u v : ℕ} {s : List Step} → q < length parts → LeadsTo parts D n q u v s → chosen parts table n q u v ≡ Some s
  led_chosen low (stays {q} {u} {v} a) = (at_choice q u v low _ a).0
  led_chosen low (goes_along {q} {u} {v} step a) = (at_choice q u v low _ a).0
  led_chosen low (goes_inside {q} {u} {v} p a x) =
      let h = at_choice q u v low _ a in
      h.0 ∙ led_chosen (omega (arith, h.1.0)) x
  led_chosen low (goes_over {q} {u} {v} l m r a x y) =
      let h = at_choice q u v low _ a in
      h.0 ∙ ap₂ joined (led_chosen (omega (arith, h.1.2)) x) (led_chosen (omega (arith, h.1.3)) y)

  -- and the other way round
  pub chosen_led : (q u v : ℕ) (s : List Step) → chosen parts table n q u v ≡ Some s → LeadsTo parts D n q u v s
  unfolding chosen
  chosen_led q u v s e = taken_led parts D n _ q u v s e

  -- nothing is chosen exactly where nothing is led to
  pub none_led : (q u v : ℕ) → q < length parts → chosen parts table n q u v ≡ None → LeadsNowhere parts D n q u v
  none_led q u v low e s l = let h = led_chosen low l in absurd (cc (sym e ∙ h))

  none_by : (q u v : ℕ) (o : Option (List Step)) → chosen parts table n q u v ≡ o → LeadsNowhere parts D n q u v → chosen parts table n q u v ≡ None
  none_by q u v None e h = e
  none_by q u v (Some s) e h = absurd (h s (chosen_led q u v s e))

  pub nowhere_none : (q u v : ℕ) → LeadsNowhere parts D n q u v → chosen parts table n q u v ≡ None
  nowhere_none q u v h = none_by q u v (chosen parts table n q u v) refl h

  leading_by : (q u v : ℕ) → q < length parts → (o : Option (List Step)) → chosen parts table n q u v ≡ o → Leading parts D n q u v o
  leading_by q u v low None e = none_led q u v low e
  leading_by q u v low (Some s) e = chosen_led q u v s e

  -- what is chosen is what is led to
  pub leading : (q u v : ℕ) → q < length parts → Leading parts D n q u v (chosen parts table n q u v)
  leading q u v low = leading_by q u v low (chosen parts table n q u v) refl

  -- and nothing else is
  pub leading_once : (q u v : ℕ) → q < length parts → (o : Option (List Step)) → Leading parts D n q u v o → chosen parts table n q u v ≡ o
  leading_once q u v low None h = nowhere_none q u v h
  leading_once q u v low (Some s) h = led_chosen low h
