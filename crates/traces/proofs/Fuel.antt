-- Which steps are taken does not hang on the fuel, where there is enough. Assumes nothing.
use Rattle.std.proofs.Common.{◌≡◌, ℕ, zero, suc, ◌+◌, ◌<◌, true, List, length, Some, None, Option, refl, sym, ap₂, ◌∙◌, arith}
use Rattle.expressions.specs.Numbering.{well_formed}
use Rattle.expressions.specs.declared.part.Part.{Part}
use Rattle.expressions.proofs.Numbered.{part_stands}
use Rattle.languages.specs.declared.step.Step.{Step}
use Rattle.traces.specs.declared.choice.Choice.{Choice}
use Rattle.traces.specs.declared.choice.Choice.TheVariants.{Stay, Along, Inside, Through}
use Rattle.tables.specs.Layout.{cell_at}
use Rattle.traces.specs.Choosing.{part_at, choose}
use Rattle.traces.specs.Taking.{joined, follow, taken_within, chosen, ByChoice}
use Rattle.traces.proofs.Leads.{Leads, leads}

module _ (parts : List Part) (d : ℕ → ℕ → ℕ → ℕ) (n : ℕ) (formed : well_formed 0 parts ≡ true) where
  same_by_choice : (go to : ℕ → ℕ → ℕ → Option (List Step)) (q u v : ℕ) → q < length parts → ((p x y : ℕ) → p < length parts → p + d p x y < q + d q u v → go p x y ≡ to p x y) → (c : Option Choice) → Leads d n q u v (d q u v) c → follow go u v c ≡ follow to u v c
  same_by_choice go to q u v low h None l = refl
  same_by_choice go to q u v low h (Some Stay) l = refl
  same_by_choice go to q u v low h (Some (Along step)) l = refl
  same_by_choice go to q u v low h (Some (Inside p)) l = h p u v (omega (arith, l.0)) (omega (arith, l.0, l.1))
  same_by_choice go to q u v low h (Some (Through x m y)) l =
      ap₂ joined (h x u m (omega (arith, l.2)) (omega (arith, l.1, l.2))) (h y m v (omega (arith, l.3)) l.4)

  pub led : (q u v : ℕ) → q < length parts → Leads d n q u v (d q u v) (choose d n (part_at parts q) q u v (d q u v))
  led q u v low = leads d n q u v (d q u v) (part_at parts q) (part_stands parts q formed low)

  pub enough : (f h q u v : ℕ) → q < length parts → q + d q u v < f → q + d q u v < h → taken_within parts d n f q u v ≡ taken_within parts d n h q u v
  enough zero h q u v low a b = absurd (omega arith)
  enough (suc f) zero q u v low a b = absurd (omega arith)
  enough (suc f) (suc h) q u v low a b =
      same_by_choice (taken_within parts d n f) (taken_within parts d n h) q u v low (λ p x y lp less. enough f h p x y lp (omega arith) (omega arith))
      (choose d n (part_at parts q) q u v (d q u v)) (led q u v low)

  pub one_more : (to : ℕ → ℕ → ℕ → Option (List Step)) → ((p x y : ℕ) → to p x y ≡ taken_within parts d n (p + d p x y + 1) p x y) → (q u v : ℕ) → q < length parts → to q u v ≡ follow to u v (choose d n (part_at parts q) q u v (d q u v))
  one_more to is q u v low =
      let k : q + d q u v + 1 ≡ suc (q + d q u v) = omega arith in
      is q u v ∙ rw k
      (same_by_choice (taken_within parts d n (q + d q u v)) to q u v low
      (λ p x y lp less. enough (q + d q u v) (p + d p x y + 1) p x y lp less (omega arith) ∙ sym (is p x y))
      (choose d n (part_at parts q) q u v (d q u v)) (led q u v low))

pub by_choice : (parts : List Part) (table : List ℕ) (n : ℕ) → well_formed 0 parts ≡ true → ByChoice parts table n
unfolding chosen
by_choice parts table n formed q u v low = one_more parts (cell_at parts table n) n formed (chosen parts table n) (λ p x y. refl) q u v low
