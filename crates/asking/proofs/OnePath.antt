-- The cells of an expression lead to one path. Assumes nothing.
use Rattle.std.proofs.Common.{◌≡◌, ℕ, zero, suc, ◌+◌, ◌-◌, ◌<◌, ◌≤◌, Bool, true, cond, ◌&&◌, ◌==◌, List, length, Some, None, refl, sym, ap, ap₂, ◌∙◌, subst, arith}
use Rattle.std.proofs.lemmas.Bool.Decides.{nat_tests}
use Rattle.std.specs.Option.{option_or}
use Rattle.std.specs.Prelude.{nat_le}
use Rattle.expressions.proofs.Numbered.{part_stands}
use Rattle.expressions.specs.Numbering.{part_expr, stands_on, well_formed}
use Rattle.expressions.specs.declared.part.Part.{Part}
use Rattle.expressions.specs.declared.part.Part.TheVariants.{Epsilon, Letter, Either, Join, Plus, Star, Same, Differ}
use Rattle.graphs.specs.Graphs.{Graph}
use Rattle.languages.proofs.CellLaws.{one_cell}
use Rattle.languages.specs.Cells.{Cell, Lengths, long}
use Rattle.languages.specs.Languages.{Joined}
use Rattle.languages.specs.declared.step.Step.{Step}
use Rattle.traces.proofs.Fuel.{led}
use Rattle.traces.proofs.Leads.{Leads}
use Rattle.traces.proofs.Led.{one_led}
use Rattle.traces.specs.Choosing.{part_at, first, over, through, inside, stay, pieces, choose}
use Rattle.traces.specs.Leading.{choice_at, LeadsTo, stays, goes_along, goes_inside, goes_over}

first_alike : (n : ℕ) (s t : ℕ → Bool) → ((m : ℕ) → m < n → s m ≡ t m) → first n s ≡ first n t
first_alike zero s t h = refl
first_alike (suc n) s t h = ap₂ option_or (first_alike n s t (λ m i. h m (omega arith)))
    (ap (λ b. cond b (Some n) None) (h n (omega arith)))

-- cells that agree at the parts and the pairs that there are
module _ (parts : List Part) (n : ℕ) (formed : well_formed 0 parts ≡ true) (c d : ℕ → ℕ → ℕ → ℕ)
    (alike : (q u v : ℕ) → q < length parts → u < n → v < n → c q u v ≡ d q u v) where
  module _ (q u v k : ℕ) (hq : q < length parts) (hu : u < n) (hv : v < n) where
    inside_alike : (p : ℕ) → p ≤ q → inside c p u v k ≡ inside d p u v k
    inside_alike p h = ap (λ x. inside (λ _ _ _. x) p u v k) (alike p u v (omega arith) hu hv)

    through_alike : (least l r : ℕ) → l ≤ q → r ≤ q → through c n least l r u v k ≡ through d n least l r u v k
    through_alike least l r a b = ap (over l r) (first_alike n _ _
        (λ m h. ap₂ (λ (x y : ℕ). nat_le least x && (x + y == k)) (alike l u m (omega arith) hu h)
        (alike r m v (omega arith) h hv)))

    pieces_alike : pieces c n q u v k ≡ pieces d n q u v k
    pieces_alike =
        ap₂ option_or (inside_alike (q - 1) (omega arith)) (through_alike 1 (q - 1) q (omega arith) (omega arith))

    choose_alike : (x : Part) → stands_on q x ≡ true → choose c n x q u v k ≡ choose d n x q u v k
    choose_alike Epsilon h = refl
    choose_alike (Letter a) h = refl
    choose_alike (Either l) h =
        ap₂ option_or (inside_alike l (grind (arith, nat_tests))) (inside_alike (q - 1) (omega arith))
    choose_alike (Join l) h = through_alike 0 l (q - 1) (grind (arith, nat_tests)) (omega arith)
    choose_alike Plus h = pieces_alike
    choose_alike Star h = ap (option_or (stay u v k)) pieces_alike
    choose_alike Same h = inside_alike (q - 1) (omega arith)
    choose_alike Differ h = inside_alike (q - 1) (omega arith)

  choice_alike : (q u v : ℕ) → q < length parts → u < n → v < n → choice_at parts d n q u v ≡ choice_at parts c n q u v
  choice_alike q u v hq hu hv = sym (choose_alike q u v (c q u v) hq hu hv (part_at parts q)
      (part_stands parts q formed hq) ∙ ap (choose d n (part_at parts q) q u v) (alike q u v hq hu hv))

  -- lead to the same steps
  led_alike : {q u v : ℕ} {s : List Step} → q < length parts → u < n → v < n → LeadsTo parts c n q u v s
      → LeadsTo parts d n q u v s
  led_alike hq hu hv (stays {q} {u} {v} a) = stays (choice_alike q u v hq hu hv ∙ a)
  led_alike hq hu hv (goes_along {q} {u} {v} step a) = goes_along step (choice_alike q u v hq hu hv ∙ a)
  led_alike hq hu hv (goes_inside {q} {u} {v} p a x) =
      let l = subst (Leads c n q u v (c q u v)) a (led parts c n formed q u v hq) in
      goes_inside p (choice_alike q u v hq hu hv ∙ a) (led_alike (omega (arith, l.0)) hu hv x)
  led_alike hq hu hv (goes_over {q} {u} {v} l m r a x y) =
      let t = subst (Leads c n q u v (c q u v)) a (led parts c n formed q u v hq) in
      goes_over l m r (choice_alike q u v hq hu hv ∙ a) (led_alike (omega (arith, t.2)) hu t.0 x)
      (led_alike (omega (arith, t.3)) t.0 hv y)

-- paths that some cells lead to, which are those of the parts
pub record LedBy (parts : List Part) (g : Graph) (path : ℕ → ℕ → List Step) : Type 0 where
  pub d : ℕ → ℕ → ℕ → ℕ
  pub cells : (q u v : ℕ) → q < length parts → u < g.entries → v < g.entries
      → Cell (Lengths g (part_expr parts q) u v) (d q u v)
  pub led : (u v : ℕ) → u < g.entries → v < g.entries → d (length parts - 1) u v < long
      → LeadsTo parts d g.entries (length parts - 1) u v (path u v)

module _ (parts : List Part) (g : Graph) (path other : ℕ → ℕ → List Step)
    (formed : well_formed 0 parts ≡ true) (some : 1 ≤ length parts) (a : LedBy parts g path)
    (b : LedBy parts g other) (u v : ℕ) (hu : u < g.entries) (hv : v < g.entries) where
  short : (c : LedBy parts g path) (s : List Step) → Joined g (part_expr parts (length parts - 1)) u v s
      → length s < long → c.d (length parts - 1) u v < long
  short c s j h =
      let l = (c.cells (length parts - 1) u v (omega arith) hu hv).least (length s) (s, j, refl) in
      omega arith

  alike : (q x y : ℕ) → q < length parts → x < g.entries → y < g.entries → a.d q x y ≡ b.d q x y
  alike q x y hq hx hy =
      one_cell (a.cells q x y hq hx hy) (b.cells q x y hq hx hy)

  pub one_path : (s : List Step) → Joined g (part_expr parts (length parts - 1)) u v s → length s < long
      → path u v ≡ other u v
  one_path s j h =
      let low : length parts - 1 < length parts = omega arith in
      let k : a.d (length parts - 1) u v < long = short a s j h in
      one_led (led_alike parts g.entries formed a.d b.d alike low hu hv (a.led u v hu hv k))
      (b.led u v hu hv (omega (arith, alike (length parts - 1) u v low hu hv)))
