-- Where each cell is that of its part's expression, the steps that are chosen are those of a shortest data path in its language. Assumes nothing.
use Rattle.std.proofs.Common.{◌≡◌, ℕ, zero, suc, ◌+◌, ◌-◌, ◌<◌, ◌≤◌, Bool, true, false, ◌&&◌, ◌==◌, inl, inr, ⊎_elim, List, [], ◌∷◌, ◌++◌, length, Some, None, Option, refl, sym, ap₂, ◌∙◌, subst, length-append, arith}
use Rattle.std.proofs.lemmas.Bool.Decides.{nat_tests}
use Rattle.std.specs.Option.{option_or}
use Rattle.expressions.specs.Exprs.{Expr, epsilon, letter, either, join, plus, star, same, differ}
use Rattle.expressions.specs.Numbering.{made, part_expr, stands_on, well_formed}
use Rattle.expressions.specs.declared.part.Part.{Part}
use Rattle.expressions.specs.declared.part.Part.TheVariants.{Epsilon, Letter, Either, Join, Plus, Star, Same, Differ}
use Rattle.expressions.proofs.Numbered.{part_made, part_stands}
use Rattle.graphs.specs.Graphs.{Graph}
use Rattle.languages.specs.declared.step.Step.{Step}
use Rattle.languages.specs.Cells.{Cell, Lengths, long}
use Rattle.languages.specs.Languages.{Pieces, In, Joined}
use Rattle.languages.specs.Paths.{Path, end}
use Rattle.languages.proofs.Forms.{by_steps, join_out, epsilon_back, letter_back, star_more, untested}
use Rattle.languages.proofs.Walks.{path_end, path_join}
use Rattle.tables.specs.Layout.{cell_at}
use Rattle.tables.specs.Tables.{AllShow}
use Rattle.traces.specs.declared.choice.Choice.{Choice}
use Rattle.traces.specs.declared.choice.Choice.TheVariants.{Stay, Along, Inside, Through}
use Rattle.traces.specs.Choosing.{part_at, first, is_middle, over, through, inside, stay, pieces, choose}
use Rattle.traces.specs.Taking.{joined, follow, chosen}
use Rattle.traces.proofs.Firsts.{first_none}
use Rattle.traces.proofs.Fuel.{led, by_choice}
use Rattle.traces.proofs.Leads.{Leads, by_test, middle_told}
use Rattle.traces.proofs.Pieces.{Cut, pieces_cut, exact, no_less}

module _ (g : Graph) (d : ℕ → ℕ → ℕ → ℕ) (p : ℕ) (E : ℕ → Expr) (shown : (q u v : ℕ) → q < p → u < g.entries → v < g.entries → Cell (Lengths g (E q) u v) (d q u v)) where
  -- every data path of l up to m, with one of r from there on, is one of part q
  abbrev Up : ℕ → ℕ → ℕ → ℕ → ℕ → Type 0
  Up q u v l r = (m : ℕ) (s t : List Step) → Joined g (E l) u m s → Joined g (E r) m v t → In g (E q) u (s ++ t)

  -- every data path of part c is one of part q
  abbrev As : ℕ → ℕ → ℕ → ℕ → Type 0
  As q u v c = (s : List Step) → Joined g (E c) u v s → In g (E q) u s

  -- a choice that leads to a data path
  abbrev Right : ℕ → ℕ → ℕ → Option Choice → Type 0
  Right q u v None = ⊥
  Right q u v (Some Stay) = (u ≡ v) × In g (E q) u []
  Right q u v (Some (Along step)) = Joined g (E q) u v (step ∷ [])
  Right q u v (Some (Inside c)) = As q u v c
  Right q u v (Some (Through l m r)) = Up q u v l r

  module _ (q u v : ℕ) (low : q < p) (hu : u < g.entries) (hv : v < g.entries) (small : d q u v < long) where
    abbrev k : ℕ
    k = d q u v

    abbrev Good : Option Choice → Type 0
    Good = Right q u v

    -- a path of k steps, and that none has fewer
    have : (e : Expr) → E q ≡ e → Lengths g e u v k
    have e is = subst (λ x. Lengths g x u v k) is (exact (shown q u v low hu hv) small)

    or_good : (x y : Option Choice) → ((c : Choice) → x ≡ Some c → Good (Some c)) → (x ≡ None → Good y) → Good (option_or x y)
    or_good None y a b = b refl
    or_good (Some c) y a b = a c refl

    -- a part whose paths are paths of q, and that has one of k steps, counts k
    counted : (c : ℕ) → c < q → As q u v c → Lengths g (E c) u v k → d c u v ≡ k
    counted c lt up w =
        let a : d c u v ≤ k = no_less (shown c u v (omega arith) hu hv) k w in
        let x = exact (shown c u v (omega arith) hu hv) (omega arith) in
        let b : k ≤ d c u v = no_less (shown q u v low hu hv) (d c u v) (x.0, (x.1.0, up x.0 x.1), x.2) in
        omega arith

    -- it is chosen where it counts k, and nothing else is
    inside_good : (c : ℕ) → As q u v c → (x : Choice) → inside d c u v k ≡ Some x → Good (Some x)
    inside_good c up x = by_test (λ o. o ≡ Some x → Good (Some x)) (d c u v == k) (Inside c) (λ e is. subst Good is up) (λ e is. absurd cc)

    inside_none : (c : ℕ) → inside d c u v k ≡ None → d c u v ≡ k → ⊥
    inside_none c = by_test (λ o. o ≡ None → d c u v ≡ k → ⊥) (d c u v == k) (Inside c) (λ e is h. absurd cc) (λ e is h. grind (arith, nat_tests))

    inside_last : (c : ℕ) → c < q → As q u v c → Lengths g (E c) u v k → Good (inside d c u v k)
    inside_last c lt up w =
        by_test Good (d c u v == k) (Inside c) (λ e. up) (λ e. let h = counted c lt up w in grind (arith, nat_tests))

    -- a middle over which k steps go counts k
    summed : (l r m x y : ℕ) → l < q → r ≤ q → m < g.entries → Up q u v l r → Lengths g (E l) u m x → Lengths g (E r) m v y → x + y ≡ k → (d l u m ≡ x) × (d r m v ≡ y)
    summed l r m x y ll lr hm up i j e =
        let s : d l u m ≤ x = no_less (shown l u m (omega arith) hu hm) x i in
        let t : d r m v ≤ y = no_less (shown r m v (omega arith) hm hv) y j in
        let a = exact (shown l u m (omega arith) hu hm) (omega arith) in
        let b = exact (shown r m v (omega arith) hm hv) (omega arith) in
        let z : k ≤ d l u m + d r m v = no_less (shown q u v low hu hv) (d l u m + d r m v) (
          a.0 ++ b.0,
          (path_join g u m v a.0 b.0 a.1.0 b.1.0, up m a.0 b.0 a.1 b.1),
          length-append a.0 b.0 ∙ ap₂ (λ (x y : ℕ). x + y) a.2 b.2,
        ) in
        (omega arith, omega arith)

    over_good : (least l r m : ℕ) → m < g.entries → Up q u v l r → is_middle d least l r u v k m ≡ true → (o : Option ℕ) → first g.entries (is_middle d least l r u v k) ≡ o → Good (over l r o)
    over_good least l r m hm up told None e =
        let no = first_none g.entries (is_middle d least l r u v k) e m hm in
        absurd cc
    over_good least l r m hm up told (Some a) e = up

    through_good : (least l r m x y : ℕ) → l < q → r ≤ q → m < g.entries → Up q u v l r → Lengths g (E l) u m x → Lengths g (E r) m v y → x + y ≡ k → least ≤ x → Good (through d g.entries least l r u v k)
    through_good least l r m x y ll lr hm up i j e h =
        let c = summed l r m x y ll lr hm up i j e in
        over_good least l r m hm up (middle_told d least l r u v k m x y c.0 c.1 h e)
        (first g.entries (is_middle d least l r u v k)) refl

    -- one piece, or one with steps and then more
    pieces_good : 0 < q → As q u v (q - 1) → Up q u v (q - 1) q → ((m : ℕ) (t : List Step) → Pieces (In g (E (q - 1))) m t → In g (E q) m t) → (s : List Step) → Path g u s v → Pieces (In g (E (q - 1))) u s → length s ≡ k → Good (pieces d g.entries q u v k)
    pieces_good pos one up into s w r e =
        or_good (inside d (q - 1) u v k) (through d g.entries 1 (q - 1) q u v k) (inside_good (q - 1) one)
        (λ no. ⊎_elim (λ i. absurd (inside_none (q - 1) no (counted (q - 1) (omega arith) one (s, (w, i), e)))) cut (pieces_cut g (E (q - 1)) v r w))
      where
        cut : Cut g (E (q - 1)) u v (length s) → Good (through d g.entries 1 (q - 1) q u v k)
        cut c =
            through_good 1 (q - 1) q c.middle (length c.one) (length c.rest) (omega arith) (omega arith) c.low up
            (c.one, c.first, refl) (c.rest, (c.on, into c.middle c.rest c.are), refl) (omega (arith, c.sum)) c.some

    back : {e : Expr} (m : ℕ) (s : List Step) → E q ≡ e → In g e m s → In g (E q) m s
    back m s is i = subst (λ x. In g x m s) (sym is) i

    forth : {e : Expr} (m : ℕ) (s : List Step) → E q ≡ e → In g (E q) m s → In g e m s
    forth m s is i = subst (λ x. In g x m s) is i

    -- the second half starts where the first ends
    moved : (e : Expr) (m : ℕ) (s t : List Step) → Path g u s m → In g e m t → In g e (end u s) t
    moved e m s t r = subst (λ x. In g e x t) (sym (path_end g u m s r))

    -- a test of both ends, which the end of a path decides
    test_as : (b : Bool) → ((s : List Step) → In g (E (q - 1)) u s → g.same u (end u s) ≡ b → In g (E q) u s) → g.same u v ≡ b → As q u v (q - 1)
    test_as b into t s j = into s j.1 (subst (λ x. g.same u x ≡ b) (sym (path_end g u v s j.0)) t)

    right : (x : Part) → stands_on q x ≡ true → E q ≡ made E q x → Good (choose d g.entries x q u v k)
    right Epsilon h is =
        let z = epsilon_back g by_steps u v k (have epsilon is) in
        by_test Good ((u == v) && (k == 0)) Stay (λ t. (z.1, back u [] is refl)) (λ t. grind (arith, nat_tests))
    right (Letter a) h is =
        let w = letter_back g by_steps a u v k (have (letter a) is) in
        by_test Good (k == 1) (Along (record { letter = a; entry = v }))
        (λ e. ((hu, w.1, (hv, refl)), back u (record { letter = a; entry = v } ∷ []) is (v, refl)))
        (λ e. grind (arith, nat_tests))
    right (Either l) h is =
        let w = have (either (E l) (E (q - 1))) is in
        let left : As q u v l = λ s j. back u s is (inl j.1) in
        let other : As q u v (q - 1) = λ s j. back u s is (inr j.1) in
        let low_left : l < q = grind (arith, nat_tests) in
        or_good (inside d l u v k) (inside d (q - 1) u v k) (inside_good l left)
        (λ no. ⊎_elim (λ i. absurd (inside_none l no (counted l low_left left (w.0, (w.1.0, i), w.2)))) (λ i. inside_last (q - 1) (omega arith) other (w.0, (w.1.0, i), w.2)) w.1.1)
    right (Join l) h is =
        let w = join_out g by_steps (In g (E l)) (In g (E (q - 1))) u v k (have (join (E l) (E (q - 1))) is) in
        let low_left : l + 1 < q = grind (arith, nat_tests) in
        through_good 0 l (q - 1) w.0 w.2.0 w.2.1 (omega arith) (omega arith) w.1
        (λ m s t i j. back u (s ++ t) is (s, t, refl, i.1, moved (E (q - 1)) m s t i.0 j.1))
        w.2.2 w.2.3 w.2.4 (omega arith)
    right Plus h is =
        let w = have (plus (E (q - 1))) is in
        pieces_good (grind (arith, nat_tests)) (λ s j. back u s is (Pieces.one j.1))
        (λ m s t i j. back u (s ++ t) is (Pieces.more i.1 (forth (end u s) t is (moved (E q) m s t i.0 j.1))))
        (λ m t r. back m t is r) w.0 w.1.0 w.1.1 w.2
    right Star h is =
        let w = have (star (E (q - 1))) is in
        or_good (stay u v k) (pieces d g.entries q u v k)
        (by_stay)
        (λ no. ⊎_elim (λ e. absurd (none_stays no (epsilon_back g by_steps u v k (w.0, (w.1.0, e), w.2))))
        (λ r. pieces_good (grind (arith, nat_tests)) (λ s j. back u s is (inr (Pieces.one j.1)))
        (λ m s t i j. back u (s ++ t) is (star_more (In g (E (q - 1))) u s t i.1 (forth (end u s) t is (moved (E q) m s t i.0 j.1))))
        (λ m t r. back m t is (inr r)) w.0 w.1.0 r w.2) w.1.1)
      where
        by_stay : (x : Choice) → stay u v k ≡ Some x → Good (Some x)
        by_stay x = by_test (λ o. o ≡ Some x → Good (Some x)) ((u == v) && (k == 0)) Stay (λ t e. subst Good e (grind (arith, nat_tests), back u [] is (inl refl))) (λ t e. absurd cc)

        none_stays : stay u v k ≡ None → (k ≡ 0) × (u ≡ v) → ⊥
        none_stays = by_test (λ o. o ≡ None → (k ≡ 0) × (u ≡ v) → ⊥) ((u == v) && (k == 0)) Stay (λ t e z. absurd cc) (λ t e z. grind (arith, nat_tests, z.0, z.1))
    right Same h is =
        let w = untested g by_steps g.same (In g (E (q - 1))) true u v k (have (same (E (q - 1))) is) in
        inside_last (q - 1) (grind (arith, nat_tests)) (test_as true (λ s i e. back u s is (i, e)) w.1) w.0
    right Differ h is =
        let w = untested g by_steps g.same (In g (E (q - 1))) false u v k (have (differ (E (q - 1))) is) in
        inside_last (q - 1) (grind (arith, nat_tests)) (test_as false (λ s i e. back u s is (i, e)) w.1) w.0

  -- the steps of a data path of part q, as many as its cell counts
  abbrev pub Joins : ℕ → ℕ → ℕ → Option (List Step) → Type 0
  Joins q u v found = (s : List Step) × (found ≡ Some s) × Joined g (E q) u v s × (length s ≡ d q u v)

  pub followed : (go : ℕ → ℕ → ℕ → Option (List Step)) (q u v : ℕ) → q < p → u < g.entries → v < g.entries → d q u v < long → ((c x y : ℕ) → c < p → x < g.entries → y < g.entries → d c x y < long → c + d c x y < q + d q u v → Joins c x y (go c x y)) → (c : Option Choice) → Leads d g.entries q u v (d q u v) c → Right q u v c → Joins q u v (follow go u v c)
  followed go q u v low hu hv small h None a r = absurd r
  followed go q u v low hu hv small h (Some Stay) a r = ([], refl, ((hu, r.0), r.1), sym a)
  followed go q u v low hu hv small h (Some (Along step)) a r = (step ∷ [], refl, r, sym a)
  followed go q u v low hu hv small h (Some (Inside c)) a r =
      let w = h c u v (omega (arith, a.0)) hu hv (omega (arith, a.1)) (omega (arith, a.0, a.1)) in
      (w.0, w.1, (w.2.0, r w.0 w.2), w.3 ∙ a.1)
  followed go q u v low hu hv small h (Some (Through l m t)) a r =
      let x = h l u m (omega (arith, a.2)) hu a.0 (omega (arith, a.1)) (omega (arith, a.1, a.2)) in
      let y = h t m v (omega (arith, a.3)) a.0 hv (omega (arith, a.1)) a.4 in (
        x.0 ++ y.0,
        ap₂ joined x.1 y.1,
        (path_join g u m v x.0 y.0 x.2.0 y.2.0, r m x.0 y.0 x.2 y.2),
        length-append x.0 y.0 ∙ ap₂ (λ (i j : ℕ). i + j) x.3 y.3 ∙ a.1,
      )

module _ (g : Graph) (parts : List Part) (table : List ℕ) (formed : well_formed 0 parts ≡ true) (shown : AllShow g parts (length parts) table) where
  abbrev d : ℕ → ℕ → ℕ → ℕ
  d = cell_at parts table g.entries

  within : (f q u v : ℕ) → q < length parts → u < g.entries → v < g.entries → d q u v < long → q + d q u v < f → Joins g d (length parts) (part_expr parts) (λ q u v lq lu lv. shown q lq u v lu lv) q u v (chosen parts table g.entries q u v)
  within zero q u v low hu hv small more = absurd (omega arith)
  within (suc f) q u v low hu hv small more =
      subst (Joins g d (length parts) (part_expr parts) (λ q u v lq lu lv. shown q lq u v lu lv) q u v) (sym (by_choice parts table g.entries formed q u v low))
      (followed g d (length parts) (part_expr parts) (λ q u v lq lu lv. shown q lq u v lu lv) (chosen parts table g.entries) q u v low hu hv small
      (λ c x y lc hx hy sm less. within f c x y lc hx hy sm (omega arith))
      (choose d g.entries (part_at parts q) q u v (d q u v)) (led parts d g.entries formed q u v low)
      (right g d (length parts) (part_expr parts) (λ q u v lq lu lv. shown q lq u v lu lv) q u v low hu hv small (part_at parts q) (part_stands parts q formed low) (part_made parts q low formed)))

  pub chosen_joins : (q u v : ℕ) → q < length parts → u < g.entries → v < g.entries → d q u v < long → (s : List Step) × (chosen parts table g.entries q u v ≡ Some s) × Joined g (part_expr parts q) u v s × (length s ≡ d q u v)
  chosen_joins q u v low hu hv small = within (suc (q + d q u v)) q u v low hu hv small (omega arith)
