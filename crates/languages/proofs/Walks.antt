-- Data paths: where they begin and end, how they are joined and cut. Assumes nothing.
use Rattle.std.proofs.Common.{◌≡◌, ℕ, ◌<◌, List, [], ◌∷◌, ◌++◌, length, None, sym, refl, subst, inl, inr}
use Rattle.std.proofs.lemmas.Bool.{cases_lt}
use Rattle.std.proofs.lemmas.List.{get_or_past}
use Rattle.expressions.specs.Exprs.{Expr}
use Rattle.graphs.specs.Graphs.{Graph}
use Rattle.languages.specs.declared.step.Step.{Step}
use Rattle.languages.specs.Languages.{Joined}
use Rattle.languages.specs.Paths.{Path, Linked, end}

-- the place of a link is one of the graph's
pub linked_within : (g : Graph) (u a v : ℕ) (l : Linked g u a v) → l.0 < length g.places
linked_within g u a v l = elim (cases_lt l.0 (length g.places)) [ inl lt ↦ lt | inr ge ↦ absurd (let past = get_or_past g.places l.0 None ge in cc (past, l.1)) ]

pub path_start : (g : Graph) (u v : ℕ) (s : List Step) → Path g u s v → u < g.entries
path_start g u v [] p = p.0
path_start g u v (x ∷ s) p = p.0

-- a path stays among the entries
pub path_stop : (g : Graph) (u v : ℕ) (s : List Step) → Path g u s v → v < g.entries
path_stop g u v [] p = rw (← p.1) p.0
path_stop g u v (x ∷ s) p = path_stop g x.entry v s p.2

pub joined_within : (g : Graph) (e : Expr) (u v : ℕ) → (s : List Step) × Joined g e u v s → (u < g.entries) × (v < g.entries)
joined_within g e u v j = (path_start g u v j.0 j.1.0, path_stop g u v j.0 j.1.0)

pub path_end : (g : Graph) (u v : ℕ) (s : List Step) → Path g u s v → end u s ≡ v
path_end g u v [] p = p.1
path_end g u v (x ∷ s) p = path_end g x.entry v s p.2

pub path_join : (g : Graph) (u m v : ℕ) (s t : List Step) → Path g u s m → Path g m t v → Path g u (s ++ t) v
path_join g u m v [] t p q = subst (λ (x : ℕ). Path g x t v) (sym p.1) q
path_join g u m v (x ∷ s) t p q = (p.0, p.1, path_join g x.entry m v s t p.2 q)

pub path_cut : (g : Graph) (u v : ℕ) (s t : List Step) → Path g u (s ++ t) v → Path g u s (end u s) × Path g (end u s) t v
path_cut g u v [] t p = ((path_start g u v t p, refl), p)
path_cut g u v (x ∷ s) t p = let c = path_cut g x.entry v s t p.2 in ((p.0, p.1, c.0), c.1)
