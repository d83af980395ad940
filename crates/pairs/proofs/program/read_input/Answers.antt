use Rattle.std.proofs.Common.{◌≡◌, ℕ, List, [], ◌++◌, take, Option, Some, None, ap, ◌∙◌}
use Rattle.std.specs.Prelude.{IfSome}
use Rattle.std.specs.Option.{option_map}
use Rattle.pairs.proofs.program.read_input.Goals as goal

-- what was read, where it is known what there is
front : (there : Option (List ℕ)) (limit most : ℕ) (old items : List ℕ) → limit ≡ most → old ≡ [] → IfSome (option_map (take limit) there) (λ xs. items ≡ old ++ xs) → IfSome there (λ all. items ≡ take most all)
front None limit most old items l o h = h
front (Some all) limit most old items l o h = rw (← l) (h ∙ ap (λ xs. xs ++ take limit all) o)

pub returns : goal.returns
returns g c = rw (← ap g.R.Read.remaining c.take.ensures.inner) (front _ _ 8193 _ _ c.take.ensures.limit c.new-input.ensures.items c.in_ok-read_to_end.ensures.bytes)
