use Rattle.std.proofs.Common.{◌^◌, refl, arith, rules}
use Rattle.std.proofs.lemmas.Iterator.{YieldsList-from_range}
use Rattle.std.proofs.lemmas.Iterator.Adapters.{fits_from_length, at_most_from_yields_List}
use Rattle.std.proofs.lemmas.List.FromFn.{length-range_with_len}
use Rattle.kinds.proofs.calendar.Calendar.days_before.Goals as goal

pub sum-requires-clause-fits : goal.sum-requires-clause-fits
sum-requires-clause-fits c =
    fits_from_length _ _ 12 (2 ^ 16) (at_most_from_yields_List (YieldsList-from_range 1 c.args.month _ c.map.ensures.source refl) (simp length-range_with_len (omega arith))) c.map.ensures.closure (omega arith) (λ x r q k. search rules)
