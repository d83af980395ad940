use Rattle.std.proofs.Common.{◌∙◌, refl, rules, sym, arith, ◌-◌}
use Rattle.std.proofs.lemmas.Iterator.{YieldsList-from_range, YieldsList-from_map}
use Rattle.std.proofs.lemmas.Iterator.Consumers.{sum_from_yields_List, fits_from_yields_list}
use Rattle.graphs.specs.Sheets.{days_of}
use Rattle.graphs.proofs.SheetFacts.{length-sheet_days, length-sheet_days_few}
use Rattle.graphs.proofs.sheet.Sheet.days_before.Goals as goal

pub sum-requires-clause-fits : goal.sum-requires-clause-fits
sum-requires-clause-fits c =
    let s = c.args.self.now in
    let n = c.args.month - s.month in
    fits_from_yields_list c.map.result _ (YieldsList-from_map _ (days_of s.year) (YieldsList-from_range s.month c.args.month n (cc) refl) c.map.ensures.closure (λ x r q k. search rules)) (omega (arith, length-sheet_days s.year s.month n, length-sheet_days_few s.year s.month n))

pub returns : goal.returns
returns c =
    let s = c.args.self.now in
    let n = c.args.month - s.month in
    let is = sum_from_yields_List c.map.result _ c.sum.ensures.ran (YieldsList-from_map _ (days_of s.year) (YieldsList-from_range s.month c.args.month n (cc) refl) c.map.ensures.closure (λ x r q k. search rules)) ∙ sym (length-sheet_days s.year s.month n) in
    record { few = omega (arith, is, length-sheet_days_few s.year s.month n); is = is }
