use Rattle.std.proofs.Common.{arith, ◌≡◌, ℕ, ◌%◌, ◌/◌, Some, rules}
use Rattle.std.proofs.lemmas.Bool.Decides.{nat_tests}
use Rattle.std.proofs.lemmas.Option.{get_or_from_slice_get}
use Rattle.std.specs.Option.{option_map}
use Rattle.graphs.specs.Graphs.{value_at}
use Rattle.graphs.specs.Sheets.{days_in, link_to}
use Rattle.graphs.specs.SheetLaws.{place_past, place_within}
use Rattle.graphs.proofs.sheet.SheetSource.link_at.Goals as goal
use Rattle.graphs.proofs.sheet.SheetSource.link_at.Goals.{in-0, in-1, in_default}

pub returns-in_err-month-clause-is : goal.returns-in_err-month-clause-is
returns-in_err-month-clause-is c = grind (arith, place_past)

pub returns-clause-is : goal.returns-clause-is
returns-clause-is c =
    let days = days_in c.args.self.now in
    let from = c.args.place / 3 in
    let day : ℕ × ℕ = (c.in_ok-month.month, c.in_ok-month.date) in
    let there : value_at days from ≡ Some day = grind arith in
    let is : c.map.result ≡ option_map (link_to from c.match-place-rem3.letter.0) c.match-place-rem3.letter.1 = search rules in
    rw (is, place_within days c.args.place day there)
    (elim c.match-place-rem3.branch [
      | in-0 w ↦ rw (w.letter-is, w.in-0.is, w.later.ensures) (grind (arith, nat_tests))
      | in-1 w ↦ rw (w.letter-is, w.in-1.is, w.later-in-1.ensures) (grind (arith, nat_tests))
      | in_default w ↦ let rest : c.args.place % 3 ≡ 2 = omega arith in rw (w.letter-is, rest, w.entry_of.ensures, get_or_from_slice_get days from day (0, 0) there)
    ])
