use Rattle.std.proofs.Common.{rules, ◌≡◌, ap, arith}
use Rattle.queries.specs.Calls.{found_in}
use Rattle.queries.specs.declared.found.Found.TheVariants.{Steps, Long}
use Rattle.asking.specs.Chosen.{steps_of}
use Rattle.asking.specs.Tells.{told, led}
use Rattle.asking.proofs.Made.{made_behind}
use Rattle.asking.proofs.list.put_pair.Goals as goal

pub returns-in-Steps : goal.returns-in-Steps
returns-in-Steps c =
    let found : found_in (told c.args.evaluated c.args.u c.args.v) ≡ Steps c.in-Steps.count = cc in
    let path : led c.args.evaluated c.args.u c.args.v ≡ c.path-path.result.now = ap steps_of c.path-path.ensures.chosen in
    rw (found, path) (made_behind _ c.args.text.now _ c.args.at _ c.pair_line.result (omega arith) (search rules) c.pair_line.ensures.lined)

pub returns-in-Long : goal.returns-in-Long
returns-in-Long c =
    let found : found_in (told c.args.evaluated c.args.u c.args.v) ≡ Long = cc in
    rw found (made_behind _ c.args.text.now _ c.args.at _ c.long_line.result (omega arith) (search rules) c.long_line.ensures.lined)
