use Rattle.std.proofs.Common.{arith}
use Rattle.std.proofs.lemmas.Grind.{common_steps}
use Rattle.std.proofs.lemmas.List.Folds.{length-flat_map-take}
use Rattle.listing.specs.Lines.{step_text}
use Rattle.listing.proofs.lines.put_path.Goals as goal

pub put_step-at-requires : goal.put_step-at-requires
put_step-at-requires c = grind (arith, common_steps, length-flat_map-take step_text c.args.path.now)
