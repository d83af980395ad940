use Rattle.std.proofs.Common.{rules}
use Rattle.files.specs.declared.frame.RecordKind.TheVariants.{Head, Entry, Link}
use Rattle.files.proofs.check.check_record.Goals as goal
use Rattle.files.proofs.check.check_record.Goals.{in_default-2-via-in-Ok+in-Head+in_default, in_default-2-via-in-Ok-Entry-Some+else-read-eq0, in_default-2-via-in-Ok+in-Entry+in_default, in_default-2-via-in-Ok+in-Link+in_default, in_default-2-via-in_default}

pub returns-in_default-2 : goal.returns-in_default-2
returns-in_default-2 g c =
    elim c.in_default-2.branch [
      | in_default-2-via-in-Ok+in-Head+in_default w ↦ search rules
      | in_default-2-via-in-Ok-Entry-Some+else-read-eq0 w ↦ search rules
      | in_default-2-via-in-Ok+in-Entry+in_default w ↦ search rules
      | in_default-2-via-in-Ok+in-Link+in_default w ↦ search rules
      | in_default-2-via-in_default w ↦
          let unknown = rw w.in_default-2.is-0 at c.try_from.ensures in
          let a = unknown.1 Head in
          let b = unknown.1 Entry in
          let d = unknown.1 Link in
          search rules
    ]
