-- What the reader says of a whole text. Assumes nothing.
use Rattle.std.proofs.Common.{ℕ, ◌<◌, ◌≤◌, List, [], length, ◌∙◌}
use Rattle.expressions.specs.declared.draft.Draft.{Draft}
use Rattle.expressions.specs.Machine.{after, total}
use Rattle.expressions.specs.Reads.{Kept, ExpressionRead, ExpressionLost, Whole}
use Rattle.expressions.specs.Wordings.{Fails}
use Rattle.expressions.proofs.Main.{is_meant, is_wrong}
use Rattle.expressions.proofs.Turns.{at_end, short}

pub whole : (t : List ℕ) (to : ℕ) (b a : Draft) → ExpressionRead t 0 b a to → length t ≤ to → Kept b [] → Whole t a
whole t to b a x h s =
    let r = x.runs in (total r.alt r.run r.item, is_meant t _ (r.goes [] ∙ at_end (after [] r.alt r.run r.item) t to h), r.grows [] s)

pub cut_short : (t : List ℕ) (to : ℕ) (b a : Draft) → ExpressionRead t 0 b a to → to < length t → Fails t to
cut_short t to b a x h = let r = x.runs in is_wrong t to (r.goes [] ∙ short t to r.alt r.run r.item h r.no_sign r.no_atom x.no_bar)

pub lost : (t : List ℕ) (at : ℕ) → ExpressionLost t 0 at → Fails t at
lost t at h = is_wrong t at (h [])
