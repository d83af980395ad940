use Rattle.std.proofs.Common.{◌∙◌}
use Rattle.expressions.proofs.Judged.{front, front_formed, front_some, stored}
use Rattle.expressions.proofs.draft.Draft.finish.Goals as goal

pub new-requires-clause-some : goal.new-requires-clause-some
new-requires-clause-some c = front_some c.requires.0 _ c.if-self-gt-MOST_PARTS.false c.requires.1

pub new-requires-clause-formed : goal.new-requires-clause-formed
new-requires-clause-formed c = front_formed c.requires.0 _ c.if-self-gt-MOST_PARTS.false c.requires.1

pub returns : goal.returns
returns c = λ e k. stored e _ (c.new.ensures ∙ front e _ c.if-self-gt-MOST_PARTS.false k)
