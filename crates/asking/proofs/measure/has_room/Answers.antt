use Rattle.asking.proofs.Sizes.{listing_short}
use Rattle.asking.proofs.Lent.{room_for_all}
use Rattle.asking.proofs.measure.has_room.Goals as goal

pub returns-then-text-ge-MOST_TEXT-clause-is : goal.returns-then-text-ge-MOST_TEXT-clause-is
returns-then-text-ge-MOST_TEXT-clause-is c =
    room_for_all _ _ _ (listing_short c.args.evaluated) c.if-text-ge-MOST_TEXT.true

pub returns-then-text-ge-MOST_TEXT-clause-within : goal.returns-then-text-ge-MOST_TEXT-clause-within
returns-then-text-ge-MOST_TEXT-clause-within c = listing_short c.args.evaluated

pub returns-else-text-ge-MOST_TEXT-clause-within : goal.returns-else-text-ge-MOST_TEXT-clause-within
returns-else-text-ge-MOST_TEXT-clause-within c = listing_short c.args.evaluated
