-- The number, the place and the text of each refusal. Assumes nothing.
use Rattle.std.specs.Prelude.{ℕ, List, ◌++◌, codes, decimal}
use Rattle.refusals.specs.declared.Refusal.{Refusal}
use Rattle.refusals.specs.declared.Refusal.TheVariants.{InputTooLong, HeadingCut, PayloadCut, RecordMisplaced, OtherValueKind, LengthUnfit, NoSuchDay, LinkUnsound, TooManyEntries, TooManyLinks, SheetOutOfRange, NotAnExpression, TooManyParts, WordingTooLong, QueryBlank, SourceTooLarge, TableTooShort, NotEvaluated, NoSuchEntry, TableCut, NoPath, OnlyLongPaths, StepsTooShort, TextTooShort, TableAltered, BookUnwritable, BytesTooShort}

-- the number by which users know a refusal
abbrev pub number : Refusal → ℕ
number InputTooLong = 10
number (HeadingCut at) = 11
number (PayloadCut at) = 11
number (RecordMisplaced at) = 12
number (OtherValueKind at) = 12
number (LengthUnfit at) = 13
number (NoSuchDay at) = 14
number (LinkUnsound at) = 15
number (TooManyEntries at) = 16
number (TooManyLinks at) = 17
number SheetOutOfRange = 18
number (NotAnExpression at) = 21
number TooManyParts = 22
number WordingTooLong = 23
number QueryBlank = 31
number SourceTooLarge = 32
number TableTooShort = 33
number NotEvaluated = 41
number NoSuchEntry = 42
number TableCut = 43
number NoPath = 44
number OnlyLongPaths = 45
number StepsTooShort = 46
number TextTooShort = 47
number TableAltered = 49
number BookUnwritable = 71
number BytesTooShort = 72

-- a refused file points at the record that is refused, by its offset; what is not an expression, at the byte that spoils it; every other place is 0
abbrev pub place : Refusal → ℕ
place InputTooLong = 0
place (HeadingCut at) = at
place (PayloadCut at) = at
place (RecordMisplaced at) = at
place (OtherValueKind at) = at
place (LengthUnfit at) = at
place (NoSuchDay at) = at
place (LinkUnsound at) = at
place (TooManyEntries at) = at
place (TooManyLinks at) = at
place SheetOutOfRange = 0
place (NotAnExpression at) = at
place TooManyParts = 0
place WordingTooLong = 0
place QueryBlank = 0
place SourceTooLarge = 0
place TableTooShort = 0
place NotEvaluated = 0
place NoSuchEntry = 0
place TableCut = 0
place NoPath = 0
place OnlyLongPaths = 0
place StepsTooShort = 0
place TextTooShort = 0
place TableAltered = 0
place BookUnwritable = 0
place BytesTooShort = 0

-- what a refusal prints: refused 13 at 6
abbrev pub refusal_text : Refusal → List ℕ
refusal_text x = codes "refused " ++ decimal (number x) ++ codes " at " ++ decimal (place x)

-- a refusal with the number and the place that it has
abbrev pub numbered : Refusal → ℕ × ℕ × Refusal
numbered x = (number x, place x, x)
