-- What a writer has got after some writes. Assumes nothing.
use Rattle.std.proofs.Common.{◌≡◌, ℕ, ◌+◌, ◌-◌, List, ◌++◌, Option, length, take, drop, sym, ap, ◌∙◌, subst}
use Rattle.std.proofs.Math.Seq.{take-add}
use Rattle.std.proofs.lemmas.List.{take_rest}
use Rattle.std.specs.Io.KnownBytes.{Appends}
use Rattle.std.proofs.KnownBytes.{Appends-trans}

-- behind the first k bytes of a text come some of the rest
next : (text : List ℕ) (k n : ℕ) → take (k + n) text ≡ take k text ++ take n (take (length text - k) (drop k text))
next text k n = take-add k n text ∙ ap (λ rest. take k text ++ take n rest) (sym (take_rest text k))

pub written_on : (before between after : Option (List ℕ)) (text : List ℕ) (k n : ℕ)
    → Appends before between (take k text)
    → Appends between after (take n (take (length text - k) (drop k text)))
    → Appends before after (take (k + n) text)
written_on before between after text k n h h' = subst (Appends before after) (sym (next text k n)) (Appends-trans before between after _ _ h h')
