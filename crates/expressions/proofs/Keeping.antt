-- Parts that come one after the other, and are kept as far as there is room. Assumes nothing.
use Rattle.std.proofs.Common.{◌≡◌, ℕ, ◌+◌, ◌-◌, List, [], ◌∷◌, ◌++◌, length, ap, ◌∙◌, append_assoc, arith, length-append}
use Rattle.std.proofs.lemmas.List.{get_or_append_left, get_or_push}
use Rattle.expressions.specs.declared.part.Part.{Part}
use Rattle.expressions.specs.declared.draft.Draft.{Draft}
use Rattle.expressions.specs.Exprs.{Expr, size}
use Rattle.expressions.specs.Grammar.{Sign, signed}
use Rattle.expressions.specs.Numbering.{parts_from}
use Rattle.expressions.specs.Reads.{Kept, Pushed, Grows}
use Rattle.expressions.proofs.Numbered.{length-parts, part, parts_sign}

pub kept_push : (b a : Draft) (x : Part) (P : List Part) → Pushed b a x → Kept b P → Kept a (P ++ (x ∷ []))
kept_push b a x P p k = record {
  room = p.room ∙ k.room;
  counted = simp length-append (omega arith);
  kept = λ i h lt. grind (arith, p.kept, p.new, k.kept, get_or_append_left, get_or_push, length-append);
}

pub grows_sign : (b m a : Draft) (e : Expr) (s : Sign) → Grows b m e → Pushed m a (part s) → Grows b a (signed s e)
grows_sign b m a e s g p P h = rw (parts_sign (length P) e s, ← append_assoc) (kept_push m a (part s) (P ++ parts_from (length P) e) p (g P h))

-- a part made of two halves
pub grows_two :
    (b m n a : Draft) (e f both : Expr) (left : ℕ) (mk : ℕ → Part)
    → ((k : ℕ) → parts_from k both ≡ parts_from k e ++ (parts_from (k + size e) f ++ (mk (k + size e - 1) ∷ [])))
    → Grows b m e → Grows m n f → Pushed n a (mk left) → left ≡ m.count - 1 → Grows b a both
grows_two b m n a e f both left mk is g h p l P s =
    let Q : List Part = P ++ parts_from (length P) e in
    let x : Kept m Q = g P s in
    let k : length Q ≡ length P + size e = length-append P (parts_from (length P) e) ∙ ap (λ j. length P + j) (length-parts (length P) e) in
    let y : Kept n (Q ++ parts_from (length P + size e) f) = rw k at (h Q x) in
    let v : left ≡ length P + size e - 1 = l ∙ ap (λ j. j - 1) (x.counted ∙ k) in
    let z : Kept a ((Q ++ parts_from (length P + size e) f) ++ (mk (length P + size e - 1) ∷ [])) = rw v at (kept_push n a (mk left) (Q ++ parts_from (length P + size e) f) p y) in
    rw (is (length P)) (simp append_assoc at z)
