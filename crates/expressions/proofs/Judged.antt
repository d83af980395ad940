-- The answer to a wording comes wherever it is due. Assumes nothing.
use Rattle.std.proofs.Common.{◌≡◌, ℕ, ◌<◌, ◌≤◌, true, List, length, take, Some, None, Option, Ok, Err, Result, MatchOption, ok_or, sym, refl, ap, ◌∙◌, subst, arith, length-take}
use Rattle.std.proofs.lemmas.List.{ext_get_or, get_or-take}
use Rattle.refusals.specs.declared.Refusal.{Refusal}
use Rattle.refusals.specs.declared.Refusal.TheVariants.{NotAnExpression, TooManyParts}
use Rattle.expressions.specs.declared.part.Part.TheVariants.{Epsilon}
use Rattle.expressions.specs.declared.draft.Draft.{Draft}
use Rattle.expressions.specs.declared.part.Parts.{Parts}
use Rattle.expressions.specs.Exprs.{Expr, size}
use Rattle.expressions.specs.Grammar.{most_bytes, most_parts, Expression}
use Rattle.expressions.specs.Numbering.{parts_from, well_formed}
use Rattle.expressions.specs.Reads.{Kept, Whole}
use Rattle.expressions.specs.Storing.{parts_of, Stored}
use Rattle.expressions.specs.Wordings.{Fails, RefusedAs, too_long, no_expression, too_many_parts, Parsed, Decided}
use Rattle.expressions.proofs.Numbered.{length-parts, some, decodes, formed_parts}

-- where none was lost, the parts of the expression are at the front
pub front : (e : Expr) (s : Draft) → s.count ≤ most_parts → Kept s (parts_from 0 e) → take s.count s.list ≡ parts_from 0 e
front e s few k =
    let long : length s.list ≡ most_parts = k.room in
    let m : length (take s.count s.list) ≡ s.count = simp length-take (omega arith) in
    ext_get_or Epsilon (take s.count s.list) (parts_from 0 e) (m ∙ k.counted)
    (λ i h. get_or-take s.count s.list i Epsilon (omega arith) ∙ k.kept i (omega (arith, k.counted)) (omega arith))

-- and can be stored
pub front_some : (e : Expr) (s : Draft) → s.count ≤ most_parts → Kept s (parts_from 0 e) → 1 ≤ length (take s.count s.list)
front_some e s few k = rw (front e s few k, length-parts 0 e) (some e)

pub front_formed : (e : Expr) (s : Draft) → s.count ≤ most_parts → Kept s (parts_from 0 e) → well_formed 0 (take s.count s.list) ≡ true
front_formed e s few k = rw (front e s few k) (formed_parts 0 e)

pub stored : (e : Expr) (p : Parts) → parts_of p ≡ parts_from 0 e → Stored e p
stored e p h = record { parts = h; decodes = rw (h, length-parts 0 e) (decodes e) }

-- an expression has so many parts stored
pub stored_size : {e : Expr} {p : Parts} → Stored e p → length (parts_of p) ≡ size e
stored_size {e} s = ap length s.parts ∙ length-parts 0 e

-- a text goes wrong at one place only
one_place : (t : List ℕ) (i j : ℕ) → Fails t i → Fails t j → i ≡ j
one_place t i j x y = grind (arith, x.longest j, y.longest i, x.within, y.within, x.begins, y.begins)

-- refusals do not contradict each other, nor an expression within the limits
refused_once : {t : List ℕ} {x y : Refusal} {n at m to : ℕ} → RefusedAs t x n at → RefusedAs t y m to → x ≡ y
refused_once (too_long a) (too_long b) = refl
refused_once (too_long a) (no_expression b c) = absurd (omega arith)
refused_once (too_long a) (too_many_parts b c d) = absurd (omega arith)
refused_once (no_expression a b) (too_long c) = absurd (omega arith)
refused_once {t} (no_expression {at = i} a b) (no_expression {at = j} c d) = ap NotAnExpression (one_place t i j b d)
refused_once (no_expression a b) (too_many_parts {e} c d f) = absurd (b.no_expression e d.stands)
refused_once (too_many_parts a b c) (too_long d) = absurd (omega arith)
refused_once (too_many_parts {e} a b c) (no_expression d f) = absurd (f.no_expression e b.stands)
refused_once (too_many_parts a b c) (too_many_parts d f g) = refl

not_both : {t : List ℕ} {x : Refusal} {n at : ℕ} (e : Expr) → Expression t e → length t ≤ most_bytes → size e ≤ most_parts → RefusedAs t x n at → ⊥
not_both e d h k (too_long a) = omega arith
not_both e d h k (no_expression a b) = b.no_expression e d
not_both e d h k (too_many_parts a b c) = let n : size e ≡ _ = ap size (b.only e d) in omega arith

pub decided_by : (t : List ℕ) (r : Result Parts Refusal) → Parsed t r → Decided t r
decided_by t (Ok parts) h = record {
  accepted = λ e d _ _. (parts, refl, subst (λ x. Stored x parts) (sym (h.worded.means.only e d)) h.stored);
  refused = λ x y. absurd (not_both h.expr h.worded.means.stands h.worded.short h.worded.few y);
}
decided_by t (Err x) h = record {
  accepted = λ e d s f. absurd (not_both e d s f h);
  refused = λ y z. ap Err (refused_once h z);
}

-- a whole text that was read, within the limits and beyond them
pub read_is : (t : List ℕ) (s : Draft) (o : Option Parts) → length t ≤ most_bytes → Whole t s → MatchOption o (most_parts < s.count) (λ p. (e : Expr) → Kept s (parts_from 0 e) → Stored e p) → Parsed t (ok_or o TooManyParts)
read_is t s None short w h =
    let n : s.count ≡ size w.0 = w.2.counted ∙ length-parts 0 w.0 in
    too_many_parts short w.1 (omega arith)
read_is t s (Some p) short w h =
    let x = h w.0 w.2 in
    let n = stored_size x in
    record { expr = w.0; worded = record { means = w.1; short = short; few = omega (arith, p.few, length-take p.count p.list) }; stored = x }
