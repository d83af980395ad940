-- A line that was made at a place of a text, and lines behind lines. Assumes nothing.
use borrow.Rule.Slice.PartMut.{put_mid, mid_of}
use Rattle.std.proofs.Common.{◌≡◌, ℕ, ◌+◌, ◌-◌, ◌≤◌, List, ◌++◌, length, take, drop, drop-drop, Ok, Result, sym, ap, ◌∙◌, subst, arith}
use Rattle.std.proofs.Math.Seq.{take-append-add, drop-append-add}
use Rattle.std.proofs.lemmas.List.{append_assoc, length-append, length-take-le, take_rest}
use Rattle.listing.specs.Lines.{Lined, Laid}
use Rattle.listing.specs.Puts.{PutAt}
use Rattle.refusals.specs.declared.Refusal.{Refusal}
use Rattle.tables.proofs.Rows.{put_last}

-- a line that lies at the front of what is behind a place was put there
laid_behind : (line text part : List ℕ) (at n : ℕ) → at ≤ length text → Laid line (drop at text) part n → PutAt line at (at + n) text (put_mid at (length text - at) text part)
laid_behind line text part at n h l =
    let whole = put_last at text part h in
    let seam = length-take-le at text h in
    record {
      size = ap (λ k. at + k) l.size;
      front = ap (take (at + n)) whole ∙ subst (λ k. take (k + n) (take at text ++ part) ≡ take at text ++ take n part) seam (take-append-add (take at text) part n) ∙ ap (λ t. take at text ++ t) l.front;
      behind = ap (drop (at + n)) whole ∙ subst (λ k. drop (k + n) (take at text ++ part) ≡ drop n part) seam (drop-append-add (take at text) part n) ∙ l.behind ∙ drop-drop n at text;
    }

pub made_behind : (line text part : List ℕ) (at n : ℕ) (r : Result ℕ Refusal) → at ≤ length text → r ≡ Ok n → Lined line (mid_of at (length text - at) text) part r → PutAt line at (at + n) text (put_mid at (length text - at) text part)
made_behind line text part at n r h e l = laid_behind line text part at n h (subst (λ t. Laid line t part n) (take_rest text at) (subst (λ x. Lined line (mid_of at (length text - at) text) part x) e l))

-- one text was put behind another
pub put_more : (one other both text text₁ text₂ : List ℕ) (at mid end : ℕ) → one ++ other ≡ both → PutAt one at mid text text₁ → PutAt other mid end text₁ text₂ → PutAt both at end text text₂
put_more one other both text text₁ text₂ at mid end is p q =
    record {
      size = omega (arith, p.size, q.size, length-append one other) ∙ ap (λ t. at + length t) is;
      front = q.front ∙ ap (λ t. t ++ other) p.front ∙ append_assoc (take at text) one other ∙ ap (λ t. take at text ++ t) is;
      behind = q.behind ∙ subst (λ k. drop k text₁ ≡ drop k text) (sym q.size) (sym (drop-drop (length other) mid text₁) ∙ ap (drop (length other)) p.behind ∙ drop-drop (length other) mid text);
    }

-- and behind what was put behind a first
pub lines_more : (first one other both text text₁ text₂ : List ℕ) (at mid end : ℕ) → one ++ other ≡ both → PutAt (first ++ one) at mid text text₁ → PutAt other mid end text₁ text₂ → PutAt (first ++ both) at end text text₂
lines_more first one other both text text₁ text₂ at mid end is p q = put_more (first ++ one) other (first ++ both) text text₁ text₂ at mid end (append_assoc first one other ∙ ap (λ t. first ++ t) is) p q
