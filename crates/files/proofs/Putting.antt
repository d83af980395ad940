-- Parts written one after the other. Assumes nothing.
use Rattle.std.proofs.Common.{◌≡◌, ℕ, ◌+◌, ◌<◌, ◌≤◌, true, List, ◌++◌, length, get_or, take, sum_by, refl, sym, ap, ◌∙◌, arith}
use borrow.Rule.Slice.PartMut.{put_mid}
use Rattle.std.proofs.lemmas.List.{length-append, take_all}
use Rattle.std.proofs.lemmas.List.Recursion.{is_sum_by}
use Rattle.std.proofs.lemmas.List.Folds.{length-flat_map-take}
use Rattle.std.proofs.lemmas.Slice.{take-put_mid}
use Rattle.std.proofs.lemmas.Grind.{common_steps}
use Rattle.std.proofs.lemmas.Bool.Decides.{nat_tests}
use Rattle.std.specs.List.{flat_map}
use Rattle.graphs.specs.Links.{sound}
use Rattle.graphs.specs.declared.link.Link.{Link}
use Rattle.files.specs.Encoding.{entry_kind, framed, entry_bytes}

pub length-put_mid : (a k : ℕ) (xs ys : List ℕ) → a + k ≤ length xs → length ys ≡ k → length (put_mid a k xs ys) ≡ length xs
length-put_mid a k xs ys h e = grind (arith, common_steps)

module _ {X : Type 0} (f : X → List ℕ) (xs : List X) where
  -- the parts of the first i elements are written, up to an offset
  pub record Laid (i at : ℕ) (out : List ℕ) : Type 0 where
    pub front : take at out ≡ flat_map f (take i xs)
    pub size : at ≡ length (flat_map f (take i xs))
    pub room : length out ≡ length (flat_map f xs)

  parts_more : (i : ℕ) (x : X) → i < length xs → x ≡ get_or xs i x → flat_map f (take (i + 1) xs) ≡ flat_map f (take i xs) ++ f x
  parts_more i x h is = grind (arith, common_steps)

  pub laid_room : (i at : ℕ) (out : List ℕ) (x : X) → i < length xs → x ≡ get_or xs i x → Laid i at out → at + length (f x) ≤ length out
  laid_room i at out x h is l = omega (arith, length-flat_map-take f xs i x h, ap (λ y. length (f y)) is, l.size, l.room)

  pub laid_more : (i at end k : ℕ) (out part : List ℕ) (x : X) → i < length xs → x ≡ get_or xs i x → end ≡ at + length (f x) → k ≡ length (f x) → part ≡ f x → Laid i at out → Laid (i + 1) end (put_mid at k out part)
  laid_more i at end k out part x h is ends len same l =
      let room = laid_room i at out x h is l in
      let long : length part ≡ length (f x) = ap length same in
      record {
        front = take-put_mid at k out part end (omega arith) (omega arith) ∙ rw (l.front, same) (sym (parts_more i x h is));
        size = omega (arith, ap length (parts_more i x h is), length-append (flat_map f (take i xs)) (f x), l.size);
        room = length-put_mid at k out part (omega arith) (omega arith) ∙ l.room;
      }

  pub laid_all : (i at : ℕ) (out : List ℕ) → length xs ≤ i → Laid i at out → out ≡ flat_map f xs
  laid_all i at out h l = sym (take_all at out (omega (arith, l.size, l.room, ap (λ ys. length (flat_map f ys)) (take_all i xs h)))) ∙ l.front ∙ ap (flat_map f) (take_all i xs h)

-- the ends of a sound link fit in a byte
pub ends_small : (n : ℕ) (l : Link) → sound n l ≡ true → n ≤ 128 → (l.from < 256) × (l.to < 256)
ends_small n l e few = (grind (arith, nat_tests), grind (arith, nat_tests))

-- the records of the entries, as their sizes add up
pub entries_long : {V : Type 0} (encoded : V → List ℕ) (es : List V) → length (entry_bytes encoded es) ≡ sum_by (λ e. 4 + length (encoded e)) es
entries_long encoded es = is_sum_by (λ vs. length (entry_bytes encoded vs)) (λ e. 4 + length (encoded e)) refl (λ v vs. omega (arith, length-append (framed entry_kind (encoded v)) (entry_bytes encoded vs))) es
