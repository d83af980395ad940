-- Graphs of values, books and layers are lawful: lemmas that the code's ghost members cite, and that no reader has to believe. Assumes nothing.
use Rattle.std.specs.Prelude.{◌≡◌, ℕ, zero, suc, ◌<◌, ◌≤◌, Bool, true, false, cond, List, [], ◌∷◌, map, length, Some, None, Option, slice_index_or, refl}
use Rattle.std.proofs.Common.{sym, ap, ◌∙◌, arith}
use Rattle.std.proofs.lemmas.Bool.Decides.{nat_tests}
use Rattle.std.proofs.lemmas.Option.{slice_get_past, slice_get_cases}
use Rattle.std.proofs.Math.ListN.{get_or-map}
use Rattle.std.specs.Cmp.{IsEquivalence}
use Rattle.std.specs.Option.{option_map}
use Rattle.graphs.specs.declared.link.Link.{Link}
use Rattle.graphs.specs.Books.{book_of}
use Rattle.graphs.specs.Graphs.{Graph, Lawful, link_at, value_at, both_same, valued}
use Rattle.graphs.specs.Layers.{reversed, without}
use Rattle.graphs.specs.Links.{sound, read_among, turned, unless}

module _ {V : Type 0} (alike : V → V → Bool) where
  none_right : (a : Option V) → both_same alike a None ≡ false
  none_right None = refl
  none_right (Some x) = refl

  pub past_left : (xs : List V) (u v : ℕ) → length xs ≤ u → both_same alike (value_at xs u) (value_at xs v) ≡ false
  past_left xs u v h = ap (λ o. both_same alike o (value_at xs v)) (slice_get_past xs u h)

  pub past_right : (xs : List V) (u v : ℕ) → length xs ≤ v → both_same alike (value_at xs u) (value_at xs v) ≡ false
  past_right xs u v h = ap (both_same alike (value_at xs u)) (slice_get_past xs v h) ∙ none_right (value_at xs u)

  module _ (reflexive : (x : V) → alike x x ≡ true) (symmetric : (x y : V) → alike x y ≡ true → alike y x ≡ true) (transitive : (x y z : V) → alike x y ≡ true → alike y z ≡ true → alike x z ≡ true) where
    same_refl : (xs : List V) (u : ℕ) → u < length xs → both_same alike (value_at xs u) (value_at xs u) ≡ true
    same_refl xs u h = grind (arith, reflexive, slice_get_cases xs u)

    same_sym : (a b : Option V) → both_same alike a b ≡ true → both_same alike b a ≡ true
    same_sym None b e = cc
    same_sym (Some x) None e = cc
    same_sym (Some x) (Some y) e = symmetric x y e

    same_trans : (a b c : Option V) → both_same alike a b ≡ true → both_same alike b c ≡ true → both_same alike a c ≡ true
    same_trans None b c e f = cc
    same_trans (Some x) None c e f = cc
    same_trans (Some x) (Some y) None e f = cc
    same_trans (Some x) (Some y) (Some z) e f = transitive x y z e f

    -- values under a lawful sameness, and places that hold sound links
    pub valued_lawful : (xs : List V) (places : List (Option Link)) → ((k : ℕ) (l : Link) → slice_index_or places k None ≡ Some l → sound (length xs) l ≡ true) → Lawful (valued alike xs places)
    valued_lawful xs places links = record {
      reflexive = same_refl xs;
      symmetric = λ u v. same_sym (value_at xs u) (value_at xs v);
      transitive = λ u v w. same_trans (value_at xs u) (value_at xs v) (value_at xs w);
      outside_left = past_left xs;
      outside_right = past_right xs;
      links = links;
    }

read_sound : (n : ℕ) (m l : Link) (b : Bool) → sound n m ≡ b → cond b (Some m) None ≡ Some l → sound n l ≡ true
read_sound n m l true s e = let same : m ≡ l = cc in ap (sound n) (sym same) ∙ s
read_sound n m l false s e = cc

reads_sound : (n : ℕ) (ls : List Link) (k : ℕ) (l : Link) → slice_index_or (map (read_among n) ls) k None ≡ Some l → sound n l ≡ true
reads_sound n [] k l e = cc
reads_sound n (m ∷ ls) zero l e = read_sound n m l (sound n m) refl e
reads_sound n (m ∷ ls) (suc k) l e = reads_sound n ls k l e

-- a book whose values have the laws of `Eq` is lawful
pub book_lawful : {V : Type 0} (alike : V → V → Bool) → IsEquivalence alike → (xs : List V) (ls : List Link) → Lawful (book_of alike xs ls)
book_lawful alike laws xs ls =
    valued_lawful alike laws.refl (λ x y e. laws.symm y x ∙ e) (λ x y z e f. laws.congr x y z e ∙ f) xs (map (read_among (length xs)) ls) (reads_sound (length xs) ls)

turned_sound : (n : ℕ) (o : Option Link) → ((l : Link) → o ≡ Some l → sound n l ≡ true) → (l : Link) → option_map turned o ≡ Some l → sound n l ≡ true
turned_sound n None h l e = cc
turned_sound n (Some m) h l e =
    let below = h m refl in
    let same : turned m ≡ l = cc in
    rw (← same) (grind (arith, nat_tests))

unless_sound : (n a : ℕ) (o : Option Link) → ((l : Link) → o ≡ Some l → sound n l ≡ true) → (l : Link) → unless a o ≡ Some l → sound n l ≡ true
unless_sound n a None h l e = cc
unless_sound n a (Some m) h l e = grind (arith, nat_tests)

-- a graph with other places
replaced : (g : Graph) (f : Option Link → Option Link) → f None ≡ None → ((o : Option Link) → ((l : Link) → o ≡ Some l → sound g.entries l ≡ true) → (l : Link) → f o ≡ Some l → sound g.entries l ≡ true) → Lawful g → Lawful (record { entries = g.entries; same = g.same; places = map f g.places })
replaced g f none keeps laws = record {
  reflexive = laws.reflexive;
  symmetric = laws.symmetric;
  transitive = laws.transitive;
  outside_left = laws.outside_left;
  outside_right = laws.outside_right;
  links = λ k l e. keeps (link_at g k) (laws.links k) l (sym (rw none at (get_or-map f g.places k None)) ∙ e);
}

pub reversed_lawful : (g : Graph) → Lawful g → Lawful (reversed g)
reversed_lawful g laws = replaced g (option_map turned) refl (turned_sound g.entries) laws

pub without_lawful : (a : ℕ) (g : Graph) → Lawful g → Lawful (without a g)
without_lawful a g laws = replaced g (unless a) refl (unless_sound g.entries a) laws
