-- The records at the front of some bytes, one after the other. Assumes nothing.
use Rattle.std.proofs.Common.{◌≡◌, ℕ, zero, suc, ◌+◌, ◌*◌, ◌<◌, ◌≤◌, Bool, true, eqb, List, [], ◌∷◌, ◌++◌, map, length, drop, sym, refl, ap, subst, add-one, arith}
use Rattle.std.proofs.lemmas.List.{append_assoc, length-append}
use Rattle.std.specs.List.{flat_map, AllByRecursion}
use Rattle.graphs.specs.declared.link.Link.{Link}
use Rattle.files.specs.Encoding.{framed, link_bytes, links_bytes}
use Rattle.files.specs.Reading.{size_of, payload_of, link_of}
use Rattle.files.specs.Walking.{payloads_in, behind, Lies}
use Rattle.files.proofs.Records.{frame_size, frame_payload, frame_rest}

-- one record more
payloads_suc : (i : ℕ) (bs : List ℕ) → payloads_in (suc i) bs ≡ payloads_in i bs ++ payload_of (behind i bs) ∷ []
payloads_suc zero bs = refl
payloads_suc (suc i) bs = ap (λ ps. payload_of bs ∷ ps) (payloads_suc i (drop (4 + size_of bs) bs))

pub payloads_more : (i : ℕ) (bs : List ℕ) → payloads_in (i + 1) bs ≡ payloads_in i bs ++ payload_of (behind i bs) ∷ []
payloads_more i bs = rw add-one (payloads_suc i bs)

behind_suc : (i : ℕ) (bs : List ℕ) → behind (suc i) bs ≡ drop (4 + size_of (behind i bs)) (behind i bs)
behind_suc zero bs = refl
behind_suc (suc i) bs = behind_suc i (drop (4 + size_of bs) bs)

pub behind_more : (i : ℕ) (bs : List ℕ) → behind (i + 1) bs ≡ drop (4 + size_of (behind i bs)) (behind i bs)
behind_more i bs = rw add-one (behind_suc i bs)

pub lies_at : (test : List ℕ → Bool) (n i : ℕ) (bs : List ℕ) → i < n → Lies test n bs → (4 + size_of (behind i bs) ≤ length (behind i bs)) × (test (payload_of (behind i bs)) ≡ true)
lies_at test zero i bs h l = absurd (omega arith)
lies_at test (suc n) zero bs h l = (l.0, l.1)
lies_at test (suc n) (suc i) bs h l = lies_at test n i (drop (4 + size_of bs) bs) (omega arith) l.2

-- records that are written, as they are read
pub record Stands (test : List ℕ → Bool) (ps : List (List ℕ)) (bs t : List ℕ) : Type 0 where
  pub lies : Lies test (length ps) bs
  pub payloads : payloads_in (length ps) bs ≡ ps
  pub rest : behind (length ps) bs ≡ t

pub stands_written : (test : List ℕ → Bool) (k : ℕ) (ps : List (List ℕ)) (t : List ℕ) → AllByRecursion (λ p. test p ≡ true) ps → Stands test ps (flat_map (framed k) ps ++ t) t
stands_written test k [] t h = record { lies = tt; payloads = refl; rest = refl }
stands_written test k (p ∷ ps) t h =
    let u = flat_map (framed k) ps ++ t in
    let more = stands_written test k ps t h.1 in
    let first = frame_payload k p u in
    let others = frame_rest k p u in
    subst (λ xs. Stands test (p ∷ ps) xs t) (sym (append_assoc (framed k p) (flat_map (framed k) ps) t))
    (record {
      lies = (omega (arith, frame_size k p u, length-append p u), subst (λ q. test q ≡ true) (sym first) h.0, subst (Lies test (length ps)) (sym others) more.lies);
      payloads = cc;
      rest = cc;
    })

-- the records of links
pub links_back : (ls : List Link) → map link_of (map link_bytes ls) ≡ ls
links_back [] = refl
links_back (l ∷ ls) = ap (λ ms. l ∷ ms) (links_back ls)

pub links_fit : (ls : List Link) → AllByRecursion (λ p. eqb (length p) 3 ≡ true) (map link_bytes ls)
links_fit [] = tt
links_fit (l ∷ ls) = (refl, links_fit ls)

pub links_length : (ls : List Link) → length (links_bytes ls) ≡ 7 * length ls
links_length [] = refl
links_length (l ∷ ls) = omega (arith, links_length ls)
