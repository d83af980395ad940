-- The record at the front of some bytes. Assumes nothing.
use Rattle.std.proofs.Common.{◌≡◌, ℕ, suc, ◌+◌, ◌/◌, ◌%◌, ◌<◌, ◌≤◌, List, ◌++◌, length, get_or, drop, sym, refl, ap, ◌∙◌, arith, rules}
use Rattle.std.proofs.lemmas.List.{take_at, drop_at, places}
use Rattle.std.proofs.lemmas.Grind.{common_steps, elements}
use Rattle.kinds.specs.Payloads.{word, two_bytes}
use Rattle.files.specs.Encoding.{framed, link_bytes}
use Rattle.files.specs.Reading.{size_of, kind_of, payload_of, link_of}

-- every element is a byte
abbrev pub Bytes : List ℕ → Type 0
Bytes bs = (i : ℕ) → get_or bs i 0 < 256

pub word_of : (n : ℕ) → word (n % 256) (n / 256) ≡ n
word_of n = omega arith

-- a record that is read, as it is written
pub split : (bs : List ℕ) → Bytes bs → 4 + size_of bs ≤ length bs → bs ≡ framed (kind_of bs) (payload_of bs) ++ drop (4 + size_of bs) bs
split bs small h = let a = small 0 in let b = small 2 in search (rules, places)

pub payload_length : (bs : List ℕ) → 4 + size_of bs ≤ length bs → length (payload_of bs) ≡ size_of bs
payload_length bs h = grind (arith, common_steps)

pub three : (p : List ℕ) → length p ≡ 3 → link_bytes (link_of p) ≡ p
three p e = grind (arith, elements)

pub two : (p : List ℕ) (n : ℕ) → length p ≡ 2 → get_or p 0 0 < 256 → word (get_or p 0 0) (get_or p 1 0) ≡ n → two_bytes n ≡ p
two p n e small is = grind (arith, elements)

-- a record that is written, as it is read
pub frame_size : (k : ℕ) (p t : List ℕ) → size_of (framed k p ++ t) ≡ length p
frame_size k p t = word_of (length p)

pub frame_payload : (k : ℕ) (p t : List ℕ) → payload_of (framed k p ++ t) ≡ p
frame_payload k p t = take_at p t (size_of (framed k p ++ t)) (sym (frame_size k p t))

pub frame_rest : (k : ℕ) (p t : List ℕ) → drop (4 + size_of (framed k p ++ t)) (framed k p ++ t) ≡ t
frame_rest k p t =
    let four : 4 + size_of (framed k p ++ t) ≡ suc (suc (suc (suc (length p)))) = omega (arith, frame_size k p t) in
    ap (λ n. drop n (framed k p ++ t)) four ∙ drop_at p t (length p) refl
