-- What private functions say; no public contract cites this file. Assumes nothing.
use Rattle.std.specs.Prelude.{◌≡◌, ℕ, ◌+◌, List, ◌++◌, length, take, drop}

-- a text was put at a place of a buffer, and reaches to an end; before and behind it the buffer is as it was
pub record PutAt (text : List ℕ) (at end : ℕ) (out out' : List ℕ) : Type 0 where
  pub size : end ≡ at + length text
  pub front : take end out' ≡ take at out ++ text
  pub behind : drop end out' ≡ drop end out
