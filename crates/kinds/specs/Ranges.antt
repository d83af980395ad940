-- Numbers kept in a range, so that whatever a field holds stands for a number of the range. Assumes nothing.
use Rattle.std.specs.Prelude.{ℕ, ◌+◌, ◌-◌, ◌%◌}

-- a number from 1 to k (k not 0): n itself where it is one, and otherwise by a remainder
abbrev pub within : ℕ → ℕ → ℕ
within k n = (n + (k - 1)) % k + 1
