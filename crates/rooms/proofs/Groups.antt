-- Behind the four bytes of the group bits there is none.
-- Assumes nothing.
use Rattle.std.proofs.Common.{◌≡◌, ℕ, ◌/◌, ◌%◌, ◌^◌, ◌<◌, ◌≤◌}
use native.Mathlib.Nat.{div-eq_of_lt, lt_of_lt_of_le, pow-le-pow_right, zero-lt-suc}

pub none_behind : (n k : ℕ) → n < 2 ^ 32 → 4 ≤ k → 0 ≡ n / 256 ^ k % 256
none_behind n k l h = rw (div-eq_of_lt (lt_of_lt_of_le l (pow-le-pow_right (zero-lt-suc 255) h)))
