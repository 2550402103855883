-- Shifts of a holder mask. Assumes nothing.
use Rattle.std.proofs.Common.{◌≡◌, ℕ, ◌*◌, ◌/◌, ◌^◌, ◌<◌, ◌≤◌, div-lt_iff_lt-mul, one-mul, arith, pow_pos, pow_mono}
use native.Mathlib.Nat.{div-eq_of_lt}

-- A mask of 32 bits has no bit from 32 on.
pub past_mask : (m k : ℕ) → m < 2 ^ 32 → 32 ≤ k → m < 2 ^ k
past_mask m k h l = let p = pow_mono l in omega arith

pub shifted_out : (m k : ℕ) → m < 2 ^ k → m / 2 ^ k ≡ 0
shifted_out m k h = div-eq_of_lt h

pub below_shift : (m k : ℕ) → m / 2 ^ k ≡ 0 → m < 2 ^ k
below_shift m k h = let p : m < 1 * 2 ^ k = (div-lt_iff_lt-mul (pow_pos k)).0 (omega arith) in omega (arith, one-mul (2 ^ k))
