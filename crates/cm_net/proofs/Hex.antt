-- Numbers of a few hexadecimal digits.
use Rattle.std.proofs.Common.{ℕ, ◌^◌, ◌<◌, arith, zero, suc}

-- behind at most three digits a further one fits
pub four_digits : (k n : ℕ) → k < 4 → n < 16 ^ k → n < 4096
four_digits zero n few small = omega arith
four_digits (suc zero) n few small = omega arith
four_digits (suc (suc zero)) n few small = omega arith
four_digits (suc (suc (suc zero))) n few small = omega arith
four_digits (suc (suc (suc (suc k)))) n few small = absurd (omega (arith, few))
