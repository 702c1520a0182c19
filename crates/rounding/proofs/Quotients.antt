-- Quotients rounded up: the library's, and the machine's signed one by a number above zero, by the sign of what is divided, where one more with a remainder above zero is the ceiling.
use Prim.Native.Nat.{ℕ, zero, suc, ◌+◌, ◌/◌, ◌%◌, ◌<◌, ◌≤◌, min}
use native.Mathlib.Nat.{div-le_self, div-add-mod', div-eq_of_lt-le, suc-mul, mod-lt, le-mul_of_pos_right}
use native.Mathlib.Omega.{arith}
use native.Mathlib.Decide.{dec_le}
use mathlib.Core.Path.{◌≡◌, refl, ap, sym}
use mathlib.Core.Bool.{true, false}
use lib.Dec.{ltb→lt}
use lib.IntN.{ℤ, pos, negsuc, neg_ℤ, nat_abs, ◌+ℤ◌}
use lib.Signed.{◌<ℤ◌, quot_z, rem_z, lt_z, mag, mag_rem}
use borrow.Author.Tests.{ltb-true, ltb-false}
use mir.Syntax.{w64}
use mir.Val.{SFits}
use mir.ValLaws.{sfits_le}
use Rattle.rules.specs.Rounding.{ceil, ceil_z}

neg_mag : (r a : ℕ) → r ≤ suc a → mag (neg_ℤ (pos r)) ≤ a
neg_mag zero a h = omega arith
neg_mag (suc r) a h = omega arith

-- Below zero no remainder is above zero.
neg_not : (r : ℕ) → lt_z (pos 0) (neg_ℤ (pos r)) ≡ true → ⊥
neg_not zero e = let z : 0 < 0 = ltb-true 0 0 e in omega arith
neg_not (suc r) e = let z : ◌≡◌ {A = ℕ} 0 1 = cc in omega arith

-- ---- unsigned
with_remainder : (a d : ℕ) → 0 < d → 0 < a % d → a / d + 1 ≡ ceil a d
with_remainder a d h r = sym (div-eq_of_lt-le d (omega (arith, div-add-mod' a d, suc-mul (a / d) d)) (omega (arith, div-add-mod' a d, suc-mul (a / d) d, suc-mul (a / d + 1) d, mod-lt a h)))

with_none : (a d : ℕ) → 0 < d → a % d ≤ 0 → a / d ≡ ceil a d
with_none a d h r = sym (div-eq_of_lt-le d (omega (arith, div-add-mod' a d)) (omega (arith, div-add-mod' a d, suc-mul (a / d) d)))

-- The library's quotient rounded up.
pub div_ceil_is : (n d : ℕ) → 0 < d → n / d + min 1 (n % d) ≡ ceil n d
div_ceil_is n d h = elim (dec_le (n % d) 0) [
  | yes e ↦ omega (arith, with_none n d h e)
  | no e ↦ omega (arith, with_remainder n d h (omega arith))
]

-- ---- signed
pub one_more : (a d : ℤ) → pos 0 <ℤ d → lt_z (pos 0) (rem_z a d) ≡ true → quot_z a d +ℤ pos 1 ≡ ceil_z a (nat_abs d)
one_more (pos a) (pos d) h e = ap pos (with_remainder a d (ltb→lt 0 d h.lt) (ltb-true 0 (a % d) e))
one_more (negsuc a) (pos d) h e = absurd (neg_not (suc a % d) e)
one_more (pos a) (negsuc d) h e = absurd h.lt
one_more (negsuc a) (negsuc d) h e = absurd h.lt

pub no_more : (a d : ℤ) → pos 0 <ℤ d → lt_z (pos 0) (rem_z a d) ≡ false → quot_z a d ≡ ceil_z a (nat_abs d)
no_more (pos a) (pos d) h e = ap pos (with_none a d (ltb→lt 0 d h.lt) (ltb-false 0 (a % d) e))
no_more (negsuc a) (pos d) h e = refl
no_more (pos a) (negsuc d) h e = absurd h.lt
no_more (negsuc a) (negsuc d) h e = absurd h.lt

-- ---- what fits
pub quot_fits : (a d : ℤ) → SFits w64 a → pos 0 <ℤ d → SFits w64 (quot_z a d)
quot_fits (pos a) (pos d) f h = sfits_le (div-le_self a d) f
quot_fits (negsuc a) (pos d) f h = sfits_le (neg_mag (suc a / d) a (div-le_self (suc a) d)) f
quot_fits (pos a) (negsuc d) f h = absurd h.lt
quot_fits (negsuc a) (negsuc d) f h = absurd h.lt

pub rem_fits : (a d : ℤ) → SFits w64 a → SFits w64 (rem_z a d)
rem_fits a d f = sfits_le (mag_rem a d) f

-- The quotient of a number with a remainder is below the number.
pub one_more_fits : (a d : ℤ) → SFits w64 a → pos 0 <ℤ d → lt_z (pos 0) (rem_z a d) ≡ true → SFits w64 (quot_z a d +ℤ pos 1)
one_more_fits (pos a) (pos d) f h e = sfits_le (room (ltb→lt 0 d h.lt) (ltb-true 0 (a % d) e)) f
  where
    room : 0 < d → 0 < a % d → a / d + 1 ≤ a
    room h r = omega (arith, div-add-mod' a d, le-mul_of_pos_right (a / d) h)
one_more_fits (negsuc a) (pos d) f h e = absurd (neg_not (suc a % d) e)
one_more_fits (pos a) (negsuc d) f h e = absurd h.lt
one_more_fits (negsuc a) (negsuc d) f h e = absurd h.lt
