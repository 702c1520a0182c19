-- Signed numbers in the machine: a difference and a product of what is near enough to zero fits, and is what it is.
use mathlib.Core.Path.{◌≡◌, refl}
use Prim.Native.Nat.{ℕ, zero, suc, ◌+◌, ◌*◌, ◌^◌, ◌≤◌, ◌<◌}
use native.Mathlib.Omega.{arith}
use lib.IntN.{ℤ, pos, negsuc, neg_ℤ, nat_abs, ◌-ℤ◌, ◌*ℤ◌}
use mir.Syntax.{w64}
use mir.Val.{SFits, to_z, of_z}
use mir.ValLaws.{to_z-of_z, to_z_pos}
use Rattle.curve.proofs.Sizes.{abs_add, mag_abs}

abs_neg : (a : ℤ) → nat_abs (neg_ℤ a) ≡ nat_abs a
abs_neg (pos zero) = refl
abs_neg (pos (suc n)) = refl
abs_neg (negsuc n) = refl

pub fits : (a : ℤ) → nat_abs a < 2 ^ 63 → SFits w64 a
fits a h = record { sfits = omega (arith, mag_abs a) }

-- What is near enough is the same in the machine, there and back.
pub seen : (a b : ℤ) → a ≡ b → nat_abs b < 2 ^ 63 → to_z w64 (of_z w64 a) ≡ b
seen a b e h = rw e (to_z-of_z w64 b (fits b h))

-- A number without a sign, as one with.
pub counted : (n m : ℕ) → n ≡ m → m < 2 ^ 63 → to_z w64 n ≡ pos m
counted n m e h = rw e (to_z_pos w64 m h)

pub abs_minus : (a b : ℤ) → nat_abs (a -ℤ b) ≤ nat_abs a + nat_abs b
abs_minus a b = omega (arith, abs_add a (neg_ℤ b), abs_neg b)

pub abs_mul : (a b : ℤ) → nat_abs (a *ℤ b) ≡ nat_abs a * nat_abs b
abs_mul (pos a) (pos b) = refl
abs_mul (pos a) (negsuc b) = abs_neg (pos (a * suc b))
abs_mul (negsuc a) (pos b) = abs_neg (pos (suc a * b))
abs_mul (negsuc a) (negsuc b) = refl
