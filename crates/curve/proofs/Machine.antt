-- Signed numbers in the machine: what fits, and that it comes back as it was.
use mathlib.Core.Path.{◌≡◌, refl, sym, ◌∙◌}
use mathlib.Core.Bool.{Bool, true, false}
use Prim.Native.Nat.{ℕ, ◌≤◌, ◌<◌, ◌^◌}
use native.Mathlib.Omega.{arith}
use lib.IntN.{ℤ, pos, negsuc, sub_ℕ, nat_abs, ◌+ℤ◌, ◌-ℤ◌}
use lib.Signed.{mag, le_z, lt_z}
use borrow.Author.Tests.{leb-true, le-ltb}
use mir.Syntax.{w64}
use mir.Val.{SFits, to_z, of_z}
use mir.Facts.{to_z-of_z, to_z_pos}
use Rattle.rules.proofs.rounding.Signed.{sub_is}
use Rattle.curve.proofs.Sizes.{abs_difference, mag_abs}

pub back : (z : ℤ) → mag z < 2 ^ 63 → to_z w64 (of_z w64 z) ≡ z
back z h = to_z-of_z {w = w64} {z = z} (record { sfits = h })

-- A test of order in the machine is the test of the numbers.
module _ (a b : ℤ) (t : Bool) (h : mag a < 2 ^ 63) (k : mag b < 2 ^ 63) where
  pub tested_below : lt_z (to_z w64 (of_z w64 a)) (to_z w64 (of_z w64 b)) ≡ t → lt_z a b ≡ t
  tested_below e = rw (back a h, back b k) at e

  pub tested_within : le_z (to_z w64 (of_z w64 a)) (to_z w64 (of_z w64 b)) ≡ t → le_z a b ≡ t
  tested_within e = rw (back a h, back b k) at e

-- At or above is not below.
pub at_or_above : (a b : ℤ) → le_z b a ≡ true → lt_z a b ≡ false
at_or_above (pos a) (pos b) e = le-ltb a b (leb-true b a e)
at_or_above (pos a) (negsuc b) e = refl
at_or_above (negsuc a) (pos b) e = sym e
at_or_above (negsuc a) (negsuc b) e = le-ltb b a (leb-true a b e)

-- The difference of two unsigned numbers, taken once, signed.
module _ (a b : ℕ) (h : a ≤ 10 ^ 11) (k : b ≤ 10 ^ 11) where
  signed : to_z w64 a -ℤ to_z w64 b ≡ sub_ℕ a b
  signed = rw (to_z_pos w64 {n = a} (omega arith), to_z_pos w64 {n = b} (omega arith)) (sub_is a b)

  pub difference_fits : SFits w64 (to_z w64 a -ℤ to_z w64 b)
  difference_fits = rw signed (record { sfits = omega (arith, mag_abs (sub_ℕ a b), abs_difference a b) })

  pub difference : to_z w64 (of_z w64 (to_z w64 a -ℤ to_z w64 b)) ≡ sub_ℕ a b
  difference = to_z-of_z difference_fits ∙ signed

-- What is so near to zero comes back as near.
pub near : (z : ℤ) (n : ℕ) → mag z < 2 ^ 63 → nat_abs z ≤ n → nat_abs (to_z w64 (of_z w64 z)) ≤ n
near z n h k = rw (back z h) k

-- A sum of two added to a running sum.
module _ (s a b : ℤ) (hs : mag s < 2 ^ 63) (ha : mag a < 2 ^ 63) (hb : mag b < 2 ^ 63) (pair : mag (a +ℤ b) < 2 ^ 63) (all : mag (s +ℤ (a +ℤ b)) < 2 ^ 63) where
  pub pair_fits : SFits w64 (to_z w64 (of_z w64 a) +ℤ to_z w64 (of_z w64 b))
  pair_fits = rw (back a ha, back b hb) (record { sfits = pair })

  running : to_z w64 (of_z w64 s) +ℤ to_z w64 (of_z w64 (to_z w64 (of_z w64 a) +ℤ to_z w64 (of_z w64 b))) ≡ s +ℤ (a +ℤ b)
  running = rw (back s hs, back a ha, back b hb, back (a +ℤ b) pair)

  pub running_fits : SFits w64 (to_z w64 (of_z w64 s) +ℤ to_z w64 (of_z w64 (to_z w64 (of_z w64 a) +ℤ to_z w64 (of_z w64 b))))
  running_fits = rw running (record { sfits = all })

  pub running_sum : to_z w64 (of_z w64 (to_z w64 (of_z w64 s) +ℤ to_z w64 (of_z w64 (to_z w64 (of_z w64 a) +ℤ to_z w64 (of_z w64 b))))) ≡ s +ℤ (a +ℤ b)
  running_sum = to_z-of_z running_fits ∙ running
