-- r in the machine's signed numbers: 600 (KG - 10 d), its quotient by 10 d, and 730 more, all small.
use mathlib.Core.Path.{◌≡◌}
use Prim.Native.Nat.{ℕ, ◌*◌, ◌≤◌, ◌<◌, ◌^◌}
use native.Mathlib.Omega.{arith}
use lib.IntN.{ℤ, pos, negsuc, neg_ℤ, ◌+ℤ◌, ◌-ℤ◌, ◌*ℤ◌}
use mir.Syntax.{w64}
use mir.Val.{SFits, to_z}
use mir.ValLaws.{to_z_pos}
use lib.Dec.{lt→ltb}
use lib.Signed.{lt_z_yes, ◌<ℤ◌}
use Rattle.rules.specs.Loading.{tenths}
use Rattle.rules.specs.Rounding.{ceil_z}
use Rattle.rules.specs.Curve.{Loaded}
use Rattle.rules.specs.Roll.{r_of}
use Rattle.rules.proofs.rounding.Signed.{up, dn, Le, sub_is, up_add, dn_add, up_mull, dn_mull, up_neg, dn_neg, mag_le}
use Rattle.rules.proofs.rounding.Rounding.{CeilingZ, ceil_z_is, ceiling_z_least, ceiling_z_from}
use Rattle.roll.proofs.Limits.{Sized}

-- Both parts of a number are at most n.
record Within (n : ℕ) (z : ℤ) : Type 0 where
  above : up z ≤ n
  below : dn z ≤ n

within : (n : ℕ) (z : ℤ) → Le z (pos n) → Le (neg_ℤ (pos n)) z → Within n z
within n (pos k) a b = record { above = omega arith; below = omega arith }
within n (negsuc k) a b = record { above = omega arith; below = omega (arith, up_neg (pos n), dn_neg (pos n)) }

fits : (n : ℕ) (z : ℤ) → n < 2 ^ 62 → Within n z → SFits w64 z
fits n z h w = record { sfits = omega (arith, mag_le z, w.above, w.below) }

module _ (c : Loaded) (s : Sized c) where
  abbrev d : ℕ
  d = 10 * c.draught

  abbrev over : ℤ
  over = pos c.kg -ℤ pos d

  over_within : Within 900_000 over
  over_within = record { above = omega (arith, up_add (pos c.kg) (neg_ℤ (pos d)), up_neg (pos d)); below = omega (arith, dn_add (pos c.kg) (neg_ℤ (pos d)), dn_neg (pos d)) }

  times_within : Within 540_000_000 (pos 600 *ℤ over)
  times_within = record { above = rw up_mull (omega (arith, over_within.above)); below = rw dn_mull (omega (arith, over_within.below)) }

  quotient_is : CeilingZ (pos 600 *ℤ over) d (ceil_z (pos 600 *ℤ over) d)
  quotient_is = ceil_z_is (pos 600 *ℤ over) d (omega arith)

  -- More than enough, as d is not below 1.
  quotient_within : Within 540_000_000 (ceil_z (pos 600 *ℤ over) d)
  quotient_within =
      within 540_000_000 (ceil_z (pos 600 *ℤ over) d)
      (ceiling_z_least quotient_is (pos 540_000_000) (omega (arith, times_within.above)))
      (ceiling_z_from quotient_is (omega arith) (neg_ℤ (pos 540_000_000)) (omega (arith, times_within.below, up_neg (pos (540_000_000 * d)), dn_neg (pos (540_000_000 * d)))))

  abbrev sum : ℤ
  sum = pos 730 +ℤ ceil_z (pos 600 *ℤ over) d

  sum_within : Within 540_000_730 sum
  sum_within = record { above = omega (arith, up_add (pos 730) (ceil_z (pos 600 *ℤ over) d), quotient_within.above); below = omega (arith, dn_add (pos 730) (ceil_z (pos 600 *ℤ over) d), quotient_within.below) }

  -- ---- what fits, and what it is
  pub kg_back : to_z w64 c.kg ≡ pos c.kg
  kg_back = to_z_pos w64 c.kg (omega (arith, s))

  pub d_back : to_z w64 d ≡ pos d
  d_back = to_z_pos w64 d (omega (arith, s))

  pub d_above : pos 0 <ℤ pos d
  d_above = lt_z_yes (lt→ltb 0 d (omega (arith, s)))

  pub over_fits : SFits w64 over
  over_fits = fits 900_000 over (omega arith) over_within

  pub times_fits : SFits w64 (pos 600 *ℤ over)
  times_fits = fits 540_000_000 (pos 600 *ℤ over) (omega arith) times_within

  pub sum_fits : SFits w64 sum
  sum_fits = fits 540_000_730 sum (omega arith) sum_within

  pub sum_is : sum ≡ r_of tenths c.kg c.draught
  unfolding r_of
  sum_is = rw (sub_is c.kg d)
