-- `curve::levers::fifty` meets its contract: two levers, weighed by the tenths, stay far below 2^63. Assumes nothing.
use Prim.Native.Nat.{ℕ, ◌-◌, ◌*◌, ◌≤◌, ◌<◌, ◌^◌}
use native.Mathlib.Omega.{arith}
use lib.IntN.{ℤ, pos, nat_abs, ◌+ℤ◌, ◌*ℤ◌}
use mir.ValLaws.{to_z-of_z, to_z_pos}
use mir.Val.{SFits}
use mir.Syntax.{w64}
use Rattle.curve.specs.Levers.{most_g}
use Rattle.curve.proofs.Sizes.{part_left, part_past, straight_within, mag_abs}
use Rattle.curve.proofs.levers.fifty.Goals as goal

-- What fits, once for all the goals.
record Facts (a b : ℤ) (m : ℕ) : Type 0 where
  l : 50 - m < 2 ^ 63
  p : m < 2 ^ 63
  x : SFits w64 (pos (50 - m) *ℤ a)
  y : SFits w64 (pos m *ℤ b)
  z : SFits w64 (pos (50 - m) *ℤ a +ℤ pos m *ℤ b)

facts : (a b : ℤ) (m : ℕ) → nat_abs a ≤ most_g → nat_abs b ≤ most_g → m ≤ 50 → Facts a b m
facts a b m h k e =
    let n = 2 * 10 ^ 11 in
    record {
      l = omega arith;
      p = omega arith;
      x = record { sfits = omega (arith, mag_abs (pos (50 - m) *ℤ a), part_left a b m n e h k) };
      y = record { sfits = omega (arith, mag_abs (pos m *ℤ b), part_past a b m n e h k) };
      z = record { sfits = omega (arith, mag_abs (pos (50 - m) *ℤ a +ℤ pos m *ℤ b), straight_within a b m n e h k) };
    }

pub returns : goal.returns
returns c =
    let f = facts c.args.a c.args.b c.args.m c.requires.0 c.requires.1 c.requires.2 in
    simp (to_z-of_z w64 _ c.ranges.a, to_z_pos w64 _ f.l, to_z-of_z w64 _ c.ranges.b, to_z_pos w64 _ f.p, to_z-of_z w64 _ f.x, to_z-of_z w64 _ f.y, to_z-of_z w64 _ f.z)

pub overflow_mul-result : goal.overflow_mul-result
overflow_mul-result c =
    let f = facts c.args.a c.args.b c.args.m c.requires.0 c.requires.1 c.requires.2 in simp (to_z-of_z w64 _ c.ranges.a, to_z_pos w64 _ f.l) f.x

pub overflow_mul-result-2 : goal.overflow_mul-result-2
overflow_mul-result-2 c =
    let f = facts c.args.a c.args.b c.args.m c.requires.0 c.requires.1 c.requires.2 in simp (to_z-of_z w64 _ c.ranges.b, to_z_pos w64 _ f.p) f.y

pub overflow_add-result : goal.overflow_add-result
overflow_add-result c =
    let f = facts c.args.a c.args.b c.args.m c.requires.0 c.requires.1 c.requires.2 in
    simp (to_z-of_z w64 _ c.ranges.a, to_z_pos w64 _ f.l, to_z-of_z w64 _ c.ranges.b, to_z_pos w64 _ f.p, to_z-of_z w64 _ f.x, to_z-of_z w64 _ f.y) f.z
