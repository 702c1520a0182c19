-- `gust::net` meets its contract: an area from either side takes away the area up to the start's distance from upright, and all is far below 2^63. Assumes nothing.
use mathlib.Core.Path.{◌≡◌, ap, ◌∙◌}
use Prim.Native.Nat.{ℕ, ◌^◌, ◌<◌}
use native.Mathlib.Omega.{arith}
use lib.IntN.{ℤ, nat_abs}
use lib.Signed.{mag}
use mir.Syntax.{w64}
use mir.Val.{to_z, of_z}
use mir.ValLaws.{to_z-of_z}
use Rattle.rules.specs.Curve.{Loaded, y}
use Rattle.rules.specs.Roll.{start}
use Rattle.curve.specs.Heeled.{heeled}
use Rattle.curve.specs.Levers.{up_to}
use Rattle.roll.proofs.Limits.{lw2_to}
use Rattle.gust.specs.Gusts.{Blown}
use Rattle.gust.proofs.Machine.{fits, seen, counted}
use Rattle.gust.proofs.Angles.{end_range, start_tilt, under_fits, width_fits, twice_fits, gust_fits, net_is, net_within}
use Rattle.gust.proofs.net.Goals as goal

-- The area up to e, and the one up to the start's distance from upright, as they are read.
read : (f : ℤ → ℤ) (z : ℤ) (t n : ℕ) → mag z < 2 ^ 63 → z ≡ up_to f t → t ≡ n → to_z w64 (of_z w64 z) ≡ up_to f n
read f z t n m r h = to_z-of_z w64 z (record { sfits = m }) ∙ r ∙ ap (up_to f) h

-- How far the start is from upright.
side : (c : Loaded) → Blown c → (s : ℤ) (n : ℕ) → s ≡ start c → n ≡ nat_abs (to_z w64 (of_z w64 s)) → n ≡ nat_abs (start c)
side c b s n h k = k ∙ ap nat_abs (seen s (start c) h (omega (arith, start_tilt c b)))

pub area_to-requires : goal.area_to-requires
area_to-requires c = omega (arith, c.requires.3, end_range _ c.requires.0)

pub area_to-requires-2 : goal.area_to-requires-2
area_to-requires-2 c = omega (arith, side _ c.requires.0 _ _ c.requires.2 c.unsigned_abs-side.ensures.value, start_tilt _ c.requires.0)

pub overflow_sub-under : goal.overflow_sub-under
overflow_sub-under c =
    let b = c.requires.0 in
    let l = heeled c.args.curve.now in
    rw (read (y l) _ _ _ c.area_to.type_inv c.area_to.ensures c.requires.3, read (y l) _ _ (nat_abs (start l)) c.area_to-2.type_inv c.area_to-2.ensures (omega (arith, side l b _ _ c.requires.2 c.unsigned_abs-side.ensures.value, start_tilt l b))) (under_fits _ b)

pub overflow_cast-width : goal.overflow_cast-width
overflow_cast-width c = record { sfits = omega (arith, c.requires.3, end_range _ c.requires.0) }

pub overflow_sub-width : goal.overflow_sub-width
overflow_sub-width c =
    let b = c.requires.0 in
    rw (counted _ _ c.requires.3 (omega (arith, end_range _ b)), seen _ _ c.requires.2 (omega (arith, start_tilt _ b))) (width_fits _ b)

pub overflow_mul-result : goal.overflow_mul-result
overflow_mul-result c = let b = c.requires.0 in rw (seen _ _ c.requires.1 (omega (arith, lw2_to _ b.fair))) (twice_fits _ b)

pub overflow_mul-result-2 : goal.overflow_mul-result-2
overflow_mul-result-2 c =
    let b = c.requires.0 in
    rw (
      seen _ _ c.requires.1 (omega (arith, lw2_to _ b.fair)),
      to_z-of_z w64 _ (twice_fits _ b),
      counted _ _ c.requires.3 (omega (arith, end_range _ b)),
      seen _ _ c.requires.2 (omega (arith, start_tilt _ b)),
      to_z-of_z w64 _ (width_fits _ b),
    )
    (gust_fits _ b)

pub overflow_sub-result : goal.overflow_sub-result
overflow_sub-result c =
    let b = c.requires.0 in
    let l = heeled c.args.curve.now in
    rw (
      read (y l) _ _ _ c.area_to.type_inv c.area_to.ensures c.requires.3,
      read (y l) _ _ (nat_abs (start l)) c.area_to-2.type_inv c.area_to-2.ensures (omega (arith, side l b _ _ c.requires.2 c.unsigned_abs-side.ensures.value, start_tilt l b)),
      to_z-of_z w64 _ (under_fits _ b),
      seen _ _ c.requires.1 (omega (arith, lw2_to _ b.fair)),
      to_z-of_z w64 _ (twice_fits _ b),
      counted _ _ c.requires.3 (omega (arith, end_range _ b)),
      seen _ _ c.requires.2 (omega (arith, start_tilt _ b)),
      to_z-of_z w64 _ (width_fits _ b),
      to_z-of_z w64 _ (gust_fits _ b),
    )
    (rw (net_is _ b) (fits _ (net_within _ b)))

pub returns : goal.returns
returns c =
    let b = c.requires.0 in
    let l = heeled c.args.curve.now in
    rw (
      read (y l) _ _ _ c.area_to.type_inv c.area_to.ensures c.requires.3,
      read (y l) _ _ (nat_abs (start l)) c.area_to-2.type_inv c.area_to-2.ensures (omega (arith, side l b _ _ c.requires.2 c.unsigned_abs-side.ensures.value, start_tilt l b)),
      to_z-of_z w64 _ (under_fits _ b),
      seen _ _ c.requires.1 (omega (arith, lw2_to _ b.fair)),
      to_z-of_z w64 _ (twice_fits _ b),
      counted _ _ c.requires.3 (omega (arith, end_range _ b)),
      seen _ _ c.requires.2 (omega (arith, start_tilt _ b)),
      to_z-of_z w64 _ (width_fits _ b),
      to_z-of_z w64 _ (gust_fits _ b),
      net_is _ b,
      to_z-of_z w64 _ (fits _ (net_within _ b)),
    )
