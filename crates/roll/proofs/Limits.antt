-- How far the numbers of a fair ship reach: the limits of 01 as facts, and from them the numbers on the way to the wind levers and to the period.
use Prim.Native.Nat.{◌*◌, ◌/◌, ◌^◌, ◌≤◌, ◌<◌}
use native.Mathlib.Omega.{arith}
use native.Mathlib.Nat.{mul-le-mul, mul-le-mul_left, div-mul-le_self, div-lt_iff_lt-mul}
use Rattle.rules.specs.Rounding.{ceil}
use Rattle.rules.specs.Blocks.{ok, ship, row, weather}
use Rattle.rules.specs.Curve.{Loaded}
use Rattle.rules.specs.Criteria.{lw1, lw2}
use Rattle.rules.specs.Roll.{b, C, q}
use Rattle.rules.specs.Ranges.{Fair, row_at}
use Rattle.rules.proofs.rounding.Rounding.{ceil_is, ceiling_least}
use Rattle.rules.proofs.layout.Fields.{both_true, Limited, limited}

-- The limits of 01 on what is worked with here.
pub record Sized (c : Loaded) : Type 0 where
  pub length_from : 24_000 ≤ c.ship.hull_length
  pub length_to : c.ship.hull_length ≤ 400_000
  pub breadth_from : 3_000 ≤ c.ship.breadth
  pub breadth_to : c.ship.breadth ≤ 70_000
  pub keel_to : c.ship.keel_area ≤ 20_000
  pub wind_to : c.weather.sky.wind_area ≤ 300_000
  pub z_to : c.weather.sky.z ≤ 60_000
  pub mass_from : 100_000 ≤ c.w
  pub mass_to : c.w ≤ 600_000_000
  pub draught_from : 500 ≤ c.draught
  pub draught_to : c.draught ≤ 30_000
  pub km_to : c.km ≤ 60_000
  pub kg_to : c.kg ≤ 600_000

pub sized : (c : Loaded) → Fair c → Sized c
unfolding ok Limited
sized c f =
    let hull = limited ship.fields (ship.listed c.ship) (both_true _ _ f.hull).0 in
    let sky = limited (weather c.weather.set).fields ((weather c.weather.set).listed c.weather.sky) (both_true _ _ f.sky).0 in
    let form = limited row.fields (row.listed (row_at c)) (both_true _ _ f.form).0 in
    record {
      length_from = hull.0;
      length_to = hull.1;
      breadth_from = hull.2.0;
      breadth_to = hull.2.1;
      keel_to = hull.2.2.1;
      wind_to = sky.1;
      z_to = sky.2.1;
      mass_from = form.0;
      mass_to = form.1;
      draught_from = form.2.0;
      draught_to = form.2.1;
      km_to = form.2.2.1;
      kg_to = f.centre;
    }

module _ (c : Loaded) (f : Fair c) where
  -- ---- the wind levers
  pub moment_to : 5040 * c.weather.sky.wind_area * c.weather.sky.z ≤ 5040 * 300_000 * 60_000
  moment_to = let s = sized c f in mul-le-mul (mul-le-mul_left 5040 s.wind_to) s.z_to

  pub lw1_to : lw1 c ≤ 1_000_000
  unfolding lw1
  lw1_to = let s = sized c f in ceiling_least (ceil_is _ (981 * c.w) (omega arith)) 1_000_000 (omega (arith, moment_to))

  pub lw2_to : lw2 c ≤ 1_500_000
  unfolding lw2
  lw2_to = ceiling_least (ceil_is (3 * lw1 c) 2 (omega arith)) 1_500_000 (omega (arith, lw1_to))

  -- ---- the keel index
  pub plan_from : 24_000 * 3_000 ≤ c.ship.hull_length * c.ship.breadth
  plan_from = mul-le-mul (sized c f).length_from (sized c f).breadth_from

  pub plan_to : c.ship.hull_length * c.ship.breadth ≤ 400_000 * 70_000
  plan_to = mul-le-mul (sized c f).length_to (sized c f).breadth_to

  -- ---- the way to the period
  pub b_to : b c ≤ 140_000
  unfolding b
  b_to = let s = sized c f in let above : 0 < c.draught = omega arith in let l : 1000 * c.ship.breadth / c.draught < 140_001 = (div-lt_iff_lt-mul above).1 (omega arith) in omega arith

  pub length_part_to : ceil (43 * c.ship.hull_length) 100 ≤ 172_000
  length_part_to = let s = sized c f in ceiling_least (ceil_is (43 * c.ship.hull_length) 100 (omega arith)) 172_000 (omega arith)

  pub C-to : C c ≤ 3_593_000
  unfolding C
  C-to = omega (arith, b_to)

  pub CB-to : 2 * C c * c.ship.breadth ≤ 2 * 3_593_000 * 70_000
  CB-to = mul-le-mul (mul-le-mul_left 2 C-to) (sized c f).breadth_to

  pub q_to : q c ≤ 503_020
  unfolding q
  q_to = omega (arith, CB-to, div-mul-le_self (2 * C c * c.ship.breadth) (10 ^ 6))
