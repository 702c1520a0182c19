-- How far the angles of criterion 8 reach where it has a net area, and the areas between them.
use mathlib.Core.Path.{◌≡◌, ap, sym}
use mathlib.Core.Bool.{Bool, true, false}
use Prim.Native.Nat.{ℕ, suc, ◌+◌, ◌*◌, ◌^◌, ◌≤◌, ◌<◌}
use native.Mathlib.Omega.{arith}
use native.Mathlib.Nat.{mul-le-mul}
use lib.IntN.{ℤ, pos, negsuc, neg_ℤ, nat_abs, ◌-ℤ◌, ◌*ℤ◌}
use lib.Signed.{le_z}
use mir.Syntax.{w64}
use mir.Val.{SFits}
use Rattle.rules.specs.Loading.{tenths}
use Rattle.rules.specs.Curve.{Loaded, y, area}
use Rattle.rules.specs.Criteria.{lw1, lw2, units, phi0}
use Rattle.rules.specs.Roll.{phi1, start, e, net}
use Rattle.rules.specs.Ranges.{Fair}
use Rattle.rules.proofs.rounding.Signed.{up, dn, Le, up_neg, dn_neg, up_add, dn_add}
use Rattle.rules.proofs.criteria.Angles.{u_is, gust, e_is}
use Rattle.curve.specs.Levers.{up_to}
use Rattle.curve.proofs.Areas.{leeward, windward}
use Rattle.curve.proofs.Curves.{lever_odd, fair_upright, up_to_within}
use Rattle.roll.proofs.Angles.{angle_range}
use Rattle.roll.proofs.Limits.{lw2_to}
use Rattle.gust.specs.Gusts.{Blown}
use Rattle.gust.proofs.Machine.{fits, abs_minus, abs_mul}

module _ (c : Loaded) where
  -- ---- 'Start = phi0 if y(phi0) = lw1, else phi0 - 1; less phi1'
  begin : Bool → ℤ
  begin reached = elim reached [ true ↦ pos (phi0 c) -ℤ pos (phi1 c) | false ↦ pos (phi0 c) -ℤ pos 1 -ℤ pos (phi1 c) ]

  pub start_there : le_z (y c (pos (phi0 c))) (units c.unit (lw1 c)) ≡ true → pos (phi0 c) -ℤ pos (phi1 c) ≡ start c
  unfolding start begin
  start_there h = ap begin (sym h)

  pub start_before : le_z (y c (pos (phi0 c))) (units c.unit (lw1 c)) ≡ false → pos (phi0 c) -ℤ pos 1 -ℤ pos (phi1 c) ≡ start c
  unfolding start begin
  start_before h = ap begin (sym h)

-- ---- an angle of either sign
taken : (a : ℤ) (n : ℕ) → (up (a -ℤ pos n) ≤ up a) × (dn (a -ℤ pos n) ≤ dn a + n)
taken a n = omega (arith, up_add a (neg_ℤ (pos n)), dn_add a (neg_ℤ (pos n)), up_neg (pos n), dn_neg (pos n))

tilt_to : (a : ℤ) (n : ℕ) → up a ≤ n → dn a ≤ n → nat_abs a ≤ n
tilt_to (pos a) n h l = h
tilt_to (negsuc a) n h l = l

-- The windward side is the mirror with its sign changed, so that an area from either side takes away the same area from upright.
mirrored : (c : Loaded) → Fair c → (a : ℤ) (t : ℕ) → Le a (pos t) → area (y c) a (pos t) ≡ up_to (y c) t -ℤ up_to (y c) (nat_abs a)
mirrored c fair (pos a) t h = leeward (y c) a t (omega arith)
mirrored c fair (negsuc a) t h = windward (y c) (lever_odd c.unit c.kn c.kg (fair_upright c fair)) (suc a) t

-- ---- how far they reach
module _ (c : Loaded) (blown : Blown c) where
  pub heel_to : phi0 c ≤ 500
  heel_to = omega (arith, gust c blown.met, (u_is c).low)

  pub end_range : (phi0 c ≤ e c) × (e c ≤ 500)
  end_range = let s = e_is c blown.met in (omega (arith, (u_is c).low, s.low), omega (arith, s.high))

  pub roll_to : phi1 c ≤ 350
  roll_to = (angle_range c blown.judged).1

  pub start_range : (up (start c) ≤ phi0 c) × (dn (start c) ≤ 351)
  unfolding start begin
  start_range = go (le_z (y c (pos (phi0 c))) (units c.unit (lw1 c)))
    where
      go : (reached : Bool) → (up (begin c reached) ≤ phi0 c) × (dn (begin c reached) ≤ 351)
      go true = omega (arith, taken (pos (phi0 c)) (phi1 c), roll_to)
      go false = omega (arith, taken (pos (phi0 c) -ℤ pos 1) (phi1 c), taken (pos (phi0 c)) 1, roll_to)

  pub start_to_end : Le (start c) (pos (e c))
  start_to_end = omega (arith, start_range, end_range)

  pub start_tilt : nat_abs (start c) ≤ 500
  start_tilt = tilt_to (start c) 500 (omega (arith, start_range, heel_to)) (omega (arith, start_range))

  -- ---- the area from the start
  pub area_from : area (y c) (start c) (pos (e c)) ≡ up_to (y c) (e c) -ℤ up_to (y c) (nat_abs (start c))
  area_from = mirrored c blown.fair (start c) (e c) start_to_end

  pub area_within : nat_abs (area (y c) (start c) (pos (e c))) ≤ 2 * 10 ^ 16
  area_within =
      rw area_from
      (omega (arith, abs_minus (up_to (y c) (e c)) (up_to (y c) (nat_abs (start c))), up_to_within c blown.fair (e c) (omega (arith, end_range)), up_to_within c blown.fair (nat_abs (start c)) (omega (arith, start_tilt)), end_range, start_tilt))

  -- ---- what is taken from it
  pub width_within : nat_abs (pos (e c) -ℤ start c) ≤ 1000
  width_within = omega (arith, abs_minus (pos (e c)) (start c), end_range, start_tilt)

  far : (m l : ℕ) → m ≡ 10 → l ≤ 1_500_000 → 2 * (m * 5_000_000 * l) ≤ 150_000_000_000_000
  far m l e h = rw e (omega arith)

  pub gust_within : nat_abs (pos 2 *ℤ units c.unit (lw2 c) *ℤ (pos (e c) -ℤ start c)) ≤ 150_000_000_000_000 * 1000
  gust_within =
      let l : 2 * (c.unit * 5_000_000 * lw2 c) ≤ 150_000_000_000_000 = far c.unit (lw2 c) blown.fair.unit (lw2_to c blown.fair) in
      rw (abs_mul (pos 2 *ℤ units c.unit (lw2 c)) (pos (e c) -ℤ start c)) (mul-le-mul l width_within)

  -- ---- what the machine's signed numbers hold on the way
  pub heel_fits : SFits w64 (pos (phi0 c) -ℤ pos (phi1 c))
  heel_fits = fits _ (omega (arith, abs_minus (pos (phi0 c)) (pos (phi1 c)), heel_to, roll_to))

  pub before_fits : SFits w64 (pos (phi0 c) -ℤ pos 1)
  before_fits = fits _ (omega (arith, abs_minus (pos (phi0 c)) (pos 1), heel_to))

  pub rolled_fits : SFits w64 (pos (phi0 c) -ℤ pos 1 -ℤ pos (phi1 c))
  rolled_fits = fits _ (omega (arith, abs_minus (pos (phi0 c) -ℤ pos 1) (pos (phi1 c)), abs_minus (pos (phi0 c)) (pos 1), heel_to, roll_to))

  pub under_fits : SFits w64 (up_to (y c) (e c) -ℤ up_to (y c) (nat_abs (start c)))
  under_fits = rw (← area_from) (fits _ (omega (arith, area_within)))

  pub width_fits : SFits w64 (pos (e c) -ℤ start c)
  width_fits = fits _ (omega (arith, width_within))

  pub twice_fits : SFits w64 (pos 2 *ℤ units tenths (lw2 c))
  twice_fits = record { sfits = omega (arith, lw2_to c blown.fair) }

  pub gust_fits : SFits w64 (pos 2 *ℤ units c.unit (lw2 c) *ℤ (pos (e c) -ℤ start c))
  gust_fits = fits _ (omega (arith, gust_within))

  pub net_is : up_to (y c) (e c) -ℤ up_to (y c) (nat_abs (start c)) -ℤ pos 2 *ℤ units c.unit (lw2 c) *ℤ (pos (e c) -ℤ start c) ≡ net c
  unfolding net
  net_is = rw area_from

  pub net_within : nat_abs (net c) < 2 ^ 63
  unfolding net
  net_within = omega (arith, abs_minus (area (y c) (start c) (pos (e c))) (pos 2 *ℤ units c.unit (lw2 c) *ℤ (pos (e c) -ℤ start c)), area_within, gust_within)
