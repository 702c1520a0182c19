-- How far the roll reaches where it is judged: from 6.4 to 35 degrees, and the product that it is the root of.
use mathlib.Core.Path.{◌≡◌, ap, ◌∙◌}
use mathlib.Core.Bool.{false}
use Prim.Native.Nat.{ℕ, ◌*◌, ◌^◌, ◌≤◌, ◌<◌}
use native.Mathlib.Nat.{mul-le-mul, mul-le-mul_left}
use lib.IntN.{ℤ, nat_abs}
use mir.Syntax.{w64}
use mir.Val.{to_z, of_z}
use mir.ValLaws.{to_z-of_z}
use lib.Signed.{mag}
use Rattle.rules.specs.Curve.{Loaded}
use Rattle.rules.specs.Roll.{p, r, phi1, not_judged}
use Rattle.rules.proofs.criteria.Roll.{product}
use Rattle.rules.proofs.criteria.Ranges.{s_range, p_range, judged, r_range, phi1_judged, phi1_from}

-- r's size, as the machine has it.
pub r_size : (c : Loaded) (z : ℤ) (n : ℕ) → mag z < 2 ^ 63 → z ≡ r c → n ≡ nat_abs (to_z w64 (of_z w64 z)) → n ≡ nat_abs (r c)
r_size c z n f e s = s ∙ ap nat_abs (to_z-of_z w64 z (record { sfits = f }) ∙ e)

module _ (c : Loaded) (h : not_judged c ≡ false) where
  -- ---- the product, factor by factor
  pub pp_to : 1090 * 1090 * p c * p c ≤ 1090 * 1090 * 1000 * 1000
  pp_to = mul-le-mul (mul-le-mul_left (1090 * 1090) (p_range c)) (p_range c)

  pub ppr_to : 1090 * 1090 * p c * p c * nat_abs (r c) ≤ 1090 * 1090 * 1000 * 1000 * 1030
  ppr_to = mul-le-mul pp_to (r_range c (judged c h)).2

  pub product_to : product c ≤ 1090 * 1090 * 1000 * 1000 * 1030 * 1000
  product_to = mul-le-mul ppr_to (s_range c).1

  -- ---- its root
  pub angle_range : (64 ≤ phi1 c) × (phi1 c ≤ 350)
  angle_range = (phi1_from c (judged c h), (phi1_judged c (judged c h)).1)
