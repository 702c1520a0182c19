-- p: the product of factors that are thousandths of one, each rounded up.
use Prim.Native.Nat.{◌*◌, ◌≤◌}
use native.Mathlib.Omega.{arith}
use native.Mathlib.Nat.{mul-le-mul}
use Rattle.rules.specs.Rounding.{ceil}
use Rattle.rules.specs.Curve.{Loaded}
use Rattle.rules.specs.Roll.{k, x1, x2}
use Rattle.rules.proofs.rounding.Rounding.{ceil_is, ceiling_least}
use Rattle.rules.proofs.criteria.Ranges.{k_range, x1_range, x2_range}

module _ (c : Loaded) where
  pub kx_to : k c * x1 c ≤ 1_000_000
  kx_to = mul-le-mul (k_range c).1 (x1_range c).1

  pub kxx_to : ceil (k c * x1 c) 1000 * x2 c ≤ 1_000_000
  kxx_to = mul-le-mul (ceiling_least (ceil_is (k c * x1 c) 1000 (omega arith)) 1000 kx_to) (x2_range c).1
