-- Criterion 7 at the exact heel: phi0 as used is no less than where the curve has lw1, by less than a tenth; so what passes at the one passes at the other.
use mathlib.Core.Path.{◌≡◌}
use mathlib.Core.Bool.{Bool, true, false, not, ◌||◌}
use Prim.Native.Nat.{ℕ, ◌+◌, ◌*◌, ◌≤◌, ◌<◌}
use native.Mathlib.Omega.{arith}
use native.Mathlib.Nat.{mul-le-mul_left}
use lib.IntN.{pos}
use borrow.Author.Tests.{leb-true}
use Rattle.rules.specs.Curve.{Loaded, y, E}
use Rattle.rules.specs.Criteria.{set, phi0, passes7}
use Rattle.rules.proofs.layout.Fields.{both_true}
use Rattle.earned.specs.Gust.{phi0_by, PassesAt}
use Rattle.earned.proofs.Finer.{heel_to, heel_within}

-- A test that counts is met.
counted : (deck b : Bool) → deck ≡ true → not deck || b ≡ true → b ≡ true
counted true b d h = h
counted false b d h = absurd (let z : ◌≡◌ {A = ℕ} 0 1 = cc in omega arith)

-- What a pass says of phi0.
passed : (c : Loaded) → passes7 c ≡ true → (phi0 c ≤ E c) × (phi0 c ≤ (set c).heel) × ((set c).deck ≡ true → 10 * phi0 c ≤ 8 * c.weather.sky.deck_edge)
unfolding passes7
passed c v =
    let a = both_true _ _ v in
    let b = both_true _ _ a.0 in
    (leb-true _ _ b.0, leb-true _ _ b.1, λ d. leb-true _ _ (counted (set c).deck _ d a.1))

module _ (q : ℕ) (some : 0 < q) (c : Loaded) (upright : y c (pos 0) ≡ pos 0) where
  pub heel : phi0 c ≤ E c → (phi0_by q c ≤ q * phi0 c) × (q * phi0 c < phi0_by q c + q)
  heel reached = (heel_to q some c upright reached, heel_within q some c upright reached)

  pub seventh : passes7 c ≡ true → PassesAt q c
  seventh v =
      let p = passed c v in
      let h = (heel p.0).0 in
      record { reached = omega (arith, mul-le-mul_left q p.0); upright = omega (arith, mul-le-mul_left q p.1); dry = λ d. omega (arith, mul-le-mul_left q (p.2 d)) }
