-- How far from zero y comes, with KG in tenths: no further than these two values, and both are met. 2^63, which the machine's signed numbers hold, is three million times as far.
use mathlib.Core.Path.{◌≡◌, refl}
use mathlib.Core.Bool.{true}
use mathlib.Core.List.{List, [], ◌∷◌}
use Prim.Native.Nat.{ℕ, ◌+◌, ◌-◌, ◌*◌, ◌/◌, ◌%◌, ◌≤◌}
use native.Mathlib.Omega.{arith}
use native.Mathlib.Nat.{mul-le-mul, mul-le-mul_right}
use lib.ListN.{get_or}
use lib.IntN.{pos, neg_ℤ, sub_ℕ}
use Rattle.rules.specs.Blocks.{smooth}
use Rattle.rules.specs.Loading.{tenths}
use Rattle.rules.specs.Curve.{Loaded, fifty, sines, lever, lever_z, y}
use Rattle.rules.specs.Ranges.{Fair, row_at}
use Rattle.rules.proofs.rounding.Signed.{Le, sub≡}
use Rattle.curve.proofs.Limits.{kn_most}
use Rattle.curve.proofs.Sizes.{entry_below}

-- 'Limits .. KN 0..30,000', '8 now above 600,000'; the greatest sine is that of 60 degrees, 86,603.
abbrev highest : ℕ
highest = 1_500_000_000_000

abbrev lowest : ℕ
lowest = 2_598_090_000_000

fifty_to : (n : ℕ) (vs : List ℕ) → ((i : ℕ) → get_or vs i 0 ≤ n) → (t : ℕ) → fifty vs t ≤ n * 50
fifty_to n vs all t = go (get_or vs (t / 50) 0) (get_or vs (t / 50 + 1) 0) (50 - t % 50) (t % 50) (all (t / 50)) (all (t / 50 + 1)) (omega arith)
  where
    go : (a b l m : ℕ) → a ≤ n → b ≤ n → l + m ≡ 50 → a * l + b * m ≤ n * 50
    go a b l m h k e = rw (← e) (omega (arith, mul-le-mul_right l h, mul-le-mul_right m k))

sines_to : (i : ℕ) → get_or sines i 0 ≤ 86_603
sines_to i = omega (arith, entry_below 86_604 sines (omega arith) tt i)

pub y_reach : (c : Loaded) → Fair c → (t : ℕ) → Le (neg_ℤ (pos lowest)) (y c (pos t)) × Le (y c (pos t)) (pos highest)
unfolding lever_z lever
y_reach c fair t = go c.unit (fifty c.kn t) c.kg (fifty sines t) fair.unit (fifty_to 30_000 c.kn (kn_most (row_at c) fair.form) t) fair.centre (fifty_to 86_603 sines sines_to t)
  where
    go : (m v kg s : ℕ) → m ≡ tenths → v ≤ 30_000 * 50 → kg ≤ 600_000 → s ≤ 86_603 * 50 → Le (neg_ℤ (pos lowest)) (sub_ℕ (m * 100000 * v) (kg * s)) × Le (sub_ℕ (m * 100000 * v) (kg * s)) (pos highest)
    go m v kg s e h k l = let x : m * 100000 * v ≡ 1_000_000 * v = rw e in (omega (arith, sub≡ (m * 100000 * v) (kg * s), mul-le-mul k l), omega (arith, sub≡ (m * 100000 * v) (kg * s)))

-- At 60 degrees: KN 30,000 with KG 0, in the steepest row that has no typing slip, and no KN with KG 600,000.
abbrev steepest : List ℕ
steepest = 0 ∷ 4_700 ∷ 9_000 ∷ 12_900 ∷ 16_400 ∷ 19_500 ∷ 22_200 ∷ 24_500 ∷ 26_400 ∷ 27_900 ∷ 29_000 ∷ 29_700 ∷ 30_000 ∷ []

pub y_met : (smooth steepest ≡ true) × (lever tenths steepest 0 600 ≡ pos highest) × (lever tenths [] 600_000 600 ≡ neg_ℤ (pos lowest))
unfolding lever smooth
y_met = (refl, refl, refl)
