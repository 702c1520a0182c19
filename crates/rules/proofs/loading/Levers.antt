-- The curve: 'y(t) at t tenths is 50 times the straight-line value of g', and to windward its mirror, whatever the flooding angle.
use mathlib.Core.Path.{◌≡◌, refl, ap}
use mathlib.Core.List.{List}
use Prim.Native.Nat.{ℕ, suc, ◌+◌, ◌-◌, ◌*◌, ◌/◌, ◌%◌}
use native.Mathlib.Omega.{arith}
use lib.ListN.{get_or}
use lib.IntN.{ℤ, pos, negsuc, neg_ℤ, sub_ℕ, ◌+ℤ◌, ◌*ℤ◌}
use Rattle.rules.specs.Curve.{sines, lever, lever_z}
use Rattle.rules.proofs.rounding.Signed.{eq!, sub≡, add≡, up_mull, dn_mull}

-- 'g at a station = 100,000 x KN - KG x sine', KN in KG's unit.
abbrev pub g : ℕ → List ℕ → ℕ → ℕ → ℤ
g u kn kg i = sub_ℕ (u * 100_000 * get_or kn i 0) (kg * get_or sines i 0)

pub lever_straight : (u : ℕ) (kn : List ℕ) (kg t : ℕ) → lever u kn kg t ≡ pos (50 - t % 50) *ℤ g u kn kg (t / 50) +ℤ pos (t % 50) *ℤ g u kn kg (t / 50 + 1)
unfolding lever
lever_straight u kn kg t = go (50 - t % 50) (t % 50) (get_or kn (t / 50) 0) (get_or kn (t / 50 + 1) 0) (get_or sines (t / 50) 0) (get_or sines (t / 50 + 1) 0)
  where
    go : (m n v w a b : ℕ) → sub_ℕ (u * 100_000 * (v * m + w * n)) (kg * (a * m + b * n)) ≡ pos m *ℤ sub_ℕ (u * 100_000 * v) (kg * a) +ℤ pos n *ℤ sub_ℕ (u * 100_000 * w) (kg * b)
    go m n v w a b =
        let x = sub_ℕ (u * 100_000 * v) (kg * a) in
        let z = sub_ℕ (u * 100_000 * w) (kg * b) in
        eq! (sub_ℕ (u * 100_000 * (v * m + w * n)) (kg * (a * m + b * n))) (pos m *ℤ x +ℤ pos n *ℤ z)
        (omega (arith, sub≡ (u * 100_000 * (v * m + w * n)) (kg * (a * m + b * n)), ap (λ (k : ℕ). m * k) (sub≡ (u * 100_000 * v) (kg * a)), ap (λ (k : ℕ). n * k) (sub≡ (u * 100_000 * w) (kg * b)), add≡ (pos m *ℤ x) (pos n *ℤ z), up_mull m x, dn_mull m x, up_mull n z, dn_mull n z))

-- 'y(-t) = -y(t)', and 'to windward .. it doesn't' end.
pub windward : (u : ℕ) (kn : List ℕ) (kg t : ℕ) → lever_z u kn kg (negsuc t) ≡ neg_ℤ (lever_z u kn kg (pos (suc t)))
unfolding lever_z
windward u kn kg t = refl
