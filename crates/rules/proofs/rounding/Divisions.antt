-- Every division of 01 and the way it is rounded, each by the law of its rounding.
use mathlib.Core.Path.{◌≡◌, refl, ap, ◌∙◌, subst}
use mathlib.Core.Bool.{true, false}
use mathlib.Core.List.{List}
use Prim.Native.Nat.{ℕ, ◌+◌, ◌*◌, ◌^◌, ◌<◌}
use native.Mathlib.Omega.{arith}
use native.Mathlib.Nat.{mul-pos}
use lib.Dec.{eqb}
use lib.IntN.{ℤ, pos, sub_ℕ, ◌+ℤ◌, ◌*ℤ◌}
use Rattle.rules.specs.Rounding.{ceil, up, table}
use Rattle.rules.specs.Blocks.{Ship}
use Rattle.rules.specs.Loading.{Entry, total, moment, free_surface, displacement, corrected_kg_in}
use Rattle.rules.specs.Curve.{Loaded}
use Rattle.rules.specs.Criteria.{lw1, lw2}
use Rattle.rules.specs.Roll.{b, C, q, period, X1, X2, K, S, keel_index, k, x1, x2, s, p, r_of}
use Rattle.rules.proofs.rounding.Rounding.{Floor, Ceiling, CeilingZ, floor_is, ceil_is, ceil_z_is, ceiling_unique, ceiling_z_unique}
use Rattle.rules.proofs.rounding.Tables.{Linear, linear_unique, X1-is, X2-is, K-is, S-is}

-- 'KG = (sum of mass x centre + free surface moments) / W, rounded up', in a unit.
pub kg_up : (m : ℕ) (es : List Entry) → 0 < displacement es → Ceiling (m * (total moment es + total free_surface es)) (displacement es) (corrected_kg_in m es)
unfolding corrected_kg_in
kg_up m es h = ceil_is (m * (total moment es + total free_surface es)) (displacement es) h

-- 'lw1 = 5040 x wind area x Z / (981 x W), rounded up.'
pub lw1_up : (c : Loaded) → 0 < c.w → Ceiling (5040 * c.weather.sky.wind_area * c.weather.sky.z) (981 * c.w) (lw1 c)
unfolding lw1
lw1_up c h = ceil_is (5040 * c.weather.sky.wind_area * c.weather.sky.z) (981 * c.w) (omega arith)

-- 'lw2 = 3 lw1 / 2, rounded up': of the rounded lw1.
pub lw2_up : (c : Loaded) → Ceiling (3 * lw1 c) 2 (lw2 c)
unfolding lw2 lw1
lw2_up c = ceil_is (3 * lw1 c) 2 (omega arith)

-- 'b = 1000 B/d, down.'
pub b_down : (c : Loaded) → 0 < c.draught → Floor (1000 * c.ship.breadth) c.draught (b c)
unfolding b
b_down c h = floor_is (1000 * c.ship.breadth) c.draught h

-- 'q = 2 C B / 10^6, down.'
pub q_down : (c : Loaded) → Floor (2 * C c * c.ship.breadth) (10 ^ 6) (q c)
unfolding q
q_down c = floor_is (2 * C c * c.ship.breadth) (10 ^ 6) (omega arith)

-- 'The keel index .. 10^9 x area / (L B) in A1's units, down.'
pub keel_index_down : (h : Ship) → 0 < h.hull_length → 0 < h.breadth → Floor (10 ^ 9 * h.keel_area) (h.hull_length * h.breadth) (keel_index h)
unfolding keel_index
keel_index_down h l m = floor_is (10 ^ 9 * h.keel_area) (h.hull_length * h.breadth) (mul-pos l m)

-- 'p = k X1 / 1000, up; then times X2 / 1000, up.'
pub p_up : (c : Loaded) (m : ℕ) → Ceiling (k c * x1 c) 1000 m → Ceiling (m * x2 c) 1000 (p c)
unfolding p
p_up c m h = subst (λ (n : ℕ). Ceiling (n * x2 c) 1000 (p c)) (ceiling_unique (ceil_is (k c * x1 c) 1000 (omega arith)) h) (ceil_is (ceil (k c * x1 c) 1000 * x2 c) 1000 (omega arith))

-- 'r = 730 + 600 (KG - d)/d, the quotient rounded up, also below zero', d in KG's unit.
pub r_up : (m kg d : ℕ) → 0 < m * d → (z : ℤ) → CeilingZ (pos 600 *ℤ sub_ℕ kg (m * d)) (m * d) z → r_of m kg d ≡ pos 730 +ℤ z
unfolding r_of
r_up m kg d h z i = ap (λ (n : ℤ). pos 730 +ℤ n) (ceiling_z_unique (ceil_z_is (pos 600 *ℤ sub_ℕ kg (m * d)) (m * d) h) i)

-- 'X1 from b, X2 from CB, k from the keel index', 's from n': what is linear through the table's points, rounded up, and nothing else.
pub x1_up : (c : Loaded) (f : ℕ → ℕ) → Linear up X1 f → x1 c ≡ f (b c)
unfolding x1
x1_up c f l = linear_unique up X1 refl (table up X1) f X1-is l (b c)

pub x2_up : (c : Loaded) (f : ℕ → ℕ) → Linear up X2 f → x2 c ≡ f c.weather.sky.cb
unfolding x2
x2_up c f l = linear_unique up X2 refl (table up X2) f X2-is l c.weather.sky.cb

pub s_up : (c : Loaded) (f : ℕ → ℕ) → Linear up S f → s c ≡ f (period c)
unfolding s
s_up c f l = linear_unique up S refl (table up S) f S-is l (period c)

pub k_up : (c : Loaded) → c.ship.bilge ≡ 0 → (f : ℕ → ℕ) → Linear up K f → k c ≡ f (keel_index c.ship)
unfolding k
k_up c h f l = ap (λ (bilge : ℕ). elim (eqb bilge 1) [ true ↦ 700 | false ↦ table up K (keel_index c.ship) ]) h ∙ linear_unique up K refl (table up K) f K-is l (keel_index c.ship)

-- 'A sharp bilge has k 700 at once.'
pub k_sharp : (c : Loaded) → c.ship.bilge ≡ 1 → k c ≡ 700
unfolding k
k_sharp c h = ap (λ (bilge : ℕ). elim (eqb bilge 1) [ true ↦ 700 | false ↦ table up K (keel_index c.ship) ]) h
