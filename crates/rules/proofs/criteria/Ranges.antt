-- How far the numbers of criterion 8 reach where it is judged.
use mathlib.Core.Path.{◌≡◌, refl}
use mathlib.Core.Bool.{Bool, true, false, ◌||◌}
use Prim.Native.Nat.{ℕ, zero, suc, ◌+◌, ◌*◌, ◌^◌, ◌≤◌, ◌<◌}
use native.Mathlib.Omega.{arith}
use native.Mathlib.Nat.{mul-pos, mul-le-mul, mul-le-mul_left, div-lt_iff_lt-mul}
use native.Mathlib.Decide.{dec_le}
use lib.Dec.{leb, ltb, eqb}
use lib.IntN.{ℤ, pos, neg_ℤ, negsuc, sub_ℕ, nat_abs, ◌+ℤ◌, ◌*ℤ◌}
use borrow.Author.Tests.{leb-false, ltb-false}
use Rattle.rules.specs.Rounding.{ceil, ceil_z, Direction, table}
use Rattle.rules.specs.Curve.{Loaded}
use Rattle.rules.specs.Roll.{outside_range, b, C, period, longest_period, X1, X2, K, S, keel_index, k, x1, x2, s, p, r, r_of, phi1, not_judged}
use Rattle.rules.proofs.rounding.Signed.{Le, add≡, sub≡, up_neg, dn_neg, up_mull, dn_mull}
use Rattle.rules.proofs.rounding.Rounding.{CeilingZ, ceil_is, ceiling_least, ceil_z_is, ceiling_z_least, ceiling_z_from}
use Rattle.rules.proofs.rounding.Tables.{table_within, X1-is, X2-is, S-is}
use Rattle.rules.proofs.rounding.Divisions.{x1_up, x2_up, s_up}
use Rattle.rules.proofs.criteria.Roll.{Period, period_is, Roll, product, greatest_roll, phi1_is}

-- ---- the factors, of any loading
pub x1_range : (c : Loaded) → (800 ≤ x1 c) × (x1 c ≤ 1000)
x1_range c = rw (x1_up c (table Direction.up X1) X1-is) (table_within Direction.up 800 1000 X1 refl refl refl (b c))

pub x2_range : (c : Loaded) → (750 ≤ x2 c) × (x2 c ≤ 1000)
x2_range c = rw (x2_up c (table Direction.up X2) X2-is) (table_within Direction.up 750 1000 X2 refl refl refl c.weather.sky.cb)

pub s_range : (c : Loaded) → (350 ≤ s c) × (s c ≤ 1000)
s_range c = rw (s_up c (table Direction.up S) S-is) (table_within Direction.up 350 1000 S refl refl refl (period c))

pub k_range : (c : Loaded) → (700 ≤ k c) × (k c ≤ 1000)
unfolding k
k_range c = go (eqb c.ship.bilge 1)
  where
    go : (sharp : Bool) → (700 ≤ elim sharp [ true ↦ 700 | false ↦ table Direction.up K (keel_index c.ship) ]) × (elim sharp [ true ↦ 700 | false ↦ table Direction.up K (keel_index c.ship) ] ≤ 1000)
    go true = (omega arith, omega arith)
    go false = table_within Direction.up 700 1000 K refl refl refl (keel_index c.ship)

pub p_range : (c : Loaded) → p c ≤ 1000
unfolding p
p_range c = thousandth (ceil (k c * x1 c) 1000) (x2 c) (thousandth (k c) (x1 c) (k_range c).1 (x1_range c).1) (x2_range c).1
  where
    thousandth : (a b : ℕ) → a ≤ 1000 → b ≤ 1000 → ceil (a * b) 1000 ≤ 1000
    thousandth a b h l = ceiling_least (ceil_is (a * b) 1000 (omega arith)) 1000 (mul-le-mul h l)

pub p_from : (c : Loaded) → 420 ≤ p c
unfolding p
p_from c =
    let kx : 560 ≤ ceil (k c * x1 c) 1000 = omega (arith, ceil_is (k c * x1 c) 1000 (omega arith), mul-le-mul (k_range c).0 (x1_range c).0) in
    omega (arith, ceil_is (ceil (k c * x1 c) 1000 * x2 c) 1000 (omega arith), mul-le-mul kx (x2_range c).0)

-- ---- where it is judged
pub record Judged (c : Loaded) : Type 0 where
  pub gm : c.kg < c.unit * c.km
  pub beam : 10 * c.ship.breadth < 35 * c.draught
  pub kg_from : c.unit * 7 * c.draught ≤ 10 * c.kg
  pub kg_to : 10 * c.kg ≤ c.unit * 15 * c.draught
  pub swift : period c < 2_000

pub neither : (a b : Bool) → a || b ≡ false → (a ≡ false) × (b ≡ false)
neither true b e = let z : ◌≡◌ {A = ℕ} 0 1 = cc in absurd (omega arith)
neither false b e = (refl, e)

pub judged : (c : Loaded) → not_judged c ≡ false → Judged c
unfolding not_judged outside_range
judged c h =
    let n = none (leb (c.unit * c.km) c.kg) (leb (35 * c.draught) (10 * c.ship.breadth)) (ltb (10 * c.kg) (c.unit * 7 * c.draught)) (ltb (c.unit * 15 * c.draught) (10 * c.kg)) (leb longest_period (period c)) h in
    record {
      gm = leb-false (c.unit * c.km) c.kg n.0;
      beam = leb-false (35 * c.draught) (10 * c.ship.breadth) n.1;
      kg_from = ltb-false (10 * c.kg) (c.unit * 7 * c.draught) n.2;
      kg_to = ltb-false (c.unit * 15 * c.draught) (10 * c.kg) n.3;
      swift = leb-false longest_period (period c) n.4;
    }
  where
    none : (v w x y z : Bool) → v || w || x || y || z ≡ false → (v ≡ false) × (w ≡ false) × (x ≡ false) × (y ≡ false) × (z ≡ false)
    none v w x y z h =
        let k = neither (v || w || x || y) z h in
        let l = neither (v || w || x) y k.0 in
        let m = neither (v || w) x l.0 in
        let n = neither v w m.0 in
        (n.0, n.1, m.1, l.1, k.1)

module _ (c : Loaded) (j : Judged c) where
  draught_pos : 0 < c.draught
  draught_pos = omega arith

  -- The draught, in KG's unit; a KG below KM has one.
  abbrev pub deep : ℕ
  deep = c.unit * c.draught

  pub deep_pos : 0 < deep
  deep_pos = go c.unit j.gm
    where
      go : (m : ℕ) → c.kg < m * c.km → 0 < m * c.draught
      go zero h = absurd (omega arith)
      go (suc m) h = mul-pos (omega arith) draught_pos

  -- 'The quotient rounded up, also below zero' is from -180 to 300.
  abbrev quotient : ℤ
  quotient = ceil_z (pos 600 *ℤ sub_ℕ c.kg deep) deep

  quotient_is : CeilingZ (pos 600 *ℤ sub_ℕ c.kg deep) deep quotient
  quotient_is = ceil_z_is (pos 600 *ℤ sub_ℕ c.kg deep) deep deep_pos

  quotient_from : Le (neg_ℤ (pos 180)) quotient
  quotient_from = ceiling_z_from quotient_is deep_pos (neg_ℤ (pos 180)) (omega (arith, up_neg (pos (180 * deep)), dn_neg (pos (180 * deep)), up_mull 600 (sub_ℕ c.kg deep), dn_mull 600 (sub_ℕ c.kg deep), sub≡ c.kg deep))

  quotient_to : Le quotient (pos 300)
  quotient_to = ceiling_z_least quotient_is (pos 300) (omega (arith, up_mull 600 (sub_ℕ c.kg deep), dn_mull 600 (sub_ℕ c.kg deep), sub≡ c.kg deep))

  -- So r is above zero.
  pub r_range : (r c ≡ pos (nat_abs (r c))) × (550 ≤ nat_abs (r c)) × (nat_abs (r c) ≤ 1030)
  unfolding r_of
  r_range = go (pos 730 +ℤ quotient) (omega (arith, add≡ (pos 730) quotient, quotient_from)) (omega (arith, add≡ (pos 730) quotient, quotient_to))
    where
      go : (z : ℤ) → Le (pos 550) z → Le z (pos 1030) → (z ≡ pos (nat_abs z)) × (550 ≤ nat_abs z) × (nat_abs z ≤ 1030)
      go (pos n) h l = (refl, omega arith, omega arith)
      go (negsuc n) h l = absurd (omega arith)

  -- Neither search meets its bound.
  pub period_judged : Period c (period c)
  period_judged = period_is c j.swift

  pub phi1_judged : Roll c (phi1 c) × (phi1 c ≤ greatest_roll)
  phi1_judged = phi1_is c (p_range c) r_range.2 (s_range c).1

  -- The roll is at least 6.4 degrees.
  pub product_from : 1090 * 1090 * 420 * 420 * 550 * 350 ≤ product c
  product_from = mul-le-mul (mul-le-mul (mul-le-mul (mul-le-mul_left (1090 * 1090) (p_from c)) (p_from c)) r_range.1) (s_range c).0

  pub phi1_from : 64 ≤ phi1 c
  phi1_from = elim (dec_le 64 (phi1 c)) [
    | yes h ↦ h
    | no h ↦ let m : phi1 c ≤ 63 = omega arith in
        absurd (omega (arith, phi1_judged.0.hit, mul-le-mul (mul-le-mul_left (10 ^ 13) m) m, product_from))
  ]

  -- ---- the way to the period, for a ship within its limits
  pub b_range : b c < 3500
  unfolding b
  b_range = (div-lt_iff_lt-mul draught_pos).1 (omega arith)

-- The difference in C is of naturals and loses nothing.
pub C-whole : (c : Loaded) → c.ship.hull_length ≤ 400_000 → C c + ceil (43 * c.ship.hull_length) 100 ≡ 373_000 + 23 * b c
unfolding C
C-whole c l = omega (arith, ceiling_least (ceil_is (43 * c.ship.hull_length) 100 (omega arith)) 172_000 (omega arith))
