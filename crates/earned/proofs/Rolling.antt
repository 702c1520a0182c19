-- From the d, KM and KG used, no rounding on the way to phi1 makes it less: b, C, q, the period, the keel index, the factors, r and the root.
use mathlib.Core.Path.{◌≡◌, refl, ap, subst}
use mathlib.Core.Bool.{Bool, true, false}
use Prim.Native.Nat.{ℕ, ◌+◌, ◌-◌, ◌*◌, ◌^◌, ◌≤◌, ◌<◌}
use native.Mathlib.Omega.{arith}
use native.Mathlib.Nat.{mul-le-mul, mul-le-mul_left, mul-le-mul_right, mul-pos, le_trans, le_refl}
use native.Mathlib.Decide.{dec_le}
use lib.Dec.{eqb}
use lib.IntN.{ℤ, pos, nat_abs, sub_ℕ, ◌+ℤ◌, ◌*ℤ◌}
use Rattle.rules.specs.Rounding.{ceil, ceil_z, up, table}
use Rattle.rules.specs.Blocks.{ship, ok, within}
use Rattle.rules.specs.Curve.{Loaded}
use Rattle.rules.specs.Ranges.{Fair}
use Rattle.rules.specs.Roll.{b, C, q, period, X1, X2, K, S, keel_index, k, x1, x2, s, p, r, r_of, phi1}
use Rattle.rules.proofs.rounding.Signed as signed
use Rattle.rules.proofs.rounding.Signed.{dn, Le, add≡, sub≡, up_mull, dn_mull, up_mulr, dn_mulr}
use Rattle.rules.proofs.rounding.Rounding.{ceil_is, ceil_z_is}
use Rattle.rules.proofs.layout.Fields.{both_true, Limited, limited}
use Rattle.rules.proofs.rounding.Divisions.{b_down, q_down, keel_index_down}
use Rattle.rules.proofs.criteria.Ranges.{Judged, deep, deep_pos, r_range, period_judged, phi1_judged, C-whole}
use Rattle.earned.specs.Rolling.{finer_table, exact_x1, exact_x2, exact_k, exact_s, exact_r, exact_c, NoShorter, exact_p, over, WithinRoll}
use Rattle.earned.proofs.Falling.{table_finer, table_beyond}

module _ (c : Loaded) (f : Fair c) where
  dimensions : (24_000 ≤ c.ship.hull_length) × (c.ship.hull_length ≤ 400_000) × (3_000 ≤ c.ship.breadth)
  unfolding ok Limited
  dimensions = let l = limited ship.fields (ship.listed c.ship) (both_true (within ship.fields (ship.listed c.ship)) (ship.further c.ship) f.hull).0 in (l.0, l.1, l.2.0)

module _ (c : Loaded) (f : Fair c) (j : Judged c) (M : ℕ) where
  draught : 0 < c.draught
  draught = omega arith

  hull : 0 < c.ship.hull_length
  hull = omega (arith, dimensions c f)

  beam : 0 < c.ship.breadth
  beam = omega (arith, dimensions c f)

  -- ---- the factors
  x1_least : exact_x1 M c ≤ M * x1 c
  unfolding exact_x1 x1
  x1_least = table_beyond c.draught M draught X1 refl refl (b c) (1000 * c.ship.breadth) (omega (arith, (b_down c draught).under))

  x2_least : exact_x2 M c ≤ M * x2 c
  unfolding exact_x2 x2
  x2_least = let e : 1 * c.weather.sky.cb ≡ c.weather.sky.cb = omega arith in subst (λ (x : ℕ). table up (finer_table 1 M X2) x ≤ M * table up X2 c.weather.sky.cb) e (table_finer 1 M (omega arith) X2 refl c.weather.sky.cb)

  k_least : exact_k M c ≤ M * k c
  unfolding exact_k k
  k_least = go (eqb c.ship.bilge 1)
    where
      go : (sharp : Bool) → elim sharp [ true ↦ M * 700 | false ↦ table up (finer_table (c.ship.hull_length * c.ship.breadth) M K) (10 ^ 9 * c.ship.keel_area) ] ≤ M * elim sharp [ true ↦ 700 | false ↦ table up K (keel_index c.ship) ]
      go true = le_refl (M * 700)
      go false = table_beyond (c.ship.hull_length * c.ship.breadth) M (mul-pos hull beam) K refl refl (keel_index c.ship) (10 ^ 9 * c.ship.keel_area) (omega (arith, (keel_index_down c.ship hull beam).under))

  s_least : (D x : ℕ) → 0 < D → D * period c ≤ x → exact_s M D x ≤ M * s c
  unfolding exact_s s
  s_least D x some l = table_beyond D M some S refl refl (period c) x l

  -- r d ≥ 130 d + 600 KG, with d in KG's unit.
  r_least : exact_r c ≤ nat_abs (r c) * deep c j
  unfolding exact_r r_of
  r_least = go (deep c j) (ceil_z n (deep c j)) (nat_abs (r c)) (r_range c j).0 (ceil_z_is n (deep c j) (deep_pos c j)).over
    where
      n : ℤ
      n = pos 600 *ℤ sub_ℕ c.kg (deep c j)

      go : (d : ℕ) (z : ℤ) (m : ℕ) → pos 730 +ℤ z ≡ pos m → Le (pos 600 *ℤ sub_ℕ c.kg d) (z *ℤ pos d) → 130 * d + 600 * c.kg ≤ m * d
      go d z m e l = omega (arith, ap (λ (k : ℕ). k * d) (let h : 730 + signed.up z ≡ m + dn z = omega (arith, add≡ (pos 730) z, ap signed.up e, ap dn e) in h), up_mulr z d, dn_mulr z d, up_mull 600 (sub_ℕ c.kg d), dn_mull 600 (sub_ℕ c.kg d), sub≡ c.kg d)

  p_least : k c * x1 c * x2 c ≤ 1_000_000 * p c
  unfolding p
  p_least = go (k c * x1 c) (x2 c)
    where
      go : (m n : ℕ) → m * n ≤ 1_000_000 * ceil (ceil m 1000 * n) 1000
      go m n = omega (arith, mul-le-mul_right n (ceil_is m 1000 (omega arith)).over, (ceil_is (ceil m 1000 * n) 1000 (omega arith)).over)

  factors_least : exact_p M c ≤ over M * p c
  unfolding exact_p
  factors_least = omega (arith, mul-le-mul (mul-le-mul k_least x1_least) x2_least, mul-le-mul_left (M * M * M) p_least)

  -- ---- the root
  -- `roll` q-ths of a tenth, with the exact factors at a period no shorter than the one used.
  pub roll_least : (D x : ℕ) → 0 < D → D * period c ≤ x → (parts roll : ℕ) → WithinRoll M D x c parts roll → roll ≤ parts * phi1 c
  roll_least D x some l parts roll h = elim (dec_le roll (parts * phi1 c)) [ yes m ↦ m | no m ↦ absurd (omega (arith, below, above (roll - 1) (omega arith))) ]
    where
      wide : ℕ
      wide = over M * over M * deep c j * M

      -- (g y) (r d) (m s) is (g d m) (y r s).
      group : (g d m y r s : ℕ) → g * y * (r * d) * (m * s) ≡ g * d * m * (y * r * s)
      group g d m y r s = omega arith

      squares : (g z : ℕ) → g * z * (g * z) ≡ g * g * (z * z)
      squares g z = omega arith

      turn : (W t n : ℕ) → parts * parts * (W * (t * n * n)) ≡ W * (t * (parts * n * (parts * n)))
      turn W t n = omega arith

      go : (g d m a r s z r' s' t n : ℕ) → a ≤ g * z → r ≤ r' * d → s ≤ m * s' → z * z * r' * s' ≤ t * n * n → parts * parts * (a * a * r * s) ≤ g * g * d * m * (t * (parts * n * (parts * n)))
      go g d m a r s z r' s' t n ha hr hs h =
          let one : a * a * r * s ≤ g * g * (z * z) * (r' * d) * (m * s') = subst (λ (y : ℕ). a * a * r * s ≤ y * (r' * d) * (m * s')) (squares g z) (mul-le-mul (mul-le-mul (mul-le-mul ha ha) hr) hs) in
          let two : a * a * r * s ≤ g * g * d * m * (z * z * r' * s') = subst (λ (y : ℕ). a * a * r * s ≤ y) (group (g * g) d m (z * z) r' s') one in
          subst (λ (y : ℕ). parts * parts * (a * a * r * s) ≤ y) (turn (g * g * d * m) t n) (mul-le-mul_left (parts * parts) (le_trans two (mul-le-mul_left (g * g * d * m) h)))

      below : parts * parts * (1090 * exact_p M c * (1090 * exact_p M c) * exact_r c * exact_s M D x) ≤ wide * (10 ^ 13 * (parts * phi1 c * (parts * phi1 c)))
      below = go (over M) (deep c j) M (1090 * exact_p M c) (exact_r c) (exact_s M D x) (1090 * p c) (nat_abs (r c)) (s c) (10 ^ 13) (phi1 c) (omega (arith, factors_least)) r_least (s_least D x some l) (omega (arith, (phi1_judged c j).0.hit))

      above : (n : ℕ) → parts * phi1 c ≤ n → wide * (10 ^ 13 * (parts * phi1 c * (parts * phi1 c))) ≤ wide * (10 ^ 13 * (n * n))
      above n l = mul-le-mul_left wide (mul-le-mul_left (10 ^ 13) (mul-le-mul l l))

-- ---- the period
module _ (c : Loaded) (f : Fair c) (j : Judged c) where
  -- 100 d C ≤ 100 d (373,000 + 23 x 1000 B/d - 43 L/100).
  C-least : 100 * c.draught * C c ≤ exact_c c
  unfolding exact_c
  C-least =
      let d : 0 < c.draught = omega arith in
      omega (arith, ap (λ (n : ℕ). 100 * c.draught * n) (C-whole c (dimensions c f).1), (b_down c d).under, mul-le-mul_left c.draught (ceil_is (43 * c.ship.hull_length) 100 (omega arith)).over)

  q_least : 10 ^ 8 * c.draught * q c ≤ 2 * exact_c c * c.ship.breadth
  q_least = omega (arith, mul-le-mul_left (100 * c.draught) (q_down c).under, mul-le-mul_left (2 * c.ship.breadth) C-least)

  pub period_least : (D x : ℕ) → NoShorter D x c → D * period c ≤ x
  period_least D x h = elim (dec_le (D * period c) x) [ yes m ↦ m | no m ↦ absurd (go (c.unit * 10) (10 ^ 8 * c.draught) (2 * exact_c c * c.ship.breadth) (period c) (c.unit * c.km - c.kg) (q c) (omega arith) (omega arith) q_least (period_judged c j).hit h (omega arith)) ]
    where
      go : (k w E n G q : ℕ) → 0 < w → 0 < G → w * q ≤ E → n * n * G ≤ k * q * q → k * (E * D) * (E * D) ≤ w * x * (w * x) * G → x < D * n → ⊥
      go k w E n G q some-w some-G hq hn hx l =
          let exact : k * (w * D * q) * (w * D * q) ≤ w * x * (w * x) * G = le_trans (ten (w * D * q) (E * D) (mul-le-mul wide wide)) hx in
          apart (w * x) (w * D) (omega (arith, mul-le-mul_left w l)) exact
        where
          wide : w * D * q ≤ E * D
          wide = omega (arith, mul-le-mul_right D hq)

          ten : (a b : ℕ) → a * a ≤ b * b → k * a * a ≤ k * b * b
          ten a b h = omega (arith, mul-le-mul_left k h)

          apart : (a v : ℕ) → a + 1 ≤ v * n → k * (v * q) * (v * q) ≤ a * a * G → ⊥
          apart a v h z = omega (arith, mul-le-mul_right G (mul-le-mul h h), mul-le-mul_left (v * v) hn)
