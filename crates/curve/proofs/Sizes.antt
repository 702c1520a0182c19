-- How far from zero the levers, y and the areas can be, so that the machine's signed numbers hold them.
use mathlib.Core.Path.{◌≡◌}
use mathlib.Core.Bool.{Bool, true, ◌&&◌}
use mathlib.Core.List.{List, [], ◌∷◌}
use Prim.Native.Nat.{ℕ, zero, suc, ◌+◌, ◌-◌, ◌*◌, ◌/◌, ◌%◌, ◌^◌, ◌≤◌, ◌<◌}
use native.Mathlib.Omega.{arith}
use native.Mathlib.Nat.{mul-le-mul, mul-le-mul_left}
use lib.Dec.{T, ltb, ltb→lt}
use lib.ListN.{length, get_or}
use lib.IntN.{ℤ, pos, negsuc, sub_ℕ, nat_abs, ◌+ℤ◌, ◌*ℤ◌}
use lib.Signed.{mag}
use mir.Facts.{and_yes}
use Rattle.rules.specs.Loading.{tenths}
use Rattle.rules.specs.Curve.{sines, lever}
use Rattle.rules.proofs.rounding.Signed.{up, dn, up_add, dn_add, up_mull, dn_mull, up_sub, dn_sub, mag_le}
use Rattle.curve.specs.Levers.{Sized, Within, most_g, most_y, g, levers_of, straight, Holds, up_to}
use Rattle.curve.proofs.Areas.{up_to_none, up_to_more}
use Rattle.curve.proofs.Filling.{at_station}
use Rattle.curve.proofs.Straight.{straight_lever}

-- ---- sums, products and differences
parts : (a : ℤ) → nat_abs a ≡ up a + dn a
parts (pos n) = omega arith
parts (negsuc n) = omega arith

pub abs_add : (a b : ℤ) → nat_abs (a +ℤ b) ≤ nat_abs a + nat_abs b
abs_add a b = omega (arith, parts a, parts b, parts (a +ℤ b), up_add a b, dn_add a b)

abs_times : (q : ℕ) (a : ℤ) → nat_abs (pos q *ℤ a) ≡ q * nat_abs a
abs_times q a = rw (parts (pos q *ℤ a), parts a, up_mull, dn_mull) (omega arith)

pub abs_difference : (a b : ℕ) → nat_abs (sub_ℕ a b) ≤ a + b
abs_difference a b = omega (arith, parts (sub_ℕ a b), up_sub a b, dn_sub a b)

pub mag_abs : (z : ℤ) → mag z ≤ nat_abs z
mag_abs z = omega (arith, mag_le z, parts z)

-- ---- the straight line between two levers
module _ (a b : ℤ) (m n : ℕ) (past : m ≤ 50) (first : nat_abs a ≤ n) (second : nat_abs b ≤ n) where
  pub part_left : nat_abs (pos (50 - m) *ℤ a) ≤ (50 - m) * n
  part_left = rw (abs_times (50 - m) a) (mul-le-mul_left (50 - m) first)

  pub part_past : nat_abs (pos m *ℤ b) ≤ m * n
  part_past = rw (abs_times m b) (mul-le-mul_left m second)

  pub straight_within : nat_abs (pos (50 - m) *ℤ a +ℤ pos m *ℤ b) ≤ 50 * n
  straight_within = omega (arith, abs_add (pos (50 - m) *ℤ a) (pos m *ℤ b), part_left, part_past, whole (50 - m) (omega arith))
    where
      whole : (l : ℕ) → 50 ≡ l + m → l * n + m * n ≡ 50 * n
      whole l e = rw e (omega arith)

-- ---- a lever at a station
abbrev below : ℕ → List ℕ → Bool
below n [] = true
below n (x ∷ xs) = ltb x n && below n xs

pub entry_below : (n : ℕ) (xs : List ℕ) → 0 < n → T (below n xs) → (i : ℕ) → get_or xs i 0 < n
entry_below n [] h t i = h
entry_below n (x ∷ xs) h t zero = ltb→lt x n (and_yes (ltb x n) (below n xs) t).0
entry_below n (x ∷ xs) h t (suc i) = entry_below n xs h (and_yes (ltb x n) (below n xs) t).1 i

sine_small : (i : ℕ) → get_or sines i 0 < 100000
sine_small = entry_below 100000 sines (omega arith) tt

-- The two products of a lever at a station.
pub over_small : {kn : ℕ} → kn < 2 ^ 16 → 1_000_000 * kn ≤ 10 ^ 11
over_small h = omega arith

pub under_small : {kg : ℕ} (i : ℕ) → kg ≤ 600_000 → kg * get_or sines i 0 ≤ 10 ^ 11
under_small {kg} i h = let s : get_or sines i 0 ≤ 100000 = omega (arith, sine_small i) in omega (arith, mul-le-mul h s)

-- ---- what the arrays hold
within_by : (n : ℕ) (zs : List ℤ) → ((i : ℕ) → i < length zs → nat_abs (get_or zs i (pos 0)) ≤ n) → Within n zs
within_by n [] all i = omega arith
within_by n (z ∷ zs) all zero = all 0 (omega arith)
within_by n (z ∷ zs) all (suc i) = within_by n zs (λ k l. all (suc k) (omega arith)) i

module _ (kn : List ℕ) (kg : ℕ) (sizes : Sized kn kg) where
  g_within : (i : ℕ) → nat_abs (g kn kg i) ≤ most_g
  unfolding g
  g_within i =
      omega (arith, abs_difference (1_000_000 * get_or kn i 0) (kg * get_or sines i 0), over_small (sizes.forms i), under_small i sizes.centre)

  pub levers_within : Within most_g (levers_of kn kg)
  levers_within = within_by most_g (levers_of kn kg) (λ i l. rw (at_station (pos 0) (g kn kg) i l) (g_within i))

  -- y is the straight line between two of them.
  pub y_within : (t : ℕ) → t ≤ 600 → nat_abs (lever tenths kn kg t) ≤ most_y
  unfolding straight
  y_within t h =
      rw (← straight_lever kn kg t h)
      (straight_within (get_or (levers_of kn kg) (t / 50) (pos 0)) (get_or (levers_of kn kg) (t / 50 + 1) (pos 0)) (t % 50) most_g (omega arith) (levers_within (t / 50)) (levers_within (t / 50 + 1)))

  pub curve_within : (ys : List ℤ) → Holds (lever tenths kn kg) ys → Within most_y ys
  curve_within ys is = within_by most_y ys (λ i l. let h : i ≤ 600 = omega (arith, is.long) in rw (is.at i h) (y_within i h))

-- An area is that of n strips.
module _ (f : ℤ → ℤ) where
  pub areas_within : (n : ℕ) → ((t : ℕ) → t ≤ n → nat_abs (f (pos t)) ≤ most_y) → nat_abs (up_to f n) ≤ n * (2 * most_y)
  areas_within zero small = rw (up_to_none f) (omega arith)
  areas_within (suc n) small =
      let e : suc n ≡ n + 1 = omega arith in
      let a = f (pos n) in
      let b = f (pos (n + 1)) in
      rw e (rw (up_to_more f n) (omega (arith, abs_add (up_to f n) (a +ℤ b), abs_add a b, small n (omega arith), small (n + 1) (omega arith), areas_within n (λ t l. small t (omega arith)))))
