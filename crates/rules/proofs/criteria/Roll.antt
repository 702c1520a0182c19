-- The period and the roll are searched for up to a bound. Where criterion 8 is judged it is never met: they are the greatest, and the least, of all.
use mathlib.Core.Bool.{Bool}
use Prim.Native.Nat.{ℕ, zero, suc, ◌-◌, ◌*◌, ◌^◌, ◌≤◌, ◌<◌}
use native.Mathlib.Omega.{arith}
use native.Mathlib.Nat.{mul-le-mul, mul-le-mul_left, mul-le-mul_right, le_trans}
use native.Mathlib.Decide.{dec_le}
use lib.Dec.{leb, lit≤}
use lib.IntN.{nat_abs}
use borrow.Author.Tests.{leb-true, leb-false}
use Rattle.rules.specs.Curve.{Loaded}
use Rattle.rules.specs.Roll.{q, period, longest_period, p, r, s, phi1, widest_roll}
use Rattle.rules.proofs.rounding.Searches.{Greatest, greatest_is, First, first_is}

-- ---- 'Period n = greatest with n² GM <= 10 q²', the right side by KG's unit too
abbrev pub Fits : Loaded → ℕ → Type 0
Fits c n = n * n * (c.unit * c.km - c.kg) ≤ c.unit * 10 * q c * q c

pub record Period (c : Loaded) (n : ℕ) : Type 0 where
  pub hit : Fits c n
  pub greatest : (m : ℕ) → Fits c m → m ≤ n

module _ (c : Loaded) where
  -- What is asked of a period falls with it.
  shorter : (m n : ℕ) → m ≤ n → Fits c n → Fits c m
  shorter m n l h = le_trans (mul-le-mul_right (c.unit * c.km - c.kg) (mul-le-mul l l)) h

  abbrev fits : ℕ → Bool
  fits n = leb (n * n * (c.unit * c.km - c.kg)) (c.unit * 10 * q c * q c)

  hit : (n : ℕ) → Greatest fits longest_period n → Fits c n
  hit zero i = omega arith
  hit (suc n) i = leb-true (suc n * suc n * (c.unit * c.km - c.kg)) (c.unit * 10 * q c * q c) (i.hit (omega arith))

  pub period_is : period c < longest_period → Period c (period c)
  unfolding period
  period_is = go (period c) (greatest_is fits longest_period)
    where
      go : (n : ℕ) → Greatest fits longest_period n → n < longest_period → Period c n
      go n i l = record {
        hit = hit n i;
        greatest = λ m h. elim (dec_le m n) [
          | yes k ↦ k
          | no k ↦ absurd (omega (arith, shorter (suc n) m (omega arith) h, leb-false (suc n * suc n * (c.unit * c.km - c.kg)) (c.unit * 10 * q c * q c) (i.after (suc n) (omega arith) l)))
        ];
      }

  -- 'n >= 2000' is found where the period is.
  pub period_long : longest_period ≤ period c → Fits c longest_period
  unfolding period
  period_long h = go (period c) (greatest_is fits longest_period) h
    where
      go : (n : ℕ) → Greatest fits longest_period n → longest_period ≤ n → Fits c longest_period
      go n i l = shorter longest_period n l (hit n i)

-- ---- 'phi1 = least m with 10^13 m² >= 1090² p² r s'
abbrev pub product : Loaded → ℕ
product c = 1090 * 1090 * p c * p c * nat_abs (r c) * s c

pub record Roll (c : Loaded) (m : ℕ) : Type 0 where
  pub hit : product c ≤ 10 ^ 13 * m * m
  pub least : (n : ℕ) → product c ≤ 10 ^ 13 * n * n → m ≤ n

-- No roll that is judged is above 35 degrees.
abbrev pub greatest_roll : ℕ
greatest_roll = 350

module _ (c : Loaded) (small-p : p c ≤ 1000) (small_r : nat_abs (r c) ≤ 1030) (small-s : s c ≤ 1000) where
  small : product c ≤ 10 ^ 13 * greatest_roll * greatest_roll
  small = le_trans (mul-le-mul (mul-le-mul (mul-le-mul (mul-le-mul_left (1090 * 1090) small-p) small-p) small_r) small-s) (lit≤ tt)

  abbrev reaches : ℕ → Bool
  reaches m = leb (product c) (10 ^ 13 * m * m)

  go : (m : ℕ) → First reaches 0 widest_roll m → Roll c m × (m ≤ greatest_roll)
  go m i = (record { hit = leb-true (product c) (10 ^ 13 * m * m) (i.hit (omega (arith, least greatest_roll small))); least = least }, least greatest_roll small)
    where
      least : (n : ℕ) → product c ≤ 10 ^ 13 * n * n → m ≤ n
      least n h = elim (dec_le m n) [ yes k ↦ k | no k ↦ absurd (omega (arith, leb-false (product c) (10 ^ 13 * n * n) (i.before n (omega arith) (omega arith)))) ]

  pub phi1_is : Roll c (phi1 c) × (phi1 c ≤ greatest_roll)
  unfolding phi1
  phi1_is = go (phi1 c) (first_is reaches widest_roll 0)
