-- The straight line between two points, once for all tables: rounded its way by less than one, at a point that point's value, never beyond the two values.
use mathlib.Core.Path.{◌≡◌, sym, subst}
use Prim.Native.Nat.{ℕ, ◌+◌, ◌-◌, ◌*◌, ◌≤◌, ◌<◌}
use native.Mathlib.Omega.{arith}
use native.Mathlib.Nat.{mul-le-mul_right, mul-zero, sub_self}
use Rattle.rules.specs.Rounding.{Direction, down, up, Point, gap, span, line}
use Rattle.rules.proofs.rounding.Rounding.{Rounded, floor_is, ceil_is, rounded_unique, rounded_whole, rounded_from, rounded_to}

-- ---- `span` is that line, times the distance
module _ (p q : Point) (x : ℕ) (from : p.place ≤ x) (to : x ≤ q.place) where
  -- For rising values: from p's value up, in proportion.
  pub span_rising : p.value ≤ q.value → span p q x ≡ p.value * gap p q + (q.value - p.value) * (x - p.place)
  span_rising h = go p.value (q.value - p.value) q.value (x - p.place) (q.place - x) (gap p q) (omega arith) (omega arith)
    where
      go : (v r w a b d : ℕ) → w ≡ v + r → d ≡ a + b → v * b + w * a ≡ v * d + r * a
      go v r w a b d e f = rw (e, f) (omega arith)

  -- For falling values: from p's value down, in proportion.
  pub span_falling : q.value ≤ p.value → span p q x + (p.value - q.value) * (x - p.place) ≡ p.value * gap p q
  span_falling h = go p.value (p.value - q.value) q.value (x - p.place) (q.place - x) (gap p q) (omega arith) (omega arith)
    where
      go : (v r w a b d : ℕ) → v ≡ w + r → d ≡ a + b → v * b + w * a + r * a ≡ v * d
      go v r w a b d e f = rw (e, f) (omega arith)

-- ---- 'rounded up', 'rounded down'
pub line_rounded : (way : Direction) (p q : Point) (x : ℕ) → p.place < q.place → Rounded way (span p q x) (gap p q) (line way p q x)
line_rounded down p q x rise = let f = floor_is (span p q x + 0) (gap p q) (omega arith) in record { under = omega arith; near = omega arith }
line_rounded up p q x rise = ceil_is (span p q x) (gap p q) (omega arith)

module _ (way : Direction) (p q : Point) (rise : p.place < q.place) where
  -- ---- at a point
  whole : (x v : ℕ) → span p q x ≡ v * gap p q → line way p q x ≡ v
  whole x v e = rounded_unique way (span p q x) (gap p q) (line way p q x) v (line_rounded way p q x rise) (subst (λ (n : ℕ). Rounded way n (gap p q) v) (sym e) (rounded_whole way v (gap p q) (omega arith)))

  pub line_at_first : line way p q p.place ≡ p.value
  line_at_first = whole p.place p.value (rw (sub_self, mul-zero) (omega arith))

  pub line_at_second : line way p q q.place ≡ q.value
  line_at_second = whole q.place q.value (rw (sub_self, mul-zero) (omega arith))

  -- ---- never beyond the two values
  module _ (x : ℕ) (from : p.place ≤ x) (to : x ≤ q.place) where
    pub line_from : (low : ℕ) → low ≤ p.value → low ≤ q.value → low ≤ line way p q x
    line_from low h k = rounded_from way (span p q x) (gap p q) (line way p q x) (line_rounded way p q x rise) low (go p.value q.value (q.place - x) (x - p.place) (gap p q) (omega arith) h k)
      where
        go : (v w a b d : ℕ) → d ≡ a + b → low ≤ v → low ≤ w → low * d ≤ v * a + w * b
        go v w a b d e h k = rw e (omega (arith, mul-le-mul_right a h, mul-le-mul_right b k))

    pub line_to : (high : ℕ) → p.value ≤ high → q.value ≤ high → line way p q x ≤ high
    line_to high h k = rounded_to way (span p q x) (gap p q) (line way p q x) (line_rounded way p q x rise) high (go p.value q.value (q.place - x) (x - p.place) (gap p q) (omega arith) h k)
      where
        go : (v w a b d : ℕ) → d ≡ a + b → v ≤ high → w ≤ high → v * a + w * b ≤ high * d
        go v w a b d e h k = rw e (omega (arith, mul-le-mul_right a h, mul-le-mul_right b k))
