-- Rounding, the straight line and the searches: how document 01 turns fractions and 'the first t with' into whole numbers.
use Rattle.std.specs.Prelude.{Bool, true, false, List, [], ◌∷◌, ℕ, zero, suc, ◌+◌, ◌-◌, ◌*◌, ◌/◌, max, ltb, ℤ, pos, negsuc, neg_ℤ, ◌+ℤ◌}
use Rattle.std.specs.Int.Signed.{lt_z}

-- n / d, rounded up. (Rounded down it is the library's n / d.)
abbrev pub ceil : ℕ → ℕ → ℕ
ceil n d = (n + (d - 1)) / d

-- 'The quotient rounded up, also below zero.'
abbrev pub ceil_z : ℤ → ℕ → ℤ
ceil_z (pos n) d = pos (ceil n d)
ceil_z (negsuc n) d = neg_ℤ (pos (suc n / d))

-- Which way a value of a table is rounded.
pub data Direction : Type 0 where
  down up : Direction

-- A point of a table: at this place, this value.
pub record Point : Type 0 where
  pub place : ℕ
  pub value : ℕ

abbrev pub point : ℕ → ℕ → Point
point a b = record { place = a; value = b }

-- The distance of two points.
abbrev pub gap : Point → Point → ℕ
gap p q = q.place - p.place

-- The straight line through two points, at x, times their distance: right for rising and for falling values.
abbrev pub span : Point → Point → ℕ → ℕ
span p q x = p.value * (q.place - x) + q.value * (x - p.place)

-- What is added before the division, so that it rounds the way it should.
abbrev pub carry : Direction → ℕ → ℕ
carry down d = 0
carry up d = d - 1

-- 'Linear between points': the straight line at x, rounded.
abbrev pub line : Direction → Point → Point → ℕ → ℕ
line way p q x = (span p q x + carry way (gap p q)) / gap p q

-- From the point p on, through the others; flat beyond the last.
unfoldable pub onward : Direction → Point → List Point → ℕ → ℕ
onward way p [] x = p.value
onward way p (q ∷ qs) x = elim (ltb x q.place) [ true ↦ line way p q x | false ↦ onward way q qs x ]

-- 'Tables linear between points, flat beyond': flat before the first point too.
unfoldable pub table : Direction → List Point → ℕ → ℕ
table way [] x = 0
table way (p ∷ ps) x = onward way p ps (max x p.place)

-- The first of t, t + 1, .., t + n - 1 that passes a test; t + n where none does.
unfoldable pub first : (ℕ → Bool) → ℕ → ℕ → ℕ
first p zero t = t
first p (suc n) t = elim (p t) [ true ↦ t | false ↦ first p n (suc t) ]

-- The first of t, .., e that passes a test; past e where none does.
unfoldable pub first_in : (ℕ → Bool) → ℕ → ℕ → ℕ
first_in p t e = first p (suc e - t) t

-- The greatest of 0, .., n that passes a test; 0 where none does.
unfoldable pub greatest : (ℕ → Bool) → ℕ → ℕ
greatest p zero = 0
greatest p (suc n) = elim (p (suc n)) [ true ↦ suc n | false ↦ greatest p n ]

-- The first of t, .., t + n with the greatest value.
unfoldable pub peak : (ℕ → ℤ) → ℕ → ℕ → ℕ
peak f t zero = t
peak f t (suc n) = let m = peak f t n in elim (lt_z (f m) (f (t + suc n))) [ true ↦ t + suc n | false ↦ m ]

-- f(t) + f(t + 1) + .., n terms, by an index of either sign.
unfoldable pub sum_z : (ℤ → ℤ) → ℕ → ℤ → ℤ
sum_z f zero t = pos 0
sum_z f (suc n) t = f t +ℤ sum_z f n (t +ℤ pos 1)
