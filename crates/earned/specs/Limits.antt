-- The areas that criteria 1 to 3 ask for, from metre-radians: one is 180/pi metre-degrees, and one metre-degree is 10^11, with KG in millimetres. (KG's unit multiplies limits and areas alike.)
use Rattle.std.specs.Prelude.{ℕ, ◌*◌, ◌^◌, ◌≤◌}

-- pi is a fraction num / den. All that is asked of it is that it is at least 3.1415926.
abbrev pub PiFrom : ℕ → ℕ → Type 0
PiFrom num den = 31_415_926 * den ≤ 10_000_000 * num

-- And, only to say how near the limits are, that it is at most 3.1415927.
abbrev pub PiTo : ℕ → ℕ → Type 0
PiTo num den = 10_000_000 * num ≤ 31_415_927 * den

-- A limit in y units is at least so many thousandths of a metre-radian: m / 1000 x 180 / pi x 10^11 ≤ limit.
abbrev pub Covers : ℕ → ℕ → ℕ → ℕ → Type 0
Covers num den limit m = m * 180 * 10 ^ 11 * den ≤ 1000 * limit * num
