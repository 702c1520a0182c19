-- The curve in arrays: a lever at each of the thirteen stations, y at each tenth of a degree from 0 to 600, and the area up to each.
use Rattle.std.specs.Prelude.{◌≡◌, List, map, ℕ, suc, ◌+◌, ◌-◌, ◌*◌, ◌/◌, ◌%◌, ◌^◌, ◌≤◌, ◌<◌, length, get_or, ℤ, pos, negsuc, neg_ℤ, nat_abs, ◌+ℤ◌, ◌*ℤ◌}
use Rattle.std.proofs.Math.IntN.{sub_ℕ}
use Rattle.rules.specs.Loading.{tenths, greatest_kg}
use Rattle.rules.specs.Curve.{stations, sines, area}

-- Sizes that the machine's arithmetic rests on: KN within two bytes, KG what 8 allows.
pub record Sized (kn : List ℕ) (kg : ℕ) : Type 0 where
  pub forms : (i : ℕ) → get_or kn i 0 < 2 ^ 16
  pub centre : kg ≤ tenths * greatest_kg

-- No entry is further than n from zero.
abbrev pub Within : ℕ → List ℤ → Type 0
Within n zs = (i : ℕ) → nat_abs (get_or zs i (pos 0)) ≤ n

-- So far from zero no lever at a station is, and no y.
abbrev pub most_g : ℕ
most_g = 2 * 10 ^ 11

abbrev pub most_y : ℕ
most_y = 10 ^ 13

-- 'g at a station = 100,000 x KN - KG x sine', KN in tenths as KG is.
unfoldable pub g : List ℕ → ℕ → ℕ → ℤ
g kn kg i = sub_ℕ (tenths * 100000 * get_or kn i 0) (kg * get_or sines i 0)

abbrev pub levers_of : List ℕ → ℕ → List ℤ
levers_of kn kg = map (g kn kg) stations

-- '50 times the straight-line value of g.' Of the levers above it is the rules' `lever`: `straight_lever` in proofs/Straight.
unfoldable pub straight : List ℤ → ℕ → ℤ
straight gs t = pos (50 - t % 50) *ℤ get_or gs (t / 50) (pos 0) +ℤ pos (t % 50) *ℤ get_or gs (t / 50 + 1) (pos 0)

-- An array of 601 entries that are those of f.
pub record Holds (f : ℕ → ℤ) (zs : List ℤ) : Type 0 where
  pub long : length zs ≡ 601
  pub at : (t : ℕ) → t ≤ 600 → get_or zs t (pos 0) ≡ f t

-- The curve that an array of tenths holds: 'y(-t) = -y(t)'.
unfoldable pub held : List ℤ → ℤ → ℤ
held ys (pos t) = get_or ys t (pos 0)
held ys (negsuc t) = neg_ℤ (get_or ys (suc t) (pos 0))

-- The area from 0 to n.
abbrev pub up_to : (ℤ → ℤ) → ℕ → ℤ
up_to f n = area f (pos 0) (pos n)
