-- Criterion 8, severe wind and rolling (Code 2.3): the roll, the start, the gust, and the net area.
use Rattle.std.specs.Prelude.{Bool, true, false, ◌||◌, List, [], ◌∷◌, ℕ, ◌+◌, ◌-◌, ◌*◌, ◌/◌, ◌^◌, min, leb, ltb, eqb, ℤ, pos, nat_abs, ◌+ℤ◌, ◌-ℤ◌, ◌*ℤ◌}
use Rattle.std.proofs.Math.IntN.{sub_ℕ}
use Rattle.std.specs.Int.Signed.{le_z, lt_z}
use Rattle.rules.specs.Rounding.{ceil, ceil_z, Point, point, up, table, first, first_in, greatest}
use Rattle.rules.specs.Blocks.{Ship}
use Rattle.rules.specs.Curve.{Loaded, y, E, area}
use Rattle.rules.specs.Criteria.{lw1, lw2, units, reaches, phi0}

-- ---- Roll (Code 2.3.4)
-- 'b = 1000 B/d, down.'
unfoldable pub b : Loaded → ℕ
b c = 1000 * c.ship.breadth / c.draught

-- 'C = 373,000 + 23 b - (43 L/100, up).'
unfoldable pub C : Loaded → ℕ
C c = 373_000 + 23 * b c - ceil (43 * c.ship.hull_length) 100

-- 'q = 2 C B / 10^6, down.'
unfoldable pub q : Loaded → ℕ
q c = 2 * C c * c.ship.breadth / 10 ^ 6

-- 'n >= 2000' is not judged, so no more is asked of it.
abbrev pub longest_period : ℕ
longest_period = 2000

-- 'Period n (0.01 s) = greatest with n² GM <= 10 q²', up to 2,000; in tenths 'n² GM <= 100 q²' (request 5).
unfoldable pub period : Loaded → ℕ
period c = greatest (λ n. leb (n * n * (c.unit * c.km - c.kg)) (c.unit * 10 * q c * q c)) longest_period

-- 'Tables linear between points, flat beyond, rounded up.' In thousandths, s in ten-thousandths.
abbrev pub X1 : List Point
X1 =
    point 2400 1000 ∷ point 2500 980 ∷ point 2600 960 ∷ point 2700 950 ∷ point 2800 930 ∷ point 2900 910 ∷ point 3000 900 ∷ point 3100 880 ∷ point 3200 860 ∷ point 3400 820
    ∷ point 3500 800 ∷ []

abbrev pub X2 : List Point
X2 = point 450 750 ∷ point 500 820 ∷ point 550 890 ∷ point 600 950 ∷ point 650 970 ∷ point 700 1000 ∷ []

abbrev pub K : List Point
K = point 0 1000 ∷ point 1000 980 ∷ point 1500 950 ∷ point 2000 880 ∷ point 2500 790 ∷ point 3000 740 ∷ point 3500 720 ∷ point 4000 700 ∷ []

abbrev pub S : List Point
S = point 600 1000 ∷ point 700 980 ∷ point 800 930 ∷ point 1200 650 ∷ point 1400 530 ∷ point 1600 440 ∷ point 1800 380 ∷ point 2000 350 ∷ []

-- 'The keel index, which in thousandths is 10^9 x area / (L B) in A1's units, down.'
unfoldable pub keel_index : Ship → ℕ
keel_index s = 10 ^ 9 * s.keel_area / (s.hull_length * s.breadth)

-- 'A sharp bilge has k 700 at once.'
unfoldable pub k : Loaded → ℕ
k c = elim (eqb c.ship.bilge 1) [ true ↦ 700 | false ↦ table up K (keel_index c.ship) ]

unfoldable pub x1 : Loaded → ℕ
x1 c = table up X1 (b c)

unfoldable pub x2 : Loaded → ℕ
x2 c = table up X2 c.weather.sky.cb

unfoldable pub s : Loaded → ℕ
s c = table up S (period c)

-- 'p = k X1 / 1000, up; then times X2 / 1000, up.'
unfoldable pub p : Loaded → ℕ
p c = ceil (ceil (k c * x1 c) 1000 * x2 c) 1000

-- 'r = 730 + 600 (KG - d)/d, the quotient rounded up, also below zero'; d is multiplied by KG's unit: in tenths 'r takes (KG - 10 d)/(10 d)' (request 5).
unfoldable pub r_of : ℕ → ℕ → ℕ → ℤ
r_of unit kg d = pos 730 +ℤ ceil_z (pos 600 *ℤ sub_ℕ kg (unit * d)) (unit * d)

abbrev pub r : Loaded → ℤ
r c = r_of c.unit c.kg c.draught

-- No roll that is judged comes near this.
abbrev pub widest_roll : ℕ
widest_roll = 600

-- 'phi1 = least m with 10^13 m² >= 1090² p² r s.'
unfoldable pub phi1 : Loaded → ℕ
phi1 c = let product = 1090 * 1090 * p c * p c * nat_abs (r c) * s c in first (λ m. leb product (10 ^ 13 * m * m)) widest_roll 0

-- ---- the gust
-- 'Start = phi0 if y(phi0) = lw1, else phi0 - 1; less phi1.' At phi0 y is no less than lw1.
unfoldable pub start : Loaded → ℤ
start c = elim (le_z (y c (pos (phi0 c))) (units c.unit (lw1 c))) [ true ↦ pos (phi0 c) -ℤ pos (phi1 c) | false ↦ pos (phi0 c) -ℤ pos 1 -ℤ pos (phi1 c) ]

-- 'min(E, 500).'
abbrev pub farthest : Loaded → ℕ
farthest c = min (E c) 500

-- 'u = first t from phi0 to min(E, 500) with y >= lw2.' Past it where there is none.
unfoldable pub u : Loaded → ℕ
u c = reaches (y c) (units c.unit (lw2 c)) (phi0 c) (farthest c)

-- 'The last tenth of a degree up to which GZ stays at or above a level from t on, not beyond e': one before the first that is below it.
unfoldable pub stays : (ℤ → ℤ) → ℤ → ℕ → ℕ → ℕ
stays f level t e = first_in (λ k. lt_z (f (pos k)) level) t e - 1

unfoldable pub e : Loaded → ℕ
e c = stays (y c) (units c.unit (lw2 c)) (u c) (farthest c)

-- 'Net = area start to e, less 2 lw2 (e - start).'
unfoldable pub net : Loaded → ℤ
net c = area (y c) (start c) (pos (e c)) -ℤ pos 2 *ℤ units c.unit (lw2 c) *ℤ (pos (e c) -ℤ start c)

-- ---- the verdict
-- 'GM <= 0, 10 B >= 35 d, KG outside 7d/10..15d/10 (ends judged)'; 'the judged range is 7d to 15d in tenths' (request 5).
unfoldable pub outside_range : Loaded → Bool
outside_range c = leb (c.unit * c.km) c.kg || leb (35 * c.draught) (10 * c.ship.breadth) || ltb (10 * c.kg) (c.unit * 7 * c.draught) || ltb (c.unit * 15 * c.draught) (10 * c.kg)

-- 'Not judged (2) if' so, 'or n >= 2000'.
unfoldable pub not_judged : Loaded → Bool
not_judged c = outside_range c || leb longest_period (period c)

-- 'Otherwise fail if phi0 is none'; 'u .. none: fail'.
unfoldable pub no_gust : Loaded → Bool
no_gust c = ltb (E c) (phi0 c) || ltb (farthest c) (u c)

-- 'Pass: net >= 0.'
unfoldable pub passes8 : Loaded → Bool
passes8 c = le_z (pos 0) (net c)
