-- The roll with nothing rounded on the way to it, from the d, KM and KG used: the Code's 109 k X1 X2 sqrt(r s) degrees, in whole numbers over denominators.
use Rattle.std.specs.Prelude.{true, false, List, map, ℕ, ◌+◌, ◌-◌, ◌*◌, ◌^◌, ◌≤◌, ◌<◌, eqb}
use Rattle.rules.specs.Rounding.{Point, point, up, table}
use Rattle.rules.specs.Curve.{Loaded}
use Rattle.rules.specs.Roll.{X1, X2, K, S}

-- A table with its arguments over D and its values over M: its value is rounded up to an M-th, and M is free.
abbrev pub finer_table : ℕ → ℕ → List Point → List Point
finer_table D M T = map (λ p. point (D * p.place) (M * p.value)) T

-- ---- the factors, over M, at arguments that are not rounded
-- X1 at 1000 B/d.
unfoldable pub exact_x1 : ℕ → Loaded → ℕ
exact_x1 M c = table up (finer_table c.draught M X1) (1000 * c.ship.breadth)

unfoldable pub exact_x2 : ℕ → Loaded → ℕ
exact_x2 M c = table up (finer_table 1 M X2) c.weather.sky.cb

-- k at 10^9 x area / (L B).
unfoldable pub exact_k : ℕ → Loaded → ℕ
exact_k M c = elim (eqb c.ship.bilge 1) [ true ↦ M * 700 | false ↦ table up (finer_table (c.ship.hull_length * c.ship.breadth) M K) (10 ^ 9 * c.ship.keel_area) ]

-- s at a period of x / D hundredths of a second.
unfoldable pub exact_s : ℕ → ℕ → ℕ → ℕ
exact_s M D x = table up (finer_table D M S) x

-- r, over d in the unit of KG: 730 + 600 (KG - d)/d is (130 d + 600 KG) / d.
unfoldable pub exact_r : Loaded → ℕ
exact_r c = 130 * (c.unit * c.draught) + 600 * c.kg

-- ---- the period
-- C, over 100 d: 373,000 + 23 x 1000 B/d - 43 L/100.
unfoldable pub exact_c : Loaded → ℕ
exact_c c = 37_300_000 * c.draught + 2_300_000 * c.ship.breadth - 43 * c.ship.hull_length * c.draught

-- x / D is no shorter than the exact period: n² GM = 10 q² with q = 2 C B / 10^6, and GM in mm.
abbrev pub NoShorter : ℕ → ℕ → Loaded → Type 0
NoShorter D x c = c.unit * 10 * (2 * exact_c c * c.ship.breadth * D) * (2 * exact_c c * c.ship.breadth * D) ≤ 10 ^ 8 * c.draught * x * (10 ^ 8 * c.draught * x) * (c.unit * c.km - c.kg)

-- ---- the roll
-- k X1 X2, over `over M` thousandths.
unfoldable pub exact_p : ℕ → Loaded → ℕ
exact_p M c = exact_k M c * exact_x1 M c * exact_x2 M c

abbrev pub over : ℕ → ℕ
over M = 1_000_000 * (M * M * M)

-- `roll` q-ths of a tenth are no more than the exact roll, rounded up to a q-th: one less is below 1090 k X1 X2 sqrt(r s).
abbrev pub WithinRoll : ℕ → ℕ → ℕ → Loaded → ℕ → ℕ → Type 0
WithinRoll M D x c q roll = over M * over M * (c.unit * c.draught) * M * (10 ^ 13 * ((roll - 1) * (roll - 1))) < q * q * (1090 * exact_p M c * (1090 * exact_p M c) * exact_r c * exact_s M D x)
