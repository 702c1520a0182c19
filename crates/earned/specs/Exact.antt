-- The exact values behind a reading's numbers, as whole numbers over one denominator: nothing here is rounded.
use Rattle.std.specs.Prelude.{◌≡◌, true, false, List, [], ◌∷◌, ◌++◌, map, ℕ, ◌+◌, ◌-◌, ◌*◌, ◌≤◌, ◌<◌, ltb, get_or}
use Rattle.rules.specs.Rounding.{Point, point, gap, span}
use Rattle.rules.specs.Blocks.{Row}
use Rattle.rules.specs.Layout.{Reading}
use Rattle.rules.specs.Loading.{total, moment, free_surface, displacement, entries_of}
use Rattle.rules.specs.Curve.{stations}
use Rattle.earned.specs.Order.{Hull}

-- ---- the straight line between the two rows around W, as a fraction
-- A row as a point of one column of the table.
abbrev pub cell : (Row → ℕ) → Row → Point
cell f r = point r.mass (f r)

-- The distance of the two rows; 1 from the last row on.
unfoldable pub gap_from : Row → List Row → ℕ → ℕ
gap_from r [] w = 1
gap_from r (s ∷ rows) w = elim (ltb w s.mass) [ true ↦ s.mass - r.mass | false ↦ gap_from s rows w ]

-- The value at W, times that distance.
unfoldable pub span_from : (Row → ℕ) → Row → List Row → ℕ → ℕ
span_from f r [] w = f r
span_from f r (s ∷ rows) w = elim (ltb w s.mass) [ true ↦ span (cell f r) (cell f s) w | false ↦ span_from f s rows w ]

unfoldable pub gap_at : List Row → ℕ → ℕ
gap_at [] w = 1
gap_at (r ∷ rows) w = gap_from r rows w

unfoldable pub span_at : (Row → ℕ) → List Row → ℕ → ℕ
span_at f [] w = 0
span_at f (r ∷ rows) w = span_from f r rows w

-- ---- a reading's
abbrev pub weight : Reading → ℕ
weight r = displacement (entries_of r)

-- KG = moments / W, KN and KM = span / gap, lw1 = 5040 x wind area x Z / (981 x W): all four over W x gap x 981.
unfoldable pub over : Reading → ℕ
over r = weight r * gap_at r.rows (weight r) * 981

unfoldable pub column : (Row → ℕ) → Reading → ℕ
column f r = span_at f r.rows (weight r) * (weight r * 981)

unfoldable pub exact : Reading → Hull
exact r = record {
  kn = map (λ i. column (λ v. get_or v.kn i 0) r) stations;
  km = column (λ v. v.km) r;
  kg = (total moment (entries_of r) + total free_surface (entries_of r)) * (gap_at r.rows (weight r) * 981);
  lw1 = 5040 * r.condition.weather.sky.wind_area * r.condition.weather.sky.z * gap_at r.rows (weight r);
}

-- ---- what makes them exact: each is its fraction, with nothing rounded
-- The value of a column over `over R`: on the straight line between any two neighbouring rows around W.
abbrev pub Straight : Reading → (Row → ℕ) → ℕ → Type 0
Straight R f v = (a z : List Row) (r s : Row) → a ++ (r ∷ s ∷ z) ≡ R.rows → r.mass ≤ weight R → weight R ≤ s.mass → v * gap (cell f r) (cell f s) ≡ span (cell f r) (cell f s) (weight R) * over R

pub record Fractions (R : Reading) (h : Hull) : Type 0 where
  pub kn : (i : ℕ) → i < 13 → Straight R (λ v. get_or v.kn i 0) (get_or h.kn i 0)
  pub km : Straight R (λ v. v.km) h.km
  pub kg : h.kg * weight R ≡ (total moment (entries_of R) + total free_surface (entries_of R)) * over R
  pub lw1 : h.lw1 * (981 * weight R) ≡ 5040 * R.condition.weather.sky.wind_area * R.condition.weather.sky.z * over R
