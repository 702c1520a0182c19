-- 'Loading and curve': what the table gives at W, the levers at the stations, y at each tenth of a degree, and areas.
use Rattle.std.specs.Prelude.{true, false, List, [], ◌∷◌, map, ℕ, suc, ◌+◌, ◌-◌, ◌*◌, ◌/◌, ◌%◌, get_or, ℤ, pos, negsuc, neg_ℤ, nat_abs, ◌+ℤ◌, ◌-ℤ◌}
use Rattle.std.proofs.Math.IntN.{sub_ℕ}
use Rattle.std.specs.Int.Signed.{lt_z}
use Rattle.rules.specs.Rounding.{point, down, onward, table, sum_z}
use Rattle.rules.specs.Blocks.{Row, Ship, Weather}
use Rattle.rules.specs.Layout.{Reading}
use Rattle.rules.specs.Loading.{flat, total, displacement, corrected_kg_in, tenths, entries_of}

-- 'd, KM and each KN lie linearly between the two rows around W, rounded down; on a row, that row.'
unfoldable pub between : List Row → (Row → ℕ) → ℕ → ℕ
between rows f w = table down (map (λ r. point r.mass (f r)) rows) w

-- The thirteen stations, 0, 5, .. 60°, by number.
abbrev pub stations : List ℕ
stations = 0 ∷ 1 ∷ 2 ∷ 3 ∷ 4 ∷ 5 ∷ 6 ∷ 7 ∷ 8 ∷ 9 ∷ 10 ∷ 11 ∷ 12 ∷ []

unfoldable pub kn_at : List Row → ℕ → List ℕ
kn_at rows w = map (λ i. between rows (λ r. get_or r.kn i 0) w) stations

-- What is judged: ship, weather, and what loading and table come to. KG is carried in the unit; 'KN, KM, d, lw1 and lw2 keep millimetres and are multiplied where they meet' (request 5).
pub record Loaded : Type 0 where
  pub unit : ℕ
  pub ship : Ship
  pub weather : Weather
  pub w : ℕ
  pub kg : ℕ
  pub draught : ℕ
  pub km : ℕ
  pub kn : List ℕ

-- The ship at a displacement and a KG in a unit.
unfoldable pub loaded_at : ℕ → Ship → List Row → Weather → ℕ → ℕ → Loaded
loaded_at unit s rows c w kg = record { unit = unit; ship = s; weather = c; w = w; kg = kg; draught = between rows (λ r. r.draught) w; km = between rows (λ r. r.km) w; kn = kn_at rows w }

unfoldable pub loaded_in : ℕ → Reading → Loaded
unfolding onward table flat total displacement corrected_kg_in between kn_at loaded_at
loaded_in unit r = loaded_at unit r.ship r.rows r.condition.weather (displacement (entries_of r)) (corrected_kg_in unit (entries_of r))

abbrev pub loaded : Reading → Loaded
loaded = loaded_in tenths

-- 'Sines in 1/100,000.'
abbrev pub sines : List ℕ
sines = 0 ∷ 8716 ∷ 17365 ∷ 25882 ∷ 34202 ∷ 42262 ∷ 50000 ∷ 57358 ∷ 64279 ∷ 70711 ∷ 76604 ∷ 81915 ∷ 86603 ∷ []

-- 50 times the straight-line value, at t tenths, of values at stations five degrees apart.
abbrev pub fifty : List ℕ → ℕ → ℕ
fifty vs t = get_or vs (t / 50) 0 * (50 - t % 50) + get_or vs (t / 50 + 1) 0 * (t % 50)

-- 'g at a station = 100,000 x KN - KG x sine. y(t) at t tenths is 50 times the straight-line value of g, a whole number.' KN is multiplied by KG's unit.
unfoldable pub lever : ℕ → List ℕ → ℕ → ℕ → ℤ
lever unit kn kg t = sub_ℕ (unit * 100000 * fifty kn t) (kg * fifty sines t)

-- 'y(-t) = -y(t).'
unfoldable pub lever_z : ℕ → List ℕ → ℕ → ℤ → ℤ
lever_z unit kn kg (pos t) = lever unit kn kg t
lever_z unit kn kg (negsuc t) = neg_ℤ (lever unit kn kg (suc t))

abbrev pub y : Loaded → ℤ → ℤ
y c = lever_z c.unit c.kn c.kg

-- 'E = flooding angle. The curve ends there.'
abbrev pub E : Loaded → ℕ
E c = c.weather.sky.flooding

-- 'Area from p to q: sum of y(t) + y(t+1) for t from p to q-1; 0 if q <= p.'
unfoldable pub area : (ℤ → ℤ) → ℤ → ℤ → ℤ
area f p q = elim (lt_z p q) [ true ↦ sum_z (λ t. f t +ℤ f (t +ℤ pos 1)) (nat_abs (q -ℤ p)) p | false ↦ pos 0 ]
