-- 'Loading': the entries one by one, the displacement W, the free surfaces and the corrected KG; and the refusals 7 and 8.
use Rattle.std.specs.Prelude.{Bool, cond, ◌&&◌, List, [], ◌∷◌, ◌++◌, ℕ, ◌+◌, ◌*◌, leb, ltb}
use Rattle.rules.specs.Rounding.{ceil}
use Rattle.rules.specs.Blocks.{Row, Tank, TankKind, ordinary, cargo, Load, item, tank, Values}
use Rattle.rules.specs.Layout.{Entries, end, leaf, group, Reading}
use Rattle.rules.specs.Outcome.{Ans, test, ◌>>=◌, ◌>>◌}

-- An item or a tank with its values.
pub record Entry : Type 0 where
  pub kind : Load
  pub values : Values kind

-- 'Groups carry no meaning of their own': the entries in reading order, each once.
unfoldable pub flat : Entries → List Entry
flat end = []
flat (leaf k v r) = record { kind = k; values = v } ∷ flat r
flat (group g r) = flat g ++ flat r

unfoldable pub total : (Entry → ℕ) → List Entry → ℕ
total f [] = 0
total f (e ∷ es) = f e + total f es

abbrev pub mass_of : (k : Load) → Values k → ℕ
mass_of item v = v.mass
mass_of (tank k) v = v.mass

abbrev pub centre_of : (k : Load) → Values k → ℕ
centre_of item v = v.centre
centre_of (tank k) v = v.centre

-- 'Nominally full from 98 %', in 0.1 %.
abbrev pub nominally_full : ℕ
nominally_full = 980

-- The fills at which the free surface of a tank counts: 'if 0 < fill < 980'; a cargo tank's 'from fill 1 upward, 1,000 included' (request 1).
abbrev pub surface_counts : TankKind → ℕ → Bool
surface_counts ordinary fill = ltb 0 fill && ltb fill nominally_full
surface_counts cargo fill = ltb 0 fill

-- The whole moment of a free surface: '1000 x density x inertia'.
abbrev pub surface_moment : Tank → ℕ
surface_moment t = 1000 * t.density * t.inertia

-- 'Free surface moment of a tank = 1000 x density x inertia if' it counts, 'else 0'.
abbrev pub free_surface_of : (k : Load) → Values k → ℕ
free_surface_of item v = 0
free_surface_of (tank k) v = cond (surface_counts k v.fill) (surface_moment v) 0

abbrev pub mass : Entry → ℕ
mass e = mass_of e.kind e.values

abbrev pub moment : Entry → ℕ
moment e = mass e * centre_of e.kind e.values

abbrev pub free_surface : Entry → ℕ
free_surface e = free_surface_of e.kind e.values

-- 'W = sum of masses.'
unfoldable pub displacement : List Entry → ℕ
displacement es = total mass es

-- The unit of KG is how many parts of a millimetre it has. 'Carry KG in tenths of a millimetre' (request 5); before that it was carried in millimetres, and every definition that the unit touches has it as an argument, or as a field of the ship that is judged.
abbrev pub millimetres : ℕ
millimetres = 1

abbrev pub tenths : ℕ
tenths = 10

-- 'KG = (sum of mass x centre + free surface moments) / W, rounded up', of the moments together and W, in a unit.
abbrev pub kg_by : ℕ → ℕ → ℕ → ℕ
kg_by unit moments w = ceil (unit * moments) w

unfoldable pub corrected_kg_in : ℕ → List Entry → ℕ
corrected_kg_in unit es = kg_by unit (total moment es + total free_surface es) (displacement es)

abbrev pub corrected_kg : List Entry → ℕ
corrected_kg = corrected_kg_in tenths

-- The W of the first row, and of the last.
unfoldable pub first_mass : List Row → ℕ
first_mass [] = 0
first_mass (r ∷ rs) = r.mass

unfoldable pub last_mass : List Row → ℕ
last_mass [] = 0
last_mass (r ∷ []) = r.mass
last_mass (r ∷ s ∷ rs) = last_mass (s ∷ rs)

-- 7: 'total mass below the first row or above the last'.
unfoldable pub in_table : List Row → ℕ → Bool
in_table rows w = leb (first_mass rows) w && leb w (last_mass rows)

-- 8: 'corrected KG above 60,000', in millimetres; 'now above 600,000' (request 5), in tenths.
abbrev pub greatest_kg : ℕ
greatest_kg = 60_000

abbrev pub entries_of : Reading → List Entry
entries_of r = flat r.condition.load

-- '.. then 7; then 8.' 'For 7, 8 and 9 both are 0.' Of a table, W and a KG in its unit.
unfoldable pub weighed_at : ℕ → List Row → ℕ → ℕ → Ans (Unit {0})
weighed_at unit rows w kg = do
  test (in_table rows w) 7 0 0
  test (leb kg (unit * greatest_kg)) 8 0 0

unfoldable pub weighed_in : ℕ → Reading → Ans (Unit {0})
unfolding flat total displacement corrected_kg_in first_mass last_mass in_table weighed_at test ◌>>=◌ ◌>>◌
weighed_in unit r = weighed_at unit r.rows (displacement (entries_of r)) (corrected_kg_in unit (entries_of r))

abbrev pub weighed : Reading → Ans (Unit {0})
weighed = weighed_in tenths
