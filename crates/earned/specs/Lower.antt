-- One ship at two KGs, and 'a lower weight never loses a pass' (request 6): what follows from a KG that is no greater, which slots keep a pass, and which loads are such.
use Rattle.std.specs.Prelude.{ℕ, ◌≤◌, pos}
use Rattle.rules.specs.Rounding.{peak}
use Rattle.rules.specs.Blocks.{Load, item, tank, Values}
use Rattle.rules.specs.Layout.{Entries, Reading}
use Rattle.rules.specs.Loading.{Entry, centre_of}
use Rattle.rules.specs.Leaves.{moments_in, SameMass, OneEntry}
use Rattle.rules.specs.Curve.{Loaded, y}
use Rattle.rules.specs.Criteria as criteria
use Rattle.earned.specs.Order.{NoLess, Follows}

-- What follows for the second of two ships, n of its units against m of the first's. To 60 degrees, for there the curve ends at the latest.
pub record NoWorse (m n : ℕ) (c c' : Loaded) : Type 0 where
  -- No lever to leeward is less, nor is an area, nor the greatest lever; a level is reached no later.
  pub curve : Follows m n (y c) (y c')
  -- The first of the greatest levers stands no earlier.
  pub first : (e : ℕ) → e ≤ 600 → peak (λ t. y c (pos t)) 0 e ≤ peak (λ t. y c' (pos t)) 0 e
  -- GM is no less.
  pub gm : NoLess m n (criteria.gm c) (criteria.gm c')

-- ---- readings
-- 'The same ship frame, rows and weather block, the same total mass', and 'the mass moments with free surface of the first are no greater'.
pub record NoHigher (r s : Reading) : Type 0 where
  pub alike : SameMass r s
  pub moments : moments_in r.condition.load ≤ moments_in s.condition.load

-- ---- a box moved down
-- An entry with its centre at z: its kind, its mass and a tank's fill, density and inertia are as they were.
abbrev pub centred_at : ℕ → (k : Load) → Values k → Values k
centred_at z item v = record { mass = v.mass; centre = z }
centred_at z (tank k) v = record { mass = v.mass; centre = z; fill = v.fill; density = v.density; inertia = v.inertia }

abbrev pub moved_to : ℕ → Entry → Entry
moved_to z e = record { kind = e.kind; values = centred_at z e.kind e.values }

-- The load G is F with the centre of one entry, e, at z, which is no higher. Nothing else differs.
pub record MovedDown (e : Entry) (z : ℕ) (F G : Entries) : Type 0 where
  pub lower : z ≤ centre_of e.kind e.values
  pub moved : OneEntry e (moved_to z e) F G
