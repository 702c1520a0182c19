-- A reading within its limits gives a whole table and sums that the machine can hold; and what is worked out of them is what the rules say of the reading.
use mathlib.Core.Path.{◌≡◌, refl, ap}
use mathlib.Core.Bool.{true}
use mathlib.Core.List.{List, [], ◌∷◌, map}
use Prim.Native.Nat.{ℕ, ◌*◌, ◌≤◌}
use native.Mathlib.Omega.{arith}
use native.Mathlib.Nat.{mul-le-mul_right}
use lib.Dec.{leb}
use lib.ListN.{length-map}
use Rattle.rules.specs.Layout.{Entries, end, leaf, group, Good, leaves, Reading, Limits}
use Rattle.rules.specs.Outcome.{got, test}
use Rattle.rules.specs.Loading.{tenths, Entry, flat, total, mass, moment, free_surface, in_table, displacement, corrected_kg, greatest_kg, entries_of, weighed, weighed_in}
use Rattle.rules.specs.Curve.{loaded_at, loaded, loaded_in}
use Rattle.rules.specs.Blocks as rules
use Rattle.rules.proofs.walk.Outcome.{test_inv}
use Rattle.rules.proofs.loading.EntryLimits.{Each, masses, moments, surfaces}
use Rattle.rules.proofs.loading.Sums.{total_append}
use Rattle.book.specs.Book.{rows_of, plain_row, sums_of}
use Rattle.curve.specs.Weighing.{Whole, Sound, weighed_of, Weighs}
use Rattle.curve.proofs.Weighing.{weighs}

-- ---- the table
pub table_rows : (rows : List rules.Row) → rows_of (map plain_row rows) ≡ rows
unfolding rows_of
table_rows [] = refl
table_rows (r ∷ rs) = ap (λ (l : List rules.Row). r ∷ l) (table_rows rs)

pub whole : (r : Reading) → Limits r → Whole (map plain_row r.rows)
whole r l = record { few = simp length-map l.few; many = simp length-map l.many; rising = rw (table_rows r.rows) l.rising }

-- ---- the sums
module _ (f : Entry → ℕ) (n : ℕ) (each : Each f n) where
  total_most : (F : Entries) → Good F → total f (flat F) ≤ leaves F * n
  unfolding Good flat total leaves
  total_most end g = omega arith
  total_most (leaf k v r) g = omega (arith, each k v g.0, total_most r g.1)
  total_most (group h r) g = rw (total_append f (flat h) (flat r)) (omega (arith, total_most h g.1, total_most r g.2))

  most : (F : Entries) → Good F → leaves F ≤ 200 → total f (flat F) ≤ 200 * n
  most F g l = omega (arith, total_most F g, mul-le-mul_right n l)

pub sound : (r : Reading) → Limits r → Sound (sums_of r.condition.load) (map plain_row r.rows)
unfolding sums_of
sound r l =
    let F = r.condition.load in
    let g = l.loaded.good in
    let m = l.loaded.many in
    record {
      whole = whole r l;
      machine = record {
        mass = omega (arith, most mass 600_000_000 masses F g m);
        moments = omega (arith, most moment (600_000_000 * 60_000) moments F g m, most free_surface (1000 * 2_000 * 100_000) surfaces F g m);
      };
    }

-- ---- a reading, handed on as plain data
module _ (r : Reading) where
  pub reading_weighs : Weighs r (weighed_of (rows_of (map plain_row r.rows)) (sums_of r.condition.load))
  reading_weighs = rw (table_rows r.rows) (weighs r)

  pub reading_in_table : weighed r ≡ got tt → in_table (rows_of (map plain_row r.rows)) (displacement (entries_of r)) ≡ true
  unfolding weighed_in
  reading_in_table e =
      rw (table_rows r.rows) (test_inv (in_table r.rows (displacement (entries_of r))) 7 0 0 (test (leb (corrected_kg (entries_of r)) (tenths * greatest_kg)) 8 0 0) e).0

  pub reading_loaded : loaded_at tenths r.ship (rows_of (map plain_row r.rows)) r.condition.weather (displacement (entries_of r)) (corrected_kg (entries_of r)) ≡ loaded r
  unfolding loaded_in
  reading_loaded = rw (table_rows r.rows)
