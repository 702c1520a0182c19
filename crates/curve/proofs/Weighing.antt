-- Each way out of the weighing, and what it says of the reading.
use mathlib.Core.Path.{◌≡◌, refl}
use mathlib.Core.Bool.{Bool, true, false}
use mathlib.Core.List.{List}
use Prim.Native.Nat.{ℕ, ◌*◌, ◌≤◌, ◌<◌}
use lib.Dec.{leb}
use borrow.Author.Tests.{le-leb, lt-leb}
use Rattle.rules.specs.Blocks.{Row}
use Rattle.rules.specs.Layout.{Reading}
use Rattle.rules.specs.Outcome.{test, ◌>>=◌, ◌>>◌}
use Rattle.rules.specs.Loading.{tenths, displacement, corrected_kg, corrected_kg_in, in_table, greatest_kg, entries_of, weighed_at, weighed, weighed_in}
use Rattle.book.specs.Book.{sums_of}
use Rattle.book.specs.declared.Fault.TheVariants.{OutsideTable, KgTooHigh}
use Rattle.book.specs.declared.Sums.{Sums}
use Rattle.curve.specs.Weighing.{kg_of, weight, weighed_of, Weighs}
use Rattle.std.specs.Prelude.{Ok, Err}

-- ---- the ways out
module _ (rows : List Row) (s : Sums) where
  pub out_of_table : in_table rows s.mass ≡ false → weighed_of rows s ≡ Err OutsideTable
  unfolding weighed_of weighed_at test ◌>>◌ ◌>>=◌
  out_of_table e = rw e

  module _ (e : in_table rows s.mass ≡ true) where
    pub too_high : tenths * greatest_kg < kg_of s → weighed_of rows s ≡ Err KgTooHigh
    unfolding weighed_of weighed_at test ◌>>◌ ◌>>=◌
    too_high h = rw (e, lt-leb (kg_of s) (tenths * greatest_kg) h)

    pub fine : kg_of s ≤ tenths * greatest_kg → weighed_of rows s ≡ Ok (record { w = s.mass; kg = kg_of s })
    unfolding weighed_of weighed_at test ◌>>◌ ◌>>=◌
    fine h = rw (e, le-leb (kg_of s) (tenths * greatest_kg) h)

-- ---- what they say of a reading
module _ (r : Reading) where
  says : (w kg : ℕ) → w ≡ displacement (entries_of r) → kg ≡ corrected_kg (entries_of r) → (a b : Bool) → weighed r ≡ (test a 7 0 0 >> test b 8 0 0) → Weighs r (weight w kg (test a 7 0 0 >> test b 8 0 0))
  unfolding test ◌>>◌ ◌>>=◌
  says w kg p q true true e = (e, p, q)
  says w kg p q true false e = e
  says w kg p q false b e = e

  pub weighs : Weighs r (weighed_of r.rows (sums_of r.condition.load))
  unfolding weighed_in weighed_of weighed_at sums_of displacement corrected_kg_in
  weighs = says _ _ refl refl (in_table r.rows (displacement (entries_of r))) (leb (corrected_kg (entries_of r)) (tenths * greatest_kg)) refl
