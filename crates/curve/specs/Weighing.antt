-- Loading: W and the corrected KG, or 7 or 8; and what makes a table and sums fit for it.
use Rattle.std.specs.Prelude.{◌≡◌, List, ℕ, ◌+◌, ◌^◌, ◌≤◌, length, Result, Ok, Err}
use Rattle.rules.specs.Blocks as rules
use Rattle.rules.specs.Layout.{Rising, Reading, fewest_rows, most_rows}
use Rattle.rules.specs.Outcome.{Ans, refused, got}
use Rattle.rules.specs.Loading.{tenths, kg_by, weighed_at, weighed, displacement, corrected_kg, entries_of}
use Rattle.book.specs.Book.{rows_of, fault_of, nowhere, Refuses}
use Rattle.book.specs.declared.Row.{Row}
use Rattle.book.specs.declared.Sums.{Sums}
use Rattle.book.specs.declared.Fault.{Fault}
use Rattle.curve.specs.declared.loading.Weight.{Weight}

-- 2 to 40 rows, rising, each within its limits.
pub record Whole (rows : List Row) : Type 0 where
  pub few : fewest_rows ≤ length rows
  pub many : length rows ≤ most_rows
  pub rising : Rising 0 (rows_of rows)

-- Sums that the machine can add and divide.
pub record InMachine (s : Sums) : Type 0 where
  pub mass : s.mass ≤ 10 ^ 12
  pub moments : s.moment + s.free ≤ 10 ^ 16

pub record Sound (s : Sums) (rows : List Row) : Type 0 where
  pub whole : Whole rows
  pub machine : InMachine s

-- The corrected KG of the sums, by the rules.
abbrev pub kg_of : Sums → ℕ
kg_of s = kg_by tenths (s.moment + s.free) s.mass

-- What the code answers of the sums, from what the rules answer: W and KG, or the fault.
abbrev pub weight : ℕ → ℕ → Ans (Unit {0}) → Result Weight Fault
weight w kg (refused n l o) = Err (fault_of n)
weight w kg (got tt) = Ok (record { w = w; kg = kg })

unfoldable pub weighed_of : List rules.Row → Sums → Result Weight Fault
weighed_of rows s = weight s.mass (kg_of s) (weighed_at tenths rows s.mass (kg_of s))

-- What an answer says of a reading. 'For 7, 8 and 9 both are 0.'
abbrev pub Weighs : Reading → Result Weight Fault → Type 0
Weighs r (Ok k) = (weighed r ≡ got tt) × (k.w ≡ displacement (entries_of r)) × (k.kg ≡ corrected_kg (entries_of r))
Weighs r (Err f) = Refuses (weighed r) (nowhere f)
