-- Adding up: the sums of entries put together, and the bounds that the code's arithmetic rests on.
use Rattle.std.specs.Prelude.{◌+◌, ◌*◌, ◌≤◌}
use Rattle.rules.specs.Layout.{most_entries}
use Rattle.book.specs.declared.Sums.{Sums}

abbrev pub none : Sums
none = record { count = 0; mass = 0; moment = 0; free = 0 }

abbrev pub plus : Sums → Sums → Sums
plus t u = record { count = t.count + u.count; mass = t.mass + u.mass; moment = t.moment + u.moment; free = t.free + u.free }

-- No more than as many entries, each within its limits, can come to.
pub record Bounded (t : Sums) : Type 0 where
  pub count : t.count ≤ most_entries
  pub mass : t.mass ≤ 600_000_000 * t.count
  pub moment : t.moment ≤ 36_000_000_000_000 * t.count
  pub free : t.free ≤ 200_000_000_000 * t.count
