-- The bounds of sums: of one entry within its limits, of sums put together, of all entries of a condition.
use mathlib.Core.Path.{◌≡◌, sym}
use mathlib.Core.Bool.{true}
use Prim.Native.Nat.{◌+◌, ◌≤◌}
use native.Mathlib.Omega.{arith}
use Rattle.rules.specs.Blocks.{ok, Load, Values, entry}
use Rattle.rules.specs.Layout.{Entries, leaves, most_entries}
use Rattle.rules.proofs.loading.EntryLimits.{masses, moments, surfaces}
use Rattle.rules.proofs.loading.Sums.{leaves_flat}
use Rattle.book.specs.Book.{sums_of}
use Rattle.book.specs.declared.Sums.{Sums}
use Rattle.blocks.specs.BlockAnswers.{sums_of_one}
use Rattle.frames.specs.Sums.{plus, Bounded}

pub one_bounded : (k : Load) (v : Values k) → ok (entry k) v ≡ true → Bounded (sums_of_one k v)
one_bounded k v o = record { count = omega arith; mass = omega (arith, masses k v o); moment = omega (arith, moments k v o); free = omega (arith, surfaces k v o) }

pub plus_bounded : (t u : Sums) → Bounded t → Bounded u → t.count + u.count ≤ most_entries → Bounded (plus t u)
plus_bounded t u a b l = record {
  count = l;
  mass = omega (arith, a.mass, b.mass);
  moment = omega (arith, a.moment, b.moment);
  free = omega (arith, a.free, b.free);
}

-- As many as leaves.
pub counted : (F : Entries) → (sums_of F).count ≡ leaves F
unfolding sums_of
counted F = sym (leaves_flat F)
