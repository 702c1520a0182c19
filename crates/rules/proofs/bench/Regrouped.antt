-- Two texts of one ship, table and weather whose loads have the same sums and nothing else in common: P1's one item, and a group of an item and a tank.
use mathlib.Core.Path.{◌≡◌, refl, ap}
use mathlib.Core.Logic.{◌≢◌}
use mathlib.Core.List.{List}
use Prim.Native.Nat.{ℕ}
use native.Mathlib.Omega.{arith}
use lib.ListN.{length}
use Rattle.rules.specs.Blocks.{ordinary, item, tank}
use Rattle.rules.specs.Layout.{Entries, end, leaf, group, Reading}
use Rattle.rules.specs.Outcome.{got}
use Rattle.rules.specs.Walk.{read}
use Rattle.rules.specs.Leaves.{sum_leaves, SameSums}
use Rattle.rules.proofs.bench.Bench.{with, P1}
use Rattle.rules.proofs.bench.Drawing.{hull, rows, sky}

abbrev pub regrouped : List ℕ
regrouped = with "A3002CC1000C000009C40FA002BC01F400C8C4001AC20006000AAE600BB8C3000E000AAE60132401F403E800000046"

-- P1's ship, rows and weather with this load.
abbrev pub loaded_so : Entries → Reading
loaded_so F = record { ship = hull; rows = rows; condition = record { weather = sky; load = F } }

-- 1,400,000 kg at 4,000 mm.
abbrev pub as_one : Reading
as_one = loaded_so (leaf item (record { mass = 1_400_000; centre = 4_000 }) end)

-- 700,000 kg at 3,000 mm and 700,000 kg at 4,900 mm, with a free surface moment of 1000 x 1,000 x 70: 2,100 + 3,430 + 70 million make the 5,600 million of the one item.
abbrev pub as_group : Reading
as_group = loaded_so (group (leaf item (record { mass = 700_000; centre = 3_000 }) (leaf (tank ordinary) (record { mass = 700_000; centre = 4_900; fill = 500; density = 1_000; inertia = 70 }) end)) end)

pub reads_as : (read P1 ≡ got as_one) × (read regrouped ≡ got as_group)
unfolding read
reads_as = (refl, refl)

pub same_sums : SameSums as_one as_group
unfolding sum_leaves
same_sums = record { ship = refl; rows = refl; weather = refl; masses = refl; moments = refl }

pub two_texts : P1 ≢ regrouped
two_texts e = omega (arith, ap length e)
