-- `rounding::table_up` meets its contract: from each point on, the table is what it is from its first point on. Assumes nothing.
use mathlib.Core.Path.{◌≡◌}
use Prim.Native.Nat.{◌≤◌, ◌<◌}
use lib.ListN.{drop}
use Rattle.rules.specs.Rounding.{up, onward, table}
use Rattle.rounding.specs.Points.{point_of, points_of}
use Rattle.rounding.proofs.table_up.Given as goal

abbrev pub invariant-loop-to : goal.invariant-loop-to
invariant-loop-to l = record {
  before : l.from.place ≤ l.at;
  value : l.from.value < 65_536;
  onward : onward up (point_of l.from) (points_of (drop l.to-index l.others)) l.at ≡ table up (points_of l.points) l.x;
}
