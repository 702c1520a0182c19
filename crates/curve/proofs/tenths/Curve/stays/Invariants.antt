-- `curve::Curve::stays` meets its contract: up to `last` the lever stays at or above the level, and the tenth after it is the next. Assumes nothing.
use Rattle.std.proofs.Common.{◌≡◌, ◌+◌, ◌*◌, ◌≤◌, max}
use Rattle.rules.specs.Curve.{y as yOf}
use Rattle.rules.specs.Roll.{stays as stays_of}
use Rattle.curve.specs.Heeled.{heeled}
use Rattle.curve.proofs.tenths.Curve.stays.Given as goal

abbrev pub invariant-loop-t : goal.invariant-loop-t
invariant-loop-t l = (l.last + 1 ≡ l.t) × (l.last ≤ l.to) × (stays_of (yOf (heeled l.self)) l.level l.from l.to ≡ stays_of (yOf (heeled l.self)) l.level l.t l.to)

abbrev pub invariant-out : goal.invariant-out
invariant-out l = (l.last + 1 ≡ max (l.station * 50) (l.from + 1)) × (l.last ≤ l.to) × (stays_of (yOf (heeled l.self)) l.level l.from l.to ≡ stays_of (yOf (heeled l.self)) l.level (l.last + 1) l.to)
