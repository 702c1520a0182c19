-- `curve::Curve::peak` meets its contract: `best` is the first with the greatest lever of the tenths passed. Assumes nothing.
use Rattle.std.proofs.Common.{◌≡◌, ◌+◌, ◌-◌, ◌≤◌, pos}
use Rattle.rules.specs.Rounding.{peak as peakOf}
use Rattle.rules.specs.Curve.{y as yOf}
use Rattle.curve.specs.Heeled.{heeled}
use Rattle.curve.proofs.tenths.Curve.peak.Given as goal

abbrev pub invariant-loop-t : goal.invariant-loop-t
invariant-loop-t l = (l.best ≤ l.to) × (l.best ≡ peakOf (λ k. yOf (heeled l.self) (pos k)) l.from (l.t - (l.from + 1)))
