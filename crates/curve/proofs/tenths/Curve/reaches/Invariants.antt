-- `curve::Curve::reaches` meets its contract: what is searched for is still what is left to search for. Assumes nothing.
use Rattle.std.proofs.Common.{◌≡◌}
use Rattle.rules.specs.Curve.{y as yOf}
use Rattle.rules.specs.Criteria.{reaches as reachesOf}
use Rattle.curve.specs.Heeled.{heeled}
use Rattle.curve.proofs.tenths.Curve.reaches.Given as goal

abbrev pub invariant-loop-t : goal.invariant-loop-t
invariant-loop-t l = reachesOf (yOf (heeled l.self)) l.level l.from l.to ≡ reachesOf (yOf (heeled l.self)) l.level l.t l.to
