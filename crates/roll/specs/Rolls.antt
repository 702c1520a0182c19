-- What the code answers of the wind levers and of the roll, by the rules.
use Rattle.std.specs.Prelude.{cond, ℕ, Option, None, Some}
use Rattle.rules.specs.Curve.{Loaded}
use Rattle.rules.specs.Criteria.{lw1, lw2}
use Rattle.rules.specs.Roll.{phi1, not_judged}
use Rattle.roll.specs.declared.WindLevers.{WindLevers}

abbrev pub wind_levers : Loaded → WindLevers
wind_levers c = record { lw1 = lw1 c; lw2 = lw2 c }

-- None exactly where the rules do not judge; else the roll to windward.
unfoldable pub roll_of : Loaded → Option ℕ
roll_of c = cond (not_judged c) None (Some (phi1 c))
