-- What holds of every ship that is judged: the ranges that the code's arithmetic rests on. No limit of document 01 is restated here.
use Rattle.std.specs.Prelude.{◌≡◌, true, ◌*◌, ◌≤◌}
use Rattle.rules.specs.Blocks.{ok, ship, Row, row, ok_weather}
use Rattle.rules.specs.Loading.{tenths, greatest_kg}
use Rattle.rules.specs.Curve.{Loaded}

-- What the table gives at W, as a row.
abbrev pub row_at : Loaded → Row
row_at c = record { mass = c.w; draught = c.draught; km = c.km; kn = c.kn }

-- Ship and weather are within their limits, what the table gives at W is within those of a row, and KG is in tenths and no more than 8 allows.
pub record Fair (c : Loaded) : Type 0 where
  pub hull : ok ship c.ship ≡ true
  pub sky : ok_weather c.weather ≡ true
  pub form : ok row (row_at c) ≡ true
  pub unit : c.unit ≡ tenths
  pub centre : c.kg ≤ tenths * greatest_kg
