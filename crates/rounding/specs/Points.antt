-- Points as code holds them: as the rules hold them, two of them with a place between, and what is asked of a table.
use Rattle.std.specs.Prelude.{Bool, true, ◌&&◌, List, [], ◌∷◌, map, ℕ, ◌≤◌, ◌<◌, ltb}
use Rattle.rules.specs.Rounding as rules
use Rattle.rounding.specs.declared.Point.{Point}
use Rattle.rounding.specs.declared.Way.{Way}
use Rattle.rounding.specs.declared.Way.TheVariants.{Down, Up}

abbrev pub way_of : Way → rules.Direction
way_of Down = rules.down
way_of Up = rules.up

abbrev pub point_of : Point → rules.Point
point_of p = rules.point p.place p.value

abbrev pub points_of : List Point → List rules.Point
points_of ps = map point_of ps

-- x lies between two points whose places are masses or less, and whose values are of two bytes.
pub record Between (p q : Point) (x : ℕ) : Type 0 where
  pub rise : p.place < q.place
  pub from : p.place ≤ x
  pub to : x ≤ q.place
  pub far : q.place ≤ 600_000_000
  pub first : p.value < 65_536
  pub second : q.value < 65_536

-- What is asked of a table, so that constants show it by computation: each place and each value is a number of two bytes.
abbrev pub tabled : List Point → Bool
tabled [] = true
tabled (p ∷ ps) = (ltb p.place 65_536 && ltb p.value 65_536) && tabled ps
