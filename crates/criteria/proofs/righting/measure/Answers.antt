-- `criteria::righting::measure` meets its contract: the areas are those up to two tenths, the levers and the angle those of the curve. Assumes nothing.
use mathlib.Core.Path.{◌≡◌, ◌∙◌, ap}
use Prim.Native.Nat.{◌-◌}
use lib.IntN.{pos}
use mir.Syntax.{w64}
use mir.Facts.{to_z_pos}
use native.Mathlib.Omega.{arith}
use Rattle.rules.specs.Curve.{E}
use Rattle.rules.specs.Criteria.{angle_of_greatest}
use Rattle.rules.proofs.criteria.Angles.{angle_is}
use Rattle.curve.specs.Heeled.{heeled}
use Rattle.curve.proofs.Machine.{back}
use Rattle.curve.proofs.Curves.{fair_end}
use Rattle.criteria.proofs.Taken.{area1_is, area3_is, left_fits, left_is}
use Rattle.criteria.proofs.righting.measure.Goals as goal

pub overflow_sub-area2 : goal.overflow_sub-area2
overflow_sub-area2 c =
    let ship = heeled c.args.curve.now in
    left_fits ship c.args.curve.now.ship.now.fair (area1_is ship c.area_to-area1.ensures (rw c.flooding-flooding.ensures at c.min.ensures)) (area3_is ship c.area_to-area3.ensures (rw c.flooding-flooding.ensures at c.min-2.ensures)) c.area_to-area1.type_inv c.area_to-area3.type_inv

pub peak-at-requires : goal.peak-at-requires
peak-at-requires c = (omega arith, rw c.flooding-flooding.ensures (fair_end _ c.args.curve.now.ship.now.fair))

pub overflow_cast-angle : goal.overflow_cast-angle
unfolding angle_of_greatest
overflow_cast-angle c =
    let ship = heeled c.args.curve.now in
    let n : E ship - 0 ≡ E ship = omega arith in
    let at : c.peak-at.result ≡ angle_of_greatest ship = rw (c.flooding-flooding.ensures, n) at c.peak-at.ensures in
    record { sfits = omega (arith, at, (angle_is ship).high, fair_end _ c.args.curve.now.ship.now.fair) }

pub greatest_lever-lever-requires : goal.greatest_lever-lever-requires
unfolding angle_of_greatest
greatest_lever-lever-requires c =
    let ship = heeled c.args.curve.now in let n : E ship - 0 ≡ E ship = omega arith in (c.requires, rw (c.flooding-flooding.ensures, n) at c.peak-at.ensures)

pub returns : goal.returns
unfolding angle_of_greatest
returns c =
    let ship = heeled c.args.curve.now in
    let n : E ship - 0 ≡ E ship = omega arith in
    let first = area1_is ship c.area_to-area1.ensures (rw c.flooding-flooding.ensures at c.min.ensures) in
    let at : c.peak-at.result ≡ angle_of_greatest ship = rw (c.flooding-flooding.ensures, n) at c.peak-at.ensures in
    let third = area3_is ship c.area_to-area3.ensures (rw c.flooding-flooding.ensures at c.min-2.ensures) in λ i. record {
      area1 = (back _ c.area_to-area1.type_inv ∙ first) i;
      area2 = left_is ship c.args.curve.now.ship.now.fair first third c.area_to-area1.type_inv c.area_to-area3.type_inv i;
      area3 = (back _ c.area_to-area3.type_inv ∙ third) i;
      lever = (back _ c.greatest_lever-lever.type_inv ∙ c.greatest_lever-lever.ensures) i;
      angle = (to_z_pos w64 (omega (arith, at, (angle_is ship).high, fair_end _ c.args.curve.now.ship.now.fair)) ∙ ap pos at) i;
      gm = (back _ c.gm-gm.type_inv ∙ c.gm-gm.ensures) i;
    }
