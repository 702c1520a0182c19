-- `criteria::righting::greatest_lever` meets its contract: the lever at 5's angle, or at the peak from where the set looks. Assumes nothing.
use mathlib.Core.Path.{ap, sym, ◌∙◌}
use Prim.Native.Nat.{ℕ, ◌-◌}
use native.Mathlib.Omega.{arith}
use lib.IntN.{pos}
use Rattle.rules.specs.Curve.{y, E}
use Rattle.rules.proofs.rounding.Searches.{peak_is}
use Rattle.rules.proofs.criteria.Angles.{angle_is, greatest_none, lever_at_angle}
use Rattle.curve.specs.Heeled.{heeled}
use Rattle.curve.proofs.Machine.{back}
use Rattle.curve.proofs.Curves.{fair_end}
use Rattle.criteria.proofs.Taken.{looked}
use Rattle.criteria.proofs.righting.greatest_lever.Goals as goal

pub y-requires : goal.y-requires
y-requires c =
    omega (arith, c.requires.1, (angle_is (heeled c.args.curve.now)).high, fair_end _ c.args.curve.now.ship.now.fair)

pub returns-then-from-angle : goal.returns-then-from-angle
returns-then-from-angle c =
    let ship = heeled c.args.curve.now in
    back c.y.result c.y.type_inv ∙ c.y.ensures ∙ ap (λ (t : ℕ). y ship (pos t)) c.requires.1 ∙ sym (lever_at_angle ship (omega (arith, c.requires.0, c.requires.1, c.if-from-angle.true)))

-- ---- before it
pub returns-then-flooding-from : goal.returns-then-flooding-from
returns-then-flooding-from c = sym (greatest_none _ (rw (← c.requires.0, ← c.flooding-flooding.ensures) c.if-flooding-from.true))

pub peak-at-requires : goal.peak-at-requires
peak-at-requires c = (c.if-flooding-from.false, rw c.flooding-flooding.ensures (fair_end _ c.args.curve.now.ship.now.fair))

pub y-requires-2 : goal.y-requires-2
y-requires-2 c =
    let ship = heeled c.args.curve.now in
    omega (arith, c.flooding-flooding.ensures, rw c.flooding-flooding.ensures at c.peak-at.ensures, (peak_is (λ t. y ship (pos t)) c.args.from (E ship - c.args.from)).high, fair_end _ c.args.curve.now.ship.now.fair, c.if-flooding-from.false)

pub returns : goal.returns
returns c =
    let ship = heeled c.args.curve.now in
    back c.y-2.result c.y-2.type_inv ∙ c.y-2.ensures ∙ ap (λ (t : ℕ). y ship (pos t)) (rw c.flooding-flooding.ensures at c.peak-at.ensures) ∙ looked ship c.args.from c.requires.0 (rw c.flooding-flooding.ensures at c.if-flooding-from.false)
