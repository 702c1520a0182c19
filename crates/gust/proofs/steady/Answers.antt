-- `gust::steady` meets its contract: the levers are the rules', and phi0 is where the curve reaches lw1. Assumes nothing.
use mathlib.Core.Path.{ap, ◌∙◌}
use native.Mathlib.Omega.{arith}
use Rattle.rules.specs.Loading.{tenths}
use Rattle.rules.specs.Criteria.{units, lw1, lw2, phi0}
use Rattle.curve.proofs.Curves.{fair_end}
use Rattle.curve.specs.Heeled.{heeled}
use Rattle.roll.specs.declared.WindLevers.{WindLevers}
use Rattle.roll.proofs.Limits.{lw1_to, lw2_to}
use Rattle.gust.proofs.Machine.{seen}
use Rattle.gust.proofs.steady.Goals as goal

pub units-lw1-requires : goal.units-lw1-requires
units-lw1-requires c = rw c.wind_levers-levers.ensures (omega (arith, lw1_to _ c.args.curve.now.ship.now.fair))

pub units-lw2-requires : goal.units-lw2-requires
units-lw2-requires c = rw c.wind_levers-levers.ensures (omega (arith, lw2_to _ c.args.curve.now.ship.now.fair))

pub reaches-phi0-requires : goal.reaches-phi0-requires
reaches-phi0-requires c = rw c.flooding.ensures (fair_end _ c.args.curve.now.ship.now.fair)

pub returns : goal.returns
unfolding phi0
returns c =
    let l = heeled c.args.curve.now in
    let f = c.args.curve.now.ship.now.fair in
    let one = seen _ (units tenths (lw1 l)) (c.units-lw1.ensures ∙ ap (λ (w : WindLevers). units tenths w.lw1) c.wind_levers-levers.ensures) (omega (arith, lw1_to _ f)) in
    let two = seen _ (units tenths (lw2 l)) (c.units-lw2.ensures ∙ ap (λ (w : WindLevers). units tenths w.lw2) c.wind_levers-levers.ensures) (omega (arith, lw2_to _ f)) in
    rw (c.reaches-phi0.ensures, one, two, c.flooding.ensures)
