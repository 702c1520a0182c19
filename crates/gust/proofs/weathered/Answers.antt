-- `gust::weathered` meets its contract: the roll says whether the criterion is judged. Assumes nothing.
use mathlib.Core.Path.{sym, ◌∙◌}
use native.Mathlib.Omega.{arith}
use Rattle.roll.proofs.Angles.{angle_range}
use Rattle.curve.specs.Heeled.{heeled}
use Rattle.gust.specs.Gusts.{Blown, gust_of}
use Rattle.gust.proofs.Machine.{seen, counted}
use Rattle.gust.proofs.Eighth.{no_roll, rolls, fails, nets}
use Rattle.gust.proofs.Angles.{net_within}
use Rattle.gust.proofs.weathered.Goals as goal

pub returns-in_default : goal.returns-in_default
unfolding gust_of
returns-in_default c = rw (no_roll _ (sym c.rolling.ensures ∙ c.in_default.is))

pub overflow_cast-roll : goal.overflow_cast-roll
overflow_cast-roll c = let r = rolls _ _ (sym c.rolling.ensures ∙ c.in-Some.is) in record { sfits = omega (arith, r.1, angle_range _ r.0) }

pub withstood-requires : goal.withstood-requires
withstood-requires c =
    let r = rolls _ _ (sym c.rolling.ensures ∙ c.in-Some.is) in
    (r.0, c.requires, counted _ _ r.1 (omega (arith, angle_range _ r.0)))

pub returns-in-Some-withstood : goal.returns-in-Some-withstood
unfolding gust_of
returns-in-Some-withstood c =
    let r = rolls _ _ (sym c.rolling.ensures ∙ c.in-Some.is) in
    let n = nets _ _ (sym c.withstood.ensures ∙ c.in-Some-withstood.is) in
    let b : Blown (heeled c.args.curve.now) = record { fair = c.args.curve.now.ship.now.fair; judged = r.0; met = n.0 } in
    rw (r.0, n.0, counted _ _ r.1 (omega (arith, angle_range _ r.0)), seen _ _ n.1 (net_within _ b))

pub returns-in-None : goal.returns-in-None
unfolding gust_of
returns-in-None c = rw ((rolls _ _ (sym c.rolling.ensures ∙ c.in-Some.is)).0, fails _ (sym c.withstood.ensures ∙ c.in-None.is))
