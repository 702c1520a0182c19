-- `gust::withstood` meets its contract: phi0, u and e are the rules', and there is no net area exactly where there is no phi0 or no u. Assumes nothing.
use mathlib.Core.Path.{sym, ◌∙◌}
use native.Mathlib.Omega.{arith}
use mir.Syntax.{w64}
use mir.ValLaws.{to_z-of_z}
use Rattle.roll.proofs.Angles.{angle_range}
use Rattle.gust.specs.Gusts.{withstood_of}
use Rattle.gust.proofs.Machine.{seen}
use Rattle.gust.proofs.Angles.{net_within}
use Rattle.gust.proofs.Steps.{lw1_seen, lw2_seen, none_heeled, heeled_at, none_met, met_at, blown, levelled, stayed}
use Rattle.gust.proofs.withstood.Goals as goal

pub returns-in_err-phi0 : goal.returns-in_err-phi0
unfolding withstood_of
returns-in_err-phi0 c = rw (none_heeled c.args.curve.now _ c.requires.1 c.in_err-phi0.was) c.from_residual.ensures

pub returns-in_err-u : goal.returns-in_err-u
unfolding withstood_of
returns-in_err-u c =
    let far = rw c.flooding.ensures at c.min-far.ensures in
    rw (none_met c.args.curve.now _ c.requires.1 _ c.in_ok-phi0.was _ far (sym c.reaches.ensures ∙ c.in_err-u.was)) c.from_residual-in_err-u.ensures

pub stays-e-requires : goal.stays-e-requires
stays-e-requires c =
    let far = rw c.flooding.ensures at c.min-far.ensures in
    let found = sym c.reaches.ensures ∙ c.in_ok-u.was in
    let m = met_at c.args.curve.now _ c.requires.1 _ c.in_ok-phi0.was _ far _ found in
    (omega arith, omega arith, levelled c.args.curve.now _ c.requires.1 _ c.in_ok-phi0.was _ far _ found)

pub start-from-requires : goal.start-from-requires
start-from-requires c =
    let k = c.args.curve.now in
    let far = rw c.flooding.ensures at c.min-far.ensures in
    let b = blown k _ c.requires.1 _ c.in_ok-phi0.was _ far _ (sym c.reaches.ensures ∙ c.in_ok-u.was) c.requires.0 in
    (b, lw1_seen k _ c.requires.1, (heeled_at k _ c.requires.1 _ c.in_ok-phi0.was).0, seen _ _ c.requires.2 (omega (arith, angle_range _ c.requires.0)))

pub net-requires : goal.net-requires
net-requires c =
    let k = c.args.curve.now in
    let far = rw c.flooding.ensures at c.min-far.ensures in
    let found = sym c.reaches.ensures ∙ c.in_ok-u.was in
    let b = blown k _ c.requires.1 _ c.in_ok-phi0.was _ far _ found c.requires.0 in
    (b, lw2_seen k _ c.requires.1, to_z-of_z w64 _ (record { sfits = c.start-from.type_inv }) ∙ c.start-from.ensures, c.stays-e.ensures ∙ stayed k _ c.requires.1 _ c.in_ok-phi0.was _ far _ found)

pub returns : goal.returns
unfolding withstood_of
returns c =
    let k = c.args.curve.now in
    let far = rw c.flooding.ensures at c.min-far.ensures in
    let b = blown k _ c.requires.1 _ c.in_ok-phi0.was _ far _ (sym c.reaches.ensures ∙ c.in_ok-u.was) c.requires.0 in
    rw (b.met, seen _ _ c.net.ensures (net_within _ b))
