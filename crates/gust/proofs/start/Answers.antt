-- `gust::start` meets its contract: whether y has passed lw1 at phi0 is the rules' test, and each difference is the rules'. Assumes nothing.
use mathlib.Core.Path.{ap, ◌∙◌}
use Prim.Native.Nat.{ℕ}
use native.Mathlib.Omega.{arith}
use lib.IntN.{pos}
use mir.Syntax.{w64}
use mir.ValLaws.{to_z-of_z}
use Rattle.rules.specs.Curve.{y}
use Rattle.curve.specs.Heeled.{heeled}
use Rattle.roll.proofs.Limits.{lw1_to}
use Rattle.gust.proofs.Machine.{seen, counted}
use Rattle.gust.proofs.Angles.{heel_to, roll_to, start_there, start_before, heel_fits, before_fits, rolled_fits}
use Rattle.gust.proofs.start.Goals as goal

pub overflow_cast-heel : goal.overflow_cast-heel
overflow_cast-heel c = record { sfits = omega (arith, c.requires.2, heel_to _ c.requires.0) }

pub y-requires : goal.y-requires
y-requires c = omega (arith, c.requires.2, heel_to _ c.requires.0)

pub overflow_sub-result : goal.overflow_sub-result
overflow_sub-result c = let b = c.requires.0 in rw (counted _ _ c.requires.2 (omega (arith, heel_to _ b)), seen _ _ c.requires.3 (omega (arith, roll_to _ b))) (heel_fits _ b)

pub returns-then-y-lw1 : goal.returns-then-y-lw1
returns-then-y-lw1 c =
    let b = c.requires.0 in
    let here = to_z-of_z w64 c.y.result (record { sfits = c.y.type_inv }) ∙ c.y.ensures ∙ ap (λ (t : ℕ). y (heeled c.args.curve.now) (pos t)) c.requires.2 in
    rw (counted _ _ c.requires.2 (omega (arith, heel_to _ b)), seen _ _ c.requires.3 (omega (arith, roll_to _ b)), to_z-of_z w64 _ (heel_fits _ b))
    (start_there _ (rw (here, seen _ _ c.requires.1 (omega (arith, lw1_to _ b.fair))) at c.if-y-lw1.true))

pub overflow_sub-result-else-y-lw1 : goal.overflow_sub-result-else-y-lw1
overflow_sub-result-else-y-lw1 c = let b = c.requires.0 in rw (counted _ _ c.requires.2 (omega (arith, heel_to _ b))) (before_fits _ b)

pub overflow_sub-result-else-y-lw1-2 : goal.overflow_sub-result-else-y-lw1-2
overflow_sub-result-else-y-lw1-2 c =
    let b = c.requires.0 in
    rw (counted _ _ c.requires.2 (omega (arith, heel_to _ b)), seen _ _ c.requires.3 (omega (arith, roll_to _ b)), to_z-of_z w64 _ (before_fits _ b)) (rolled_fits _ b)

pub returns-else-y-lw1 : goal.returns-else-y-lw1
returns-else-y-lw1 c =
    let b = c.requires.0 in
    let here = to_z-of_z w64 c.y.result (record { sfits = c.y.type_inv }) ∙ c.y.ensures ∙ ap (λ (t : ℕ). y (heeled c.args.curve.now) (pos t)) c.requires.2 in
    rw (counted _ _ c.requires.2 (omega (arith, heel_to _ b)), seen _ _ c.requires.3 (omega (arith, roll_to _ b)), to_z-of_z w64 _ (before_fits _ b), to_z-of_z w64 _ (rolled_fits _ b))
    (start_before _ (rw (here, seen _ _ c.requires.1 (omega (arith, lw1_to _ b.fair))) at c.if-y-lw1.false))
