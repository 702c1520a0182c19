-- The pairs before n are decoded, the others are still to come.
use mathlib.Core.Path.{◌≡◌, sym, ◌∙◌}
use native.Mathlib.Omega.{arith}
use Rattle.text.proofs.Decoded.{going_none, going_more, going_done, going_end, no_pair}
use Rattle.text.proofs.pairs.Digits.decode.Goals as goal

pub loop-n-init : goal.loop-n-init
loop-n-init c = going_none _ _

pub returns-in_default : goal.returns-in_default
returns-in_default c =
    let m = c.min-most.ensures in
    let n = c.loop-n-test.true in
    going_done c.loop-n.invariant (omega (arith, m, n, c.loop-n.invariant.room)) (no_pair _ c.loop-n.n (omega (arith, m, n)) (sym c.pair.ensures ∙ c.in_default.is))

pub loop-n-preserved : goal.loop-n-preserved
loop-n-preserved c =
    let m = c.min-most.ensures in
    let n = c.loop-n-test.true in
    going_more c.loop-n.invariant _ (omega (arith, m, n)) (omega (arith, m, n, c.loop-n.invariant.room)) (sym c.pair.ensures ∙ c.in-Some.is)

pub returns : goal.returns
returns c =
    let whole : c.loop-n.n ≡ c.min-most.result = omega (arith, c.loop-n-test.false) in
    let p = going_end c.loop-n.invariant (omega (arith, c.min-most.ensures, c.loop-n.invariant.room, whole)) in
    (sym whole ∙ p.0, p.1)
