-- `curve::Curve::peak` meets its contract: `best` is the first with the greatest lever of the tenths passed. Assumes nothing.
use Rattle.std.proofs.Common.{◌∙◌, true, false, arith}
use Rattle.curve.proofs.Machine.{tested_below}
use Rattle.curve.proofs.Steps.{peak_starts, peak_moves, peak_keeps}
use Rattle.curve.proofs.tenths.Curve.peak.Goals.{then-y, else-y}
use Rattle.curve.proofs.tenths.Curve.peak.Goals as goal

pub loop-t-init : goal.loop-t-init
loop-t-init c = (c.requires.0, peak_starts _ _)

pub loop-t-preserved : goal.loop-t-preserved
loop-t-preserved c =
    elim c.if-y.branch [
      | then-y w ↦ (omega (arith, w.best-is), w.best-is ∙ peak_moves _ _ _ _ (omega arith) c.loop-t.invariant.1 (rw (c.y.ensures, c.y-in-loop-t.ensures) at (tested_below c.y.result c.y-in-loop-t.result true c.y.type_inv c.y-in-loop-t.type_inv w.if-y.true)))
      | else-y w ↦ (omega (arith, w.best-is), w.best-is ∙ peak_keeps _ _ _ _ (omega arith) c.loop-t.invariant.1 (rw (c.y.ensures, c.y-in-loop-t.ensures) at (tested_below c.y.result c.y-in-loop-t.result false c.y.type_inv c.y-in-loop-t.type_inv w.if-y.false)))
    ]
