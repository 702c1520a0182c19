-- `roll::rolling` meets its contract: each way out is one of the rules. Assumes nothing.
use mathlib.Core.Path.{◌∙◌, sym}
use native.Mathlib.Omega.{arith}
use Rattle.roll.specs.Rolls.{roll_of}
use Rattle.roll.proofs.Judged.{off, slow, swift, stable}
use Rattle.roll.proofs.rolling.Goals as goal

pub returns-then-outside : goal.returns-then-outside
unfolding roll_of
returns-then-outside c = rw (off _ (sym c.outside.ensures ∙ c.if-outside.true))

pub period-n-requires : goal.period-n-requires
period-n-requires c = rw c.new-ship.ensures (stable _ (sym c.outside.ensures ∙ c.if-outside.false))

pub returns-then-n-ge2000 : goal.returns-then-n-ge2000
unfolding roll_of
returns-then-n-ge2000 c = rw (slow _ (sym c.outside.ensures ∙ c.if-outside.false) (omega (arith, rw c.new-ship.ensures at c.period-n.ensures, c.if-n-ge2000.true)))

pub angle-requires : goal.angle-requires
angle-requires c = (rw c.new-ship.ensures (swift _ (sym c.outside.ensures ∙ c.if-outside.false) (omega (arith, rw c.new-ship.ensures at c.period-n.ensures, c.if-n-ge2000.false))), c.period-n.ensures)

pub returns : goal.returns
unfolding roll_of
returns c = rw (swift _ (sym c.outside.ensures ∙ c.if-outside.false) (omega (arith, rw c.new-ship.ensures at c.period-n.ensures, c.if-n-ge2000.false)), c.angle.ensures, c.new-ship.ensures)
