-- `levers` meets its contract: value after value is stored, so that after i turns the first i are the row's.
use mathlib.Core.Path.{◌≡◌, refl, ◌∙◌}
use native.Mathlib.Omega.{arith}
use lib.ListN.{length-set}
use Rattle.blocks.proofs.Stations.{written, written_more, levers_row}
use Rattle.blocks.proofs.row.levers.Goals as goal

pub loop-i-init : goal.loop-i-init
unfolding written
loop-i-init c = (refl, refl)

pub loop-i-preserved : goal.loop-i-preserved
loop-i-preserved c = (simp length-set c.loop-i.invariant.0, written_more _ _ _ _ _ c.loop-i.invariant.1 c.number_at.ensures.value)

pub returns : goal.returns
returns c =
    let e : c.loop-i.i ≡ 13 = omega arith in
    rw e at c.loop-i.invariant.1 ∙ levers_row _
