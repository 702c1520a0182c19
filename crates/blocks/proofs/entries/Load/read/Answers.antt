-- `read` meets its contract: mass and centre, which each kind has, and what is in a tank.
use native.Mathlib.Omega.{arith}
use Rattle.rules.specs.Blocks.{size}
use Rattle.blocks.specs.BlockAnswers.{tank_kind_of}
use Rattle.blocks.proofs.Values.{item_values, tank_values, six_bytes}
use Rattle.blocks.proofs.entries.Load.read.Goals as goal
use Rattle.blocks.proofs.entries.Load.read.Goals.{in-Item, in-Tank}

pub read-requires : goal.read-requires
unfolding size
read-requires c = rw c.in-Tank.is at c.requires

pub number_at-requires-clause-inside : goal.number_at-requires-clause-inside
number_at-requires-clause-inside c = omega (arith, six_bytes c.args.kind, c.requires)

pub number_at-requires-2-clause-inside : goal.number_at-requires-2-clause-inside
number_at-requires-2-clause-inside c = omega (arith, six_bytes c.args.kind, c.requires)

pub returns : goal.returns
returns c = elim c.match-kind.branch [
  | in-Item w ↦ rw (c.number_at.ensures.value, c.number_at-2.ensures.value, w.contents-is, w.in-Item.is, item_values c.args.body.now)
  | in-Tank w ↦ rw (c.number_at.ensures.value, c.number_at-2.ensures.value, w.contents-is, w.read.ensures, w.in-Tank.is, tank_values c.args.body.now (tank_kind_of w.in-Tank.k))
]
