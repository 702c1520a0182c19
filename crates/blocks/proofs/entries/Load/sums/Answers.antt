-- `sums` meets its contract: mass, moment and free surface, within what fits the machine's number.
use Rattle.blocks.proofs.Limits.{limits_load, limits_tank, sums_none, sums_some}
use Rattle.blocks.proofs.entries.Load.sums.Goals as goal
use Rattle.blocks.proofs.entries.Load.sums.Goals.{in-None, in-Some}

pub free_surface-free-requires : goal.free_surface-free-requires
free_surface-free-requires c = limits_tank c.args.self c.in-Some.tank c.requires c.in-Some.is

pub moment-requires : goal.moment-requires
moment-requires c = limits_load c.args.self c.requires

pub returns : goal.returns
returns c k v e = rw c.moment.ensures (elim c.match-self.branch [
  | in-None w ↦ sums_none c.args.self k v e c.match-self.free w.in-None.is w.free-is
  | in-Some w ↦ sums_some c.args.self k v e c.match-self.free w.in-Some.tank w.in-Some.is (rw w.free-is w.free_surface-free.ensures)
])
