-- A row's bytes are more than a head.
use native.Mathlib.Omega.{arith}
use Rattle.frames.specs.Sizes.{row_bytes}
use Rattle.reading.proofs.held.Held.too_long.Goals as goal

pub invariant_of-long : goal.invariant_of-long
unfolding row_bytes
invariant_of-long c = omega (arith, c.args.self.cut c.requires)
