-- No more is held than the buffer has, which is a row's bytes.
use mathlib.Core.Path.{refl}
use borrow.Author.Rules.{rules}
use Rattle.frames.specs.Sizes.{row_bytes}
use Rattle.reading.proofs.Fronts.{held_cut}
use Rattle.reading.proofs.held.Held.new.Goals as goal

pub invariant_of-result : goal.invariant_of-result
unfolding row_bytes
invariant_of-result c = record { cut = rw c.min.ensures (held_cut c.args.bytes.now c.args.n (search rules)) }

pub returns : goal.returns
unfolding row_bytes
returns c = rw c.min.ensures (refl, refl, refl)
