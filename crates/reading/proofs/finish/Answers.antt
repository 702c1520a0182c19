-- The text is read as a whole, where no 25th condition line has come.
use mathlib.Core.Path.{refl}
use Rattle.frames.specs.Sizes.{ship_bytes, row_bytes}
use Rattle.reading.proofs.finish.Goals as goal

pub returns-in-Conditions : goal.returns-in-Conditions
unfolding row_bytes ship_bytes
returns-in-Conditions c = rw (c.len.ensures.value, c.in-Conditions.is, c.in_default.is) refl
