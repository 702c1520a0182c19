-- So many bytes are read.
use Rattle.std.proofs.Common.{◌≡◌, ◌<◌, ◌^◌, take, drop}
use Rattle.rules.specs.Numbers.{num}
use Rattle.numbers.proofs.number_at.Given as goal

abbrev pub invariant-loop-i : goal.invariant-loop-i
invariant-loop-i g l = (l.number ≡ num (take l.i (drop l.at l.s))) × (l.number < 256 ^ l.i)
