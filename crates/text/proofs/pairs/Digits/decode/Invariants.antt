-- The pairs before n are decoded, the others are still to come.
use Rattle.text.proofs.Decoded.{Going}
use Rattle.text.proofs.pairs.Digits.decode.Given as goal

abbrev pub invariant-loop-n : goal.invariant-loop-n
invariant-loop-n l = Going l.text l.initial.out l.out l.n
