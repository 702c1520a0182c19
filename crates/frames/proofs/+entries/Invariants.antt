-- What is left of the entries comes to the same, on top of the sums so far; less is left from turn to turn.
use lib.ListN.{length}
use Rattle.frames.proofs.Load.{Left}
use Rattle.frames.proofs.+entries.Given as goal

abbrev pub decreases-entries : goal.decreases-entries
decreases-entries l = l.depth

abbrev pub invariant-loop-rest : goal.invariant-loop-rest
invariant-loop-rest l = Left l.depth l.fn.t l.fn.reader l.sums l.rest

abbrev pub decreases-loop-rest : goal.decreases-loop-rest
decreases-loop-rest l = length l.rest.src.now
