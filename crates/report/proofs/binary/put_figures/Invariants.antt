-- `binary::put_figures` meets its contract: each figure stands in its own eight bytes, in order.
use Rattle.std.proofs.Common.{◌≡◌}
use Rattle.rules.specs.Numbers.{digits, twos}
use Rattle.report.proofs.Parts.{written}
use Rattle.report.proofs.binary.put_figures.Given as goal

-- The invariant is that the parts of the first k figures are written, and what follows is as it was.
abbrev pub invariant-loop-k : goal.invariant-loop-k
invariant-loop-k l = l.body ≡ written (λ z. digits 8 (twos z)) 8 l.figure-items l.k l.initial.body
