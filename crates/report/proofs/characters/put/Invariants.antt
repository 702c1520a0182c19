-- `characters::put` meets its contract: each byte becomes its two digits, in their places.
use Rattle.std.proofs.Common.{◌≡◌, [], ◌∷◌}
use Rattle.rules.specs.Text.{hex}
use Rattle.report.proofs.Parts.{written}
use Rattle.report.proofs.characters.put.Given as goal

-- The invariant is that the characters of the first k bytes are written, and what follows is as it was.
abbrev pub invariant-loop-k : goal.invariant-loop-k
invariant-loop-k l = l.out ≡ written (λ b. hex (b ∷ [])) 2 l.bytes l.k l.initial.out
