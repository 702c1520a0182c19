-- The table that stands in the code is that of the digits.
use mathlib.Core.Path.{refl}
use Rattle.rules.specs.Text.{digit}
use Rattle.text.specs.Line.{digits_up_to}
use Rattle.text.proofs.Digits.{has_digits}
use Rattle.text.proofs.pairs.Digits.new.Goals as goal

pub invariant_of-result : goal.invariant_of-result
unfolding digits_up_to digit
invariant_of-result c = record { all = has_digits _ refl }
