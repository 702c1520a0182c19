-- `roll::Rolled::period` meets its contract: halving finds the greatest n of the rules. Assumes nothing.
use mathlib.Core.Path.{◌∙◌}
use native.Mathlib.Omega.{arith}
use native.Mathlib.Nat.{mul-le-mul, mul-le-mul_left}
use Rattle.rules.specs.Roll.{q, period}
use Rattle.roll.proofs.Limits.{sized, C-to, CB-to, q_to}
use Rattle.roll.proofs.Rolled.period.Goals as goal

pub overflow_mul-q : goal.overflow_mul-q
overflow_mul-q c = omega (arith, c.coefficient.ensures, C-to _ c.args.self.c.now.fair)

pub overflow_mul-q-2 : goal.overflow_mul-q-2
overflow_mul-q-2 c = rw c.coefficient.ensures (omega (arith, CB-to _ c.args.self.c.now.fair))

pub overflow_mul-c : goal.overflow_mul-c
overflow_mul-c c = omega (arith, sized _ c.args.self.c.now.fair)

pub overflow_mul-q-3 : goal.overflow_mul-q-3
unfolding q
overflow_mul-q-3 c = rw c.coefficient.ensures (omega (arith, q_to _ c.args.self.c.now.fair))

pub overflow_mul-q-4 : goal.overflow_mul-q-4
unfolding q
overflow_mul-q-4 c =
    let f = c.args.self.c.now.fair in
    rw c.coefficient.ensures (omega (arith, mul-le-mul (mul-le-mul_left 100 (q_to _ f)) (q_to _ f)))

pub greatest_square-requires : goal.greatest_square-requires
greatest_square-requires c = omega (arith, sized _ c.args.self.c.now.fair)

pub returns : goal.returns
unfolding period q
returns c = c.greatest_square.ensures ∙ rw c.coefficient.ensures
