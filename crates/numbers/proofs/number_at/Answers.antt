-- One byte more, within the machine's number.
use Rattle.std.proofs.Common.{◌≡◌, ◌+◌, get_or, rules, arith, add-one, ap, ◌∙◌, refl}
use Rattle.rules.specs.Numbers.{num}
use Rattle.numbers.proofs.Bytes.{num_next, next_lt, within}
use Rattle.numbers.proofs.number_at.Goals as goal

pub loop-i-init : goal.loop-i-init
unfolding num
loop-i-init g c = (refl, omega arith)

pub overflow_mul-number : goal.overflow_mul-number
overflow_mul-number g c = omega (arith, within c.loop-i.i c.loop-i.number 0 (omega arith) c.loop-i.invariant.1 (omega arith))

pub overflow_add-number : goal.overflow_add-number
overflow_add-number g c = omega (arith, within c.loop-i.i c.loop-i.number c.from.result (omega arith) c.loop-i.invariant.1 (search rules))

pub loop-i-preserved : goal.loop-i-preserved
loop-i-preserved g c =
    let byte : c.from.result ≡ get_or c.args.s.now (c.args.at + c.loop-i.i) 0 = c.from.ensures ∙ ap (λ k. get_or c.args.s.now k 0) (omega arith) in (
      rw (add-one c.loop-i.i, num_next c.args.s.now c.args.at c.loop-i.i (omega arith), byte, c.loop-i.invariant.0) refl,
      next_lt c.loop-i.i c.loop-i.number c.from.result c.loop-i.invariant.1 (search rules),
    )
