-- `rounding::ceil_signed` meets its contract: the remainder says whether the machine's quotient is one short. Assumes nothing.
use mir.Syntax.{w64}
use mir.ValLaws.{to_z-of_z}
use Rattle.rounding.proofs.Quotients.{one_more, no_more, quot_fits, rem_fits, one_more_fits}
use Rattle.rounding.proofs.ceil_signed.Goals as goal

pub returns-then-a-d-gt0 : goal.returns-then-a-d-gt0
returns-then-a-d-gt0 c =
    let r = c.ranges in
    let t = simp (to_z-of_z w64 _ r.a, to_z-of_z w64 _ r.d, to_z-of_z w64 _ (rem_fits c.args.a c.args.d r.a)) at c.if-a-d-gt0.true in
    simp (to_z-of_z w64 _ r.a, to_z-of_z w64 _ r.d, to_z-of_z w64 _ (quot_fits c.args.a c.args.d r.a c.requires), to_z-of_z w64 _ (one_more_fits c.args.a c.args.d r.a c.requires t))
    (one_more c.args.a c.args.d c.requires t)

pub returns-else-a-d-gt0 : goal.returns-else-a-d-gt0
returns-else-a-d-gt0 c =
    let r = c.ranges in
    let t = simp (to_z-of_z w64 _ r.a, to_z-of_z w64 _ r.d, to_z-of_z w64 _ (rem_fits c.args.a c.args.d r.a)) at c.if-a-d-gt0.false in
    simp (to_z-of_z w64 _ r.a, to_z-of_z w64 _ r.d, to_z-of_z w64 _ (quot_fits c.args.a c.args.d r.a c.requires)) (no_more c.args.a c.args.d c.requires t)
