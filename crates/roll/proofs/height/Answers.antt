-- `roll::height` meets its contract: nothing on the way to r leaves the machine's signed numbers. Assumes nothing.
use native.Mathlib.Omega.{arith}
use mir.Syntax.{w64}
use mir.ValLaws.{to_z-of_z}
use Rattle.roll.proofs.Limits.{sized}
use Rattle.roll.proofs.Heights.{kg_back, d_back, d_above, over_fits, times_fits, sum_fits, sum_is}
use Rattle.roll.proofs.height.Goals as goal

pub overflow_mul-d : goal.overflow_mul-d
overflow_mul-d c = omega (arith, sized _ c.args.c.now.fair)

pub overflow_cast-d : goal.overflow_cast-d
overflow_cast-d c = record { sfits = omega (arith, sized _ c.args.c.now.fair) }

pub overflow_sub-over : goal.overflow_sub-over
overflow_sub-over c = let s = sized _ c.args.c.now.fair in simp (kg_back _ s, d_back _ s) (over_fits _ s)

pub overflow_mul-over : goal.overflow_mul-over
overflow_mul-over c = let s = sized _ c.args.c.now.fair in simp (kg_back _ s, d_back _ s, to_z-of_z w64 _ (over_fits _ s)) (times_fits _ s)

pub ceil_signed-requires : goal.ceil_signed-requires
ceil_signed-requires c = let s = sized _ c.args.c.now.fair in rw (d_back _ s) (d_above _ s)

pub returns : goal.returns
returns c =
    let s = sized _ c.args.c.now.fair in
    let q = simp (kg_back _ s, d_back _ s, to_z-of_z w64 _ (over_fits _ s), to_z-of_z w64 _ (times_fits _ s)) at c.ceil_signed.ensures in
    rw (to_z-of_z w64 c.ceil_signed.result (record { sfits = c.ceil_signed.type_inv }), q, to_z-of_z w64 _ (sum_fits _ s)) (sum_is _ s)
