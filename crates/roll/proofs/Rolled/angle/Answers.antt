-- `roll::Rolled::angle` meets its contract: the least m is one past the greatest whose square falls short. Assumes nothing.
use Prim.Native.Nat.{◌^◌}
use native.Mathlib.Omega.{arith}
use Rattle.rules.specs.Roll.{s, phi1}
use Rattle.rules.proofs.criteria.Roll.{product}
use Rattle.rules.proofs.criteria.Ranges.{p_range, judged, product_from}
use Rattle.book.specs.Book.{loaded_of}
use Rattle.roll.proofs.LeastSquare.{least_square}
use Rattle.roll.proofs.Angles.{r_size, pp_to, ppr_to, product_to, angle_range}
use Rattle.roll.proofs.Rolled.angle.Goals as goal

pub overflow_mul-product-2 : goal.overflow_mul-product-2
overflow_mul-product-2 c = rw c.factor-p.ensures (omega (arith, p_range (loaded_of c.args.self.c.now.loaded)))

pub overflow_mul-product-3 : goal.overflow_mul-product-3
overflow_mul-product-3 c = rw c.factor-p.ensures (omega (arith, pp_to _ c.requires.0))

pub overflow_mul-product-4 : goal.overflow_mul-product-4
overflow_mul-product-4 c = rw (c.factor-p.ensures, r_size (loaded_of c.args.self.c.now.loaded) _ _ c.height.type_inv c.height.ensures c.unsigned_abs-r.ensures.value) (omega (arith, ppr_to _ c.requires.0))

pub overflow_mul-product-5 : goal.overflow_mul-product-5
unfolding s
overflow_mul-product-5 c = rw (c.factor-p.ensures, r_size (loaded_of c.args.self.c.now.loaded) _ _ c.height.type_inv c.height.ensures c.unsigned_abs-r.ensures.value, c.table_up-s.ensures, c.requires.1) (omega (arith, product_to _ c.requires.0))

pub overflow_sub-product : goal.overflow_sub-product
unfolding s
overflow_sub-product c = rw (c.factor-p.ensures, r_size (loaded_of c.args.self.c.now.loaded) _ _ c.height.type_inv c.height.ensures c.unsigned_abs-r.ensures.value, c.table_up-s.ensures, c.requires.1) (omega (arith, product_from _ (judged _ c.requires.0)))

pub overflow_add-result : goal.overflow_add-result
unfolding phi1 s
overflow_add-result c =
    rw (c.greatest_square.ensures, c.factor-p.ensures, r_size (loaded_of c.args.self.c.now.loaded) _ _ c.height.type_inv c.height.ensures c.unsigned_abs-r.ensures.value, c.table_up-s.ensures, c.requires.1)
    (omega (arith, least_square (10 ^ 13) (product (loaded_of c.args.self.c.now.loaded)) (omega (arith, product_from _ (judged _ c.requires.0))) 599, angle_range _ c.requires.0))

pub returns : goal.returns
unfolding phi1 s
returns c =
    rw (c.greatest_square.ensures, c.factor-p.ensures, r_size (loaded_of c.args.self.c.now.loaded) _ _ c.height.type_inv c.height.ensures c.unsigned_abs-r.ensures.value, c.table_up-s.ensures, c.requires.1)
    (least_square (10 ^ 13) (product (loaded_of c.args.self.c.now.loaded)) (omega (arith, product_from _ (judged _ c.requires.0))) 599)
