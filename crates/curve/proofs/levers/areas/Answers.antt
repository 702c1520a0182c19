-- `curve::levers::areas` meets its contract: the areas up to the tenths passed are filled. Assumes nothing.
use mathlib.Core.Path.{◌≡◌, sym, ◌∙◌}
use Prim.Native.Nat.{ℕ, ◌+◌, ◌^◌, ◌<◌}
use native.Mathlib.Omega.{arith}
use lib.ListN.{get_or, length-set}
use lib.Seq.{get_or-set_same}
use borrow.Author.Rules.{rules}
use lib.IntN.{ℤ, pos, ◌+ℤ◌}
use lib.Signed.{mag}
use mathlib.Core.List.{List}
use mir.Syntax.{w64}
use mir.Val.{SFits, to_z, of_z}
use Rattle.curve.specs.Levers.{most_y, Within, held, up_to}
use Rattle.curve.proofs.Sizes.{abs_add, mag_abs, areas_within}
use Rattle.curve.proofs.Machine.{pair_fits, running_fits, running_sum}
use Rattle.curve.proofs.Areas.{up_to_none, up_to_more}
use Rattle.curve.proofs.Filling.{Filled, filled_more}
use Rattle.curve.proofs.levers.areas.Goals as goal

-- The area so far, y at two tenths, and the area up to the second.
module _ (ys sums : List ℤ) (t : ℕ) (small : Within most_y ys) (h : t < 600) (filled : Filled (pos 0) (up_to (held ys)) (t + 1) sums) where
  abbrev s : ℤ
  s = get_or sums t (pos 0)

  abbrev a : ℤ
  a = get_or ys t (pos 0)

  abbrev b : ℤ
  b = get_or ys (t + 1) (pos 0)

  grown : s +ℤ (a +ℤ b) ≡ up_to (held ys) (t + 1)
  unfolding held
  grown = rw (up_to_more (held ys) t, filled.at t (omega arith))

  so_far : mag s < 2 ^ 63
  unfolding held
  so_far = rw (filled.at t (omega arith)) (omega (arith, mag_abs (up_to (held ys) t), areas_within (held ys) t (λ k l. small k)))

  first : mag a < 2 ^ 63
  first = omega (arith, mag_abs a, small t)

  second : mag b < 2 ^ 63
  second = omega (arith, mag_abs b, small (t + 1))

  pair : mag (a +ℤ b) < 2 ^ 63
  pair = omega (arith, mag_abs (a +ℤ b), abs_add a b, small t, small (t + 1))

  all : mag (s +ℤ (a +ℤ b)) < 2 ^ 63
  unfolding held
  all = rw grown (omega (arith, mag_abs (up_to (held ys) (t + 1)), areas_within (held ys) (t + 1) (λ k l. small k)))

  pair_there : SFits w64 (to_z w64 (of_z w64 a) +ℤ to_z w64 (of_z w64 b))
  pair_there = pair_fits s a b so_far first second pair all

  sum_there : SFits w64 (to_z w64 (of_z w64 s) +ℤ to_z w64 (of_z w64 (to_z w64 (of_z w64 a) +ℤ to_z w64 (of_z w64 b))))
  sum_there = running_fits s a b so_far first second pair all

  sum_is : to_z w64 (of_z w64 (to_z w64 (of_z w64 s) +ℤ to_z w64 (of_z w64 (to_z w64 (of_z w64 a) +ℤ to_z w64 (of_z w64 b))))) ≡ up_to (held ys) (t + 1)
  sum_is = running_sum s a b so_far first second pair all ∙ grown

pub loop-t-init : goal.loop-t-init
loop-t-init c = (simp length-set (search rules), record { at = λ k h. let e : k ≡ 0 = omega arith in rw e (get_or-set_same c.args.area.now 0 (pos 0) (pos 0) (search rules) ∙ sym (up_to_none (held c.args.y.now))) })

pub loop-t-preserved : goal.loop-t-preserved
loop-t-preserved c =
    let l = c.loop-t in
    (simp length-set l.invariant.0, filled_more _ _ _ _ _ (omega arith) l.invariant.1 (sum_is c.args.y.now l.area l.t c.requires (omega arith) l.invariant.1))

pub overflow_add-area-in-loop-t : goal.overflow_add-area-in-loop-t
overflow_add-area-in-loop-t c = let l = c.loop-t in pair_there c.args.y.now l.area l.t c.requires (omega arith) l.invariant.1

pub overflow_add-area-in-loop-t-2 : goal.overflow_add-area-in-loop-t-2
overflow_add-area-in-loop-t-2 c = let l = c.loop-t in sum_there c.args.y.now l.area l.t c.requires (omega arith) l.invariant.1

pub returns : goal.returns
returns c = let l = c.loop-t in record { long = l.invariant.0; at = λ t h. l.invariant.1.at t (omega arith) }
