-- `curve::levers::each_tenth` meets its contract: the tenths passed are filled, and the last one was from the start. Assumes nothing.
use mathlib.Core.Logic.{⊎_elim}
use mathlib.Core.Path.{◌≡◌, ◌∙◌}
use Prim.Native.Nat.{◌+◌, ◌/◌}
use native.Mathlib.Nat.{eq-or-lt_of_le}
use native.Mathlib.Omega.{arith}
use lib.ListN.{get_or, length-set}
use lib.Seq.{get_or-set_other, get_or-set_same}
use lib.IntN.{pos}
use borrow.Author.Rules.{rules}
use Rattle.curve.specs.Levers.{straight}
use Rattle.curve.proofs.Machine.{back, near}
use Rattle.curve.proofs.Straight.{straight_end}
use Rattle.curve.proofs.Filling.{filled_none, filled_more}
use Rattle.curve.proofs.levers.each_tenth.Goals as goal

pub fifty-end-requires : goal.fifty-end-requires
fifty-end-requires c =
    let g = c.args.g in
    (near (get_or g 11 (pos 0)) _ (omega arith) (c.requires 11), near (get_or g 12 (pos 0)) _ (omega arith) (c.requires 12), omega arith)

pub loop-t-init : goal.loop-t-init
loop-t-init c =
    let g = c.args.g in
    let e = simp (back (get_or g 11 (pos 0)) (omega arith), back (get_or g 12 (pos 0)) (omega arith)) at c.fifty-end.ensures in
    (simp length-set (search rules), filled_none _ _ _, get_or-set_same c.args.y.now 600 _ (pos 0) (search rules) ∙ back c.fifty-end.result c.fifty-end.type_inv ∙ e ∙ straight_end g)

pub fifty-requires : goal.fifty-requires
fifty-requires c =
    let g = c.args.g in
    let i = c.loop-t.t / 50 in
    (near (get_or g i (pos 0)) _ (omega arith) (c.requires i), near (get_or g (i + 1) (pos 0)) _ (omega arith) (c.requires (i + 1)), omega arith)

pub loop-t-preserved : goal.loop-t-preserved
unfolding straight
loop-t-preserved c =
    let g = c.args.g in
    let i = c.loop-t.t / 50 in
    let e = simp (back (get_or g i (pos 0)) (omega arith), back (get_or g (i + 1) (pos 0)) (omega arith)) at c.fifty.ensures in (
      simp length-set c.loop-t.invariant.0,
      filled_more _ _ _ _ _ (search rules) c.loop-t.invariant.1 (back c.fifty.result c.fifty.type_inv ∙ e),
      get_or-set_other c.loop-t.y c.loop-t.t 600 _ (pos 0) (λ q. absurd (omega arith)) ∙ c.loop-t.invariant.2,
    )

pub returns : goal.returns
returns c =
    let l = c.loop-t in
    let e : l.t ≡ 600 = omega arith in
    record {
      long = l.invariant.0;
      at = λ t h. ⊎_elim (λ q. rw q l.invariant.2) (λ q. l.invariant.1.at t (omega arith)) (eq-or-lt_of_le h);
    }
