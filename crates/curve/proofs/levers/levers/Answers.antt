-- `curve::levers::levers` meets its contract: the stations passed are filled. Assumes nothing.
use mathlib.Core.Path.{◌≡◌, refl, ◌∙◌}
use native.Mathlib.Omega.{arith}
use lib.ListN.{length-set}
use lib.IntN.{pos}
use borrow.Author.Rules.{rules}
use Rattle.curve.specs.Levers.{g as gOf}
use Rattle.curve.proofs.Machine.{back}
use Rattle.curve.proofs.Filling.{filled_none, filled_more, all_stations}
use Rattle.curve.proofs.levers.levers.Goals as goal

pub loop-i-init : goal.loop-i-init
loop-i-init c = (refl, filled_none _ _ _)

pub lever-requires : goal.lever-requires
lever-requires c = (c.requires.forms c.loop-i.i, c.requires.centre, search rules)

pub loop-i-preserved : goal.loop-i-preserved
unfolding gOf
loop-i-preserved c =
    (simp length-set c.loop-i.invariant.0, filled_more _ _ _ _ _ (search rules) c.loop-i.invariant.1 (back c.lever.result c.lever.type_inv ∙ c.lever.ensures))

pub returns : goal.returns
returns c =
    let l = c.loop-i in
    let e : l.i ≡ 13 = omega arith in
    all_stations (pos 0) _ _ l.invariant.0 (rw e at l.invariant.1)
