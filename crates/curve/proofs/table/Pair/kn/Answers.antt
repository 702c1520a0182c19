-- `curve::table::Pair::kn` meets its contract: the stations passed are filled. Assumes nothing.
use mathlib.Core.Path.{◌≡◌, refl, ◌∙◌}
use native.Mathlib.Omega.{arith}
use lib.ListN.{length-set}
use borrow.Author.Rules.{rules}
use Rattle.book.specs.Book.{row_of}
use Rattle.curve.proofs.Limits.{kn_small}
use Rattle.curve.proofs.Filling.{filled_none, filled_more, all_stations}
use Rattle.curve.proofs.table.Pair.kn.Goals as goal

pub loop-i-init : goal.loop-i-init
loop-i-init c = (refl, filled_none _ _ _)

pub between-requires : goal.between-requires
between-requires c =
    let i = c.loop-i.i in
    let n = c.args.self.now.neighbours in
    (omega (arith, c.from.ensures, kn_small (row_of c.args.self.now.lower) n.lower i), omega (arith, c.from-in-loop-i.ensures, kn_small (row_of c.args.self.now.upper) n.upper i))

pub loop-i-preserved : goal.loop-i-preserved
loop-i-preserved c =
    let l = c.loop-i in
    (simp length-set l.invariant.0, filled_more _ _ _ _ _ (search rules) l.invariant.1 (c.between.ensures ∙ rw (c.from.ensures, c.from-in-loop-i.ensures)))

pub returns : goal.returns
returns c =
    let l = c.loop-i in
    let e : l.i ≡ 13 = omega arith in
    all_stations 0 _ _ l.invariant.0 (rw e at l.invariant.1)
