-- `curve::table::Pair::between` meets its contract: W lies between the rows. Assumes nothing.
use Rattle.curve.proofs.Interpolation.{lies_between}
use Rattle.curve.proofs.table.Pair.between.Goals as goal

pub line-requires : goal.line-requires
line-requires c =
    let p = c.args.self.now in lies_between p.lower p.upper p.w p.neighbours _ _ c.requires.0 c.requires.1
