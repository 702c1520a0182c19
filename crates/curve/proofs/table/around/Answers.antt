-- `curve::table::around` meets its contract: the first heavier row, or the last. Assumes nothing.
use Rattle.curve.proofs.Rows.{at_position}
use Rattle.curve.proofs.table.around.Goals as goal

pub returns : goal.returns
returns c = rw c.unwrap_or.ensures (at_position c.args.rows.now c.args.w c.requires.0 c.requires.1 _ c.heavier.ensures)
