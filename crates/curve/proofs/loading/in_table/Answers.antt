-- `curve::loading::in_table` meets its contract: the first and the last row are those of the rules. Assumes nothing.
use borrow.Author.Tests.{le-leb, lt-leb}
use Rattle.curve.specs.Interpolation.{row_at}
use Rattle.curve.proofs.Rows.{in_table_at}
use Rattle.curve.proofs.loading.in_table.Goals as goal

pub returns-then-lowest-w : goal.returns-then-lowest-w
returns-then-lowest-w c =
    rw (in_table_at c.args.rows.now c.args.w, le-leb (row_at c.args.rows.now 0).mass c.args.w c.if-lowest-w.true)

pub returns-else-lowest-w : goal.returns-else-lowest-w
returns-else-lowest-w c =
    rw (in_table_at c.args.rows.now c.args.w, lt-leb (row_at c.args.rows.now 0).mass c.args.w c.if-lowest-w.false)
