-- No condition line is in its place, so that a row is due.
use Rattle.reading.proofs.Fronts.{not_in_place}
use Rattle.reading.proofs.state.row_line.Goals as goal

pub returns : goal.returns
returns c = λ l F. rw (not_in_place l c.args.rows _ (c.begins_a3.ensures l F) c.else-begins_a3.either, c.after_row.ensures, c.row.ensures l F)
