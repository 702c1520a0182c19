-- State by state.
use Rattle.reading.specs.Moved.{moved}
use Rattle.reading.proofs.state.State.moved.Goals as goal

pub returns-in-Awaited : goal.returns-in-Awaited
unfolding moved
returns-in-Awaited c = λ l F. rw (c.after_ship-state.ensures, c.ship.ensures l F, c.in-Awaited.is)

pub returns-in-Rows : goal.returns-in-Rows
unfolding moved
returns-in-Rows c = λ l F. rw (c.row_line.ensures l F, c.in-Rows.is)

pub returns-in-Conditions : goal.returns-in-Conditions
unfolding moved
returns-in-Conditions c = λ l F. rw (c.condition_line-state.ensures l F, c.in-Conditions.is)

pub returns-in-Refused : goal.returns-in-Refused
unfolding moved
returns-in-Refused c = λ l F. rw c.in-Refused.is
