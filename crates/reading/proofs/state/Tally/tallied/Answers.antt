-- A condition line, or another.
use Rattle.reading.proofs.state.Tally.tallied.Goals as goal

pub returns-then-begins_a3 : goal.returns-then-begins_a3
returns-then-begins_a3 c = λ l F. rw (← (c.begins_a3.ensures l F), c.if-begins_a3.true, c.one_more.ensures)

pub returns-else-begins_a3 : goal.returns-else-begins_a3
returns-else-begins_a3 c = λ l F. rw (← (c.begins_a3.ensures l F), c.if-begins_a3.false)
