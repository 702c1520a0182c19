-- What is left of the text, from the state, the rows and the tally reached so far, comes to what the whole comes to.
use lib.ListN.{length}
use Rattle.reading.proofs.Lines.{Reached}
use Rattle.reading.proofs.read_text.Given as goal

abbrev pub invariant-loop-read : goal.invariant-loop-read
invariant-loop-read l = Reached l.most l.text l.state l.rows l.line l.tally l.rest

abbrev pub decreases-loop-read : goal.decreases-loop-read
decreases-loop-read l = length l.rest
