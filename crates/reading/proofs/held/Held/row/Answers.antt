-- The head of a line, or the whole of it.
use mathlib.Core.Path.{ap, ◌∙◌}
use Rattle.rules.specs.Booklet.{row_at}
use Rattle.book.specs.Book.{answered, plain_row}
use Rattle.reading.proofs.Fronts.{front_whole, row_long}
use Rattle.reading.proofs.held.Held.row.Goals as goal

pub returns-then-self : goal.returns-then-self
returns-then-self c = λ l F. row_long _ _ l F _ c.if-self.true _ _ _ c.too_long.ensures

pub returns : goal.returns
returns c = λ l F. let a = c.args in c.row_frame.ensures ∙ ap (λ x. answered plain_row (row_at a.self.line a.rows a.last x)) (front_whole _ _ l F c.if-self.false)
