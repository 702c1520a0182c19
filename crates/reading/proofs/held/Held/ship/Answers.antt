-- The head of a line, or the whole of it.
use mathlib.Core.Path.{ap, ◌∙◌}
use Rattle.rules.specs.Walk.{ship_frame}
use Rattle.book.specs.Book.{answered, plain_ship}
use Rattle.reading.proofs.Fronts.{front_whole, ship_long}
use Rattle.reading.proofs.held.Held.ship.Goals as goal

pub returns-then-self : goal.returns-then-self
returns-then-self c = λ l F. ship_long _ _ l F _ c.if-self.true _ c.too_long.ensures

pub returns : goal.returns
returns c = λ l F. let a = c.args.self in c.ship_frame.ensures ∙ ap (λ x. answered plain_ship (ship_frame a.line x)) (front_whole _ _ l F c.if-self.false)
