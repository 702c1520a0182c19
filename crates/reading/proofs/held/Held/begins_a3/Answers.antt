-- The first byte of the line is that of its front.
use mathlib.Core.Path.{◌≡◌, ◌∙◌}
use borrow.Author.Rules.{rules}
use Rattle.rules.specs.Layout.{is_condition}
use Rattle.reading.proofs.Fronts.{begins_alike}
use Rattle.reading.proofs.held.Held.begins_a3.Goals as goal

pub returns : goal.returns
returns c = λ l F. let e : c.eq.result ≡ is_condition c.args.self.front.now = search rules in e ∙ begins_alike _ _ l F
