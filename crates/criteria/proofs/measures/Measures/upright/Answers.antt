-- `criteria::Measures::upright` meets its contract: each test is one of criterion 7's, over any set. Assumes nothing.
use mathlib.Core.Path.{ap, sym, ◌∙◌}
use native.Mathlib.Omega.{arith}
use Rattle.rules.specs.Blocks.{weather}
use Rattle.rules.proofs.layout.Fields.{ok_at}
use Rattle.book.specs.Book.{loaded_of}
use Rattle.gust.specs.declared.Wind.{Wind}
use Rattle.criteria.proofs.Judgement.{seven_none, seven_far, seven_edge, seven_free}
use Rattle.criteria.proofs.measures.Measures.upright.Goals as goal

pub returns-in_default : goal.returns-in_default
returns-in_default c = let m = c.args.self.now in seven_none (loaded_of m.ship.loaded) (sym c.in_default.is ∙ ap (λ (w : Wind). w.phi0) m.blown)

pub returns-then-set-phi0 : goal.returns-then-set-phi0
returns-then-set-phi0 c =
    let m = c.args.self.now in
    seven_far (loaded_of m.ship.loaded) c.args.set c.requires _ (sym c.in-Some.is ∙ ap (λ (w : Wind). w.phi0) m.blown) c.if-set-phi0.true

pub overflow_mul-result-then-set : goal.overflow_mul-result-then-set
overflow_mul-result-then-set c =
    let ship = c.args.self.now.ship in record { fits = omega (arith, ok_at (weather (loaded_of ship.loaded).weather.set) _ ship.fair.sky 4) }

pub returns-then-set : goal.returns-then-set
returns-then-set c =
    let m = c.args.self.now in
    seven_edge (loaded_of m.ship.loaded) c.args.set c.requires _ (sym c.in-Some.is ∙ ap (λ (w : Wind). w.phi0) m.blown) c.if-set-phi0.false c.if-set.true

pub returns : goal.returns
returns c =
    let m = c.args.self.now in
    seven_free (loaded_of m.ship.loaded) c.args.set c.requires _ (sym c.in-Some.is ∙ ap (λ (w : Wind). w.phi0) m.blown) c.if-set-phi0.false c.if-set.false
