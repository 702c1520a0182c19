-- `criteria::Measures::heel` meets its contract: phi0, or -1 where there is none. Assumes nothing.
use mathlib.Core.Path.{ap, sym, ◌∙◌}
use native.Mathlib.Omega.{arith}
use mir.Syntax.{w64}
use mir.Facts.{to_z_pos}
use Rattle.rules.specs.Criteria.{phi0}
use Rattle.rules.specs.Curve.{E}
use Rattle.book.specs.Book.{loaded_of}
use Rattle.gust.specs.declared.Wind.{Wind}
use Rattle.curve.proofs.Curves.{fair_end}
use Rattle.curve.proofs.Steps.{some_within}
use Rattle.criteria.proofs.Judgement.{heel_some}
use Rattle.criteria.proofs.measures.Measures.heel.Goals as goal

pub overflow_cast-result : goal.overflow_cast-result
overflow_cast-result c =
    let m = c.args.self.now in
    let ship = loaded_of m.ship.loaded in
    let p = some_within (E ship) (phi0 ship) c.in-Some.phi0 (sym c.in-Some.is ∙ ap (λ (w : Wind). w.phi0) m.blown) in
    record { sfits = omega (arith, p.0, p.1, fair_end ship m.ship.fair) }

pub returns-in-Some : goal.returns-in-Some
returns-in-Some c =
    let m = c.args.self.now in
    let ship = loaded_of m.ship.loaded in
    let e = sym c.in-Some.is ∙ ap (λ (w : Wind). w.phi0) m.blown in
    let p = some_within (E ship) (phi0 ship) c.in-Some.phi0 e in
    to_z_pos w64 (omega (arith, p.0, p.1, fair_end ship m.ship.fair)) ∙ heel_some ship c.in-Some.phi0 e
