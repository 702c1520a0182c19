-- `criteria::Measures::figures` meets its contract: each figure is the rules', and the machine holds it. Assumes nothing.
use mathlib.Core.Path.{◌≡◌, refl, ap, sym, ◌∙◌}
use Prim.Native.Nat.{◌<◌, ◌^◌}
use native.Mathlib.Omega.{arith}
use lib.IntN.{ℤ}
use lib.Signed.{mag}
use mir.Syntax.{w64}
use mir.Val.{to_z, of_z}
use mir.Facts.{to_z_pos}
use Rattle.book.specs.Book.{loaded_of}
use Rattle.curve.proofs.Machine.{back}
use Rattle.roll.proofs.Limits.{sized}
use Rattle.criteria.specs.declared.righting.Righting.{Righting}
use Rattle.criteria.specs.declared.eighth.Eighth.{Eighth}
use Rattle.rules.proofs.criteria.EitherSet.{figures_are}
use Rattle.criteria.proofs.Judgement.{◌::◌, eighth_is}
use Rattle.criteria.proofs.measures.Measures.figures.Goals as goal

-- A figure as the machine holds it.
held : (z figure : ℤ) → mag z < 2 ^ 63 → z ≡ figure → to_z w64 (of_z w64 z) ≡ figure
held z figure h e = back z h ∙ e

pub overflow_cast-result : goal.overflow_cast-result
overflow_cast-result c = record { sfits = omega (arith, sized _ c.args.self.now.ship.fair) }

pub returns : goal.returns
returns c =
    let measured = c.args.self.now in
    let ship = loaded_of measured.ship.loaded in
    let small = sized ship measured.ship.fair in
    let r = measured.righting in
    let e = measured.rolled ∙ eighth_is ship in
    to_z_pos w64 (omega (arith, small))
    :: to_z_pos w64 (omega (arith, small))
    :: held r.gm _ (omega arith) (ap (λ (x : Righting). x.gm) measured.righted)
    :: held r.area1 _ (omega arith) (ap (λ (x : Righting). x.area1) measured.righted)
    :: held r.area2 _ (omega arith) (ap (λ (x : Righting). x.area2) measured.righted)
    :: held r.area3 _ (omega arith) (ap (λ (x : Righting). x.area3) measured.righted)
    :: held r.lever _ (omega arith) (ap (λ (x : Righting). x.lever) measured.righted)
    :: held r.angle _ (omega arith) (ap (λ (x : Righting). x.angle) measured.righted)
    :: held c.heel.result _ c.heel.type_inv c.heel.ensures
    :: held measured.eighth.roll _ (omega arith) (ap (λ (x : Eighth). x.roll) e)
    :: held measured.eighth.net _ (omega arith) (ap (λ (x : Eighth). x.net) e)
    :: refl
    ∙ sym (figures_are ship)
