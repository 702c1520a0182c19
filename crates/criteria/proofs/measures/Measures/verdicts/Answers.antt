-- `criteria::Measures::verdicts` meets its contract: each verdict is that of its figure against the set's limit, and a slot that the set does not use says so. Assumes nothing.
use mathlib.Core.Path.{◌≡◌, refl, ap, ap₂, sym, ◌∙◌}
use mathlib.Core.List.{map}
use native.Mathlib.Omega.{arith}
use lib.Signed.{le_z}
use Rattle.rules.specs.Criteria.{uses, passes1, passes2, passes3, passes4, passes5, passes6, passes7}
use Rattle.rules.specs.Report.{slot, verdict, verdict8}
use Rattle.rules.proofs.criteria.EitherSet.{verdicts_are}
use Rattle.book.specs.Book.{loaded_of, verdict_of}
use Rattle.curve.proofs.Machine.{back}
use Rattle.criteria.specs.Figures.{least_of}
use Rattle.criteria.specs.declared.righting.Righting.{Righting}
use Rattle.criteria.specs.declared.sets.Criteria.{Criteria}
use Rattle.criteria.specs.declared.eighth.Eighth.{Eighth}
use Rattle.criteria.proofs.Judgement.{◌::◌, passed_is, lever_decides, eighth_is, held_least, slot_is, always, slot_used}
use Rattle.criteria.proofs.measures.Measures.verdicts.Goals as goal

pub returns : goal.returns
unfolding passes1 passes2 passes3 passes5 passes6
returns c =
    let m = c.args.self.now in
    let s = loaded_of m.ship.loaded in
    let a = always s.weather.set in
    let e = c.requires in
    let r = m.righted in
    let first : c.at_least.result ≡ verdict_of (slot (uses s 1) (verdict (passes1 s))) =
    c.at_least.ensures ∙ ap (least_of c.args.set.area1) (back m.righting.area1 (omega arith)) ∙ ap₂ (λ (x : Criteria) (y : Righting). least_of x.area1 y.area1) e r ∙ slot_is (uses s 1) _ _ in
    let second : c.at_least-2.result ≡ verdict_of (slot (uses s 2) (verdict (passes2 s))) =
    c.at_least-2.ensures ∙ ap (least_of c.args.set.area2) (back m.righting.area2 (omega arith)) ∙ ap₂ (λ (x : Criteria) (y : Righting). least_of x.area2 y.area2) e r ∙ slot_is (uses s 2) _ _ in
    let third : c.from.result ≡ verdict_of (slot (uses s 3) (verdict (passes3 s))) =
    c.from.ensures ∙ held_least c.args.set.area3 m.righting.area3 (omega arith) (omega arith) ∙ ap₂ (λ (x : Criteria) (y : Righting). verdict_of (verdict (le_z x.area3 y.area3))) e r ∙ slot_used (verdict (passes3 s)) a.third in
    let fourth : c.from-2.result ≡ verdict_of (slot (uses s 4) (verdict (passes4 s))) =
    c.from-2.ensures
    ∙ held_least c.args.set.lever m.righting.lever (omega arith) (omega arith)
    ∙ ap₂ (λ (x : Criteria) (y : Righting). verdict_of (verdict (le_z x.lever y.lever))) e r
    ∙ ap (λ passes. verdict_of (verdict passes)) (lever_decides s (omega arith))
    ∙ slot_used (verdict (passes4 s)) a.fourth in
    let fifth : c.at_least-3.result ≡ verdict_of (slot (uses s 5) (verdict (passes5 s))) =
    c.at_least-3.ensures ∙ ap (least_of c.args.set.angle) (back m.righting.angle (omega arith)) ∙ ap₂ (λ (x : Criteria) (y : Righting). least_of x.angle y.angle) e r ∙ slot_is (uses s 5) _ _ in
    let sixth : c.from-3.result ≡ verdict_of (slot (uses s 6) (verdict (passes6 s))) =
    c.from-3.ensures ∙ held_least c.args.set.gm m.righting.gm (omega arith) (omega arith) ∙ ap₂ (λ (x : Criteria) (y : Righting). verdict_of (verdict (le_z x.gm y.gm))) e r ∙ slot_used (verdict (passes6 s)) a.sixth in
    let seventh : c.from-4.result ≡ verdict_of (slot (uses s 7) (verdict (passes7 s))) =
    c.from-4.ensures ∙ passed_is _ ∙ ap (λ passes. verdict_of (verdict passes)) c.upright.ensures ∙ slot_used (verdict (passes7 s)) a.seventh in
    let eighth : m.eighth.verdict ≡ verdict_of (slot (uses s 8) (verdict8 s)) =
    ap (λ (l : Eighth). l.verdict) (m.rolled ∙ eighth_is s) ∙ slot_used (verdict8 s) a.eighth in
    first :: second :: third :: fourth :: fifth :: sixth :: seventh :: eighth :: refl
    ∙ sym (ap (map verdict_of) (verdicts_are s))
