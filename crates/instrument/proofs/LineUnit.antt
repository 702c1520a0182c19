-- The report of a condition line against the judgement with KG in millimetres, or in any unit: its number, what a KG that came out whole keeps, and the passes of 1 to 7.
use mathlib.Core.Path.{◌≡◌, ap, sym, ◌∙◌}
use mathlib.Core.List.{List, [], ◌∷◌}
use Prim.Native.Nat.{ℕ, zero, suc, ◌*◌, ◌≤◌, ◌<◌}
use native.Mathlib.Omega.{arith}
use Rattle.rules.specs.Text.{hex}
use Rattle.rules.specs.Blocks.{Ship, Row}
use Rattle.rules.specs.Layout.{Reading, Limits}
use Rattle.rules.specs.Loading.{millimetres, tenths, corrected_kg, entries_of}
use Rattle.rules.specs.Curve.{loaded_in}
use Rattle.rules.specs.Report.{Verdict, pass, verdict_number, judgement, report}
use Rattle.rules.specs.Columns.{slot_of, verdict_in}
use Rattle.rules.specs.Apart.{AllowedLine}
use Rattle.rules.specs.Answer.{judged_in, number_of}
use Rattle.rules.specs.Unit.{manifold}
use Rattle.rules.proofs.answer.EitherUnit.{weighed_alike, number_alike}
use Rattle.rules.proofs.answer.WholeKG.{judgement_alike}
use Rattle.earned.proofs.Promises.{tenths_never_harsher, gm_in_any_unit}
use Rattle.instrument.specs.Reported.{HasNumber}
use Rattle.instrument.proofs.LineReport.{Reports, number_of_reading, has_judged, judged_by}
use Rattle.instrument.proofs.LineFigures.{verdict_is}

module _ {s : Ship} {vs : List Row} {ln : ℕ} {l r : List ℕ} (q : Reports s vs ln l r) (c : AllowedLine l) where
  abbrev reading : Reading
  reading = record { ship = s; rows = vs; condition = c.0 }

  module _ (limits : Limits reading) where
    pub number_sent : HasNumber (number_of (judged_in millimetres reading)) r
    number_sent = rw (← number_alike tenths millimetres (omega arith) reading limits) (number_of_reading q c)

    pub whole_sent : HasNumber 0 r → (j : ℕ) → corrected_kg (entries_of reading) ≡ 10 * j → r ≡ report 0 0 0 (manifold 10 (judgement (loaded_in millimetres reading)))
    whole_sent z j e = judged_by q z c (λ w. (has_judged q c w).1 ∙ ap (report 0 0 0) (judgement_alike tenths millimetres (omega arith) reading limits (sym (weighed_alike tenths millimetres (omega arith) reading limits) ∙ w) j e))

    pub harsher_sent : HasNumber 0 r → (i : ℕ) → 1 ≤ i → i ≤ 7 → slot_of i (judgement (loaded_in millimetres reading)) ≡ pass → verdict_in i r ≡ hex (1 ∷ [])
    harsher_sent z zero low high p = absurd (omega arith)
    harsher_sent z (suc i) low high p = judged_by q z c (λ w. verdict_is q c w i (omega arith) ∙ ap (λ (v : Verdict). hex (verdict_number v ∷ [])) (tenths_never_harsher reading limits w (suc i) low high p))

    pub sixth_sent : HasNumber 0 r → (unit : ℕ) → 0 < unit → verdict_in 6 r ≡ hex (verdict_number (slot_of 6 (judgement (loaded_in unit reading))) ∷ [])
    sixth_sent z unit some = judged_by q z c (λ w. verdict_is q c w 5 (omega arith) ∙ ap (λ (v : Verdict). hex (verdict_number v ∷ [])) (gm_in_any_unit reading limits w tenths (omega arith) ∙ sym (gm_in_any_unit reading limits w unit some)))
