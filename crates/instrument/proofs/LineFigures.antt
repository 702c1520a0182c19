-- The verdicts and figures in the report of a condition line: those of its reading where it is judged, and 3 on a refusal.
use mathlib.Core.Path.{◌≡◌, refl, ap, sym, ◌∙◌}
use mathlib.Core.List.{List, [], ◌∷◌}
use Prim.Native.Nat.{ℕ, suc, ◌+◌, ◌-◌, ◌<◌, ◌*◌}
use native.Mathlib.Omega.{arith}
use lib.IntN.{pos}
use lib.ListN.{get_or, get_or-replicate, length-map}
use Rattle.rules.specs.Rounding.{ceil}
use Rattle.rules.specs.Numbers.{digits, twos}
use Rattle.rules.specs.Text.{hex}
use Rattle.rules.specs.Blocks.{Ship, Row}
use Rattle.rules.specs.Layout.{Condition, Reading}
use Rattle.rules.specs.Outcome.{got}
use Rattle.rules.specs.Loading.{tenths, mass, moment, free_surface, weighed}
use Rattle.rules.specs.Leaves.{sum_leaves}
use Rattle.rules.specs.Curve.{loaded, loaded_in}
use Rattle.rules.specs.Report.{Verdict, void, verdict_number, judgement, no_judgement, report}
use Rattle.rules.specs.Columns.{figure_in, slot_of, verdict_in}
use Rattle.rules.specs.Apart.{AllowedLine}
use Rattle.rules.proofs.answer.Length.{judgement_length}
use Rattle.rules.proofs.answer.Columns.{figure_column, slot_column}
use Rattle.rules.proofs.loading.Sums.{displacement_leaves, corrected_kg_leaves}
use Rattle.instrument.specs.Reported.{HasNumber}
use Rattle.instrument.proofs.LineReport.{Reports, has_judged, judged_by}

-- On a refusal each verdict is 3.
pub verdict_refused : {r : List ℕ} (n l o : ℕ) → r ≡ report n l o no_judgement → (i : ℕ) → i < 8 → verdict_in (suc i) r ≡ hex (verdict_number void ∷ [])
unfolding report
verdict_refused n l o e i k =
    let d : suc i - 1 ≡ i = omega arith in
    let three : slot_of (suc i) no_judgement ≡ void = rw d (get_or-replicate 8 i void void k) in
    ap (verdict_in (suc i)) e ∙ slot_column n l o no_judgement refl refl i k ∙ ap (λ (v : Verdict). hex (verdict_number v ∷ [])) three

module _ {s : Ship} {vs : List Row} {ln : ℕ} {l r : List ℕ} (q : Reports s vs ln l r) where
  abbrev reading : Condition → Reading
  reading c = record { ship = s; rows = vs; condition = c }

  module _ (c : AllowedLine l) (w : weighed (reading c.0) ≡ got tt) where
    pub verdict_is : (i : ℕ) → i < 8 → verdict_in (suc i) r ≡ hex (verdict_number (slot_of (suc i) (judgement (loaded (reading c.0)))) ∷ [])
    unfolding report
    verdict_is i k =
        let j = judgement (loaded (reading c.0)) in
        let L = judgement_length (loaded (reading c.0)) in
        ap (verdict_in (suc i)) (has_judged q c w).1 ∙ slot_column 0 0 0 j (sym (length-map j.verdicts verdict_number) ∙ L.0) L.1 i k

    pub figure_is : (i : ℕ) → i < 11 → figure_in i r ≡ hex (digits 8 (twos (get_or (judgement (loaded (reading c.0))).figures i (pos 0))))
    unfolding report
    figure_is i k =
        let L = judgement_length (loaded (reading c.0)) in
        ap (figure_in i) (has_judged q c w).1 ∙ figure_column 0 0 0 _ _ L.0 L.1 i k

    W-figure : figure_in 0 r ≡ hex (digits 8 (sum_leaves mass c.0.load))
    unfolding judgement loaded_in
    W-figure = figure_is 0 (omega arith) ∙ ap (λ (n : ℕ). hex (digits 8 n)) (displacement_leaves c.0.load)

    KG-figure : figure_in 1 r ≡ hex (digits 8 (ceil (10 * (sum_leaves moment c.0.load + sum_leaves free_surface c.0.load)) (sum_leaves mass c.0.load)))
    unfolding judgement loaded_in
    KG-figure = figure_is 1 (omega arith) ∙ ap (λ (n : ℕ). hex (digits 8 n)) (corrected_kg_leaves tenths c.0.load)

  pub figures_of_leaves : HasNumber 0 r → (c : AllowedLine l) → (figure_in 0 r ≡ hex (digits 8 (sum_leaves mass c.0.load)))
      × (figure_in 1 r ≡ hex (digits 8 (ceil (10 * (sum_leaves moment c.0.load + sum_leaves free_surface c.0.load)) (sum_leaves mass c.0.load))))
  figures_of_leaves z c = judged_by q z c (λ w. (W-figure c w, KG-figure c w))
