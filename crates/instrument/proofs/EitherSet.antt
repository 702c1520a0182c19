-- What the promises of request 2 rest on: which slots of a report read 4, and the reports of a condition line with a C1 and of one with a C6 in its place.
use mathlib.Core.Path.{◌≡◌, refl, ap, sym, ◌∙◌}
use mathlib.Core.Logic.{◌↔◌, ◌≢◌}
use mathlib.Core.List.{List, [], ◌∷◌}
use Prim.Native.Nat.{ℕ, suc, ◌-◌, ◌≤◌, ◌<◌}
use native.Mathlib.Omega.{arith}
use lib.IntN.{ℤ, pos}
use lib.ListN.{get_or}
use Rattle.rules.specs.Numbers.{digits, twos}
use Rattle.rules.specs.Text.{hex}
use Rattle.rules.specs.Blocks.{Ship, Row, Set, code, timber}
use Rattle.rules.specs.Layout.{Condition, Reading}
use Rattle.rules.specs.Outcome.{refused, got}
use Rattle.rules.specs.Loading.{weighed, weighed_in}
use Rattle.rules.specs.Curve.{loaded, loaded_in, y}
use Rattle.rules.specs.Criteria.{angle_of_greatest}
use Rattle.rules.specs.Columns.{figure_in, slot_of, verdict_in}
use Rattle.rules.specs.Report.{Verdict, pass, void, unused, verdict_number, Judgement, judgement, no_judgement, report}
use Rattle.rules.specs.Timber.{condition_by, reading_by, loaded_by, UnusedSlot, EasedSlot, slot3, slot6, slot7}
use Rattle.rules.specs.Booklet.{condition_at}
use Rattle.rules.specs.Apart.{AllowedLine}
use Rattle.rules.proofs.answer.Columns.{verdict_written}
use Rattle.rules.proofs.criteria.Angles.{timber_lever}
use Rattle.rules.proofs.criteria.EitherSet.{unused_iff, figures_but_four, eighth_slot, code_as_timber}
use Rattle.rules.proofs.booklet.Conditions.{condition_sound, answer_refused}
use Rattle.instrument.specs.Reported.{number_in, HasNumber, SameButLine}
use Rattle.instrument.proofs.Weighings.{weighed_cases}
use Rattle.instrument.proofs.LineReport.{Reports, line_got, by_line, has_refused, has_off, has_judged, judged_by, number_0}
use Rattle.instrument.proofs.LineFigures.{verdict_refused, verdict_is, figure_is}
use Rattle.instrument.proofs.TwoLines.{alike_number, alike_but_line}

-- What is judged is in the set of the reading; and in another set, the same in that set.
set_of_lem : (r : Reading) → (loaded r).weather.set ≡ r.condition.weather.set
unfolding loaded_in
set_of_lem r = refl

loaded_in_lem : (s : Set) (r : Reading) → loaded (reading_by s r) ≡ loaded_by s (loaded r)
unfolding loaded_in
loaded_in_lem s r = refl

weighed_in_lem : (s : Set) (r : Reading) → weighed (reading_by s r) ≡ weighed r
unfolding weighed_in
weighed_in_lem s r = refl

-- ---- slots that read 4
module _ {s : Ship} {vs : List Row} {ln : ℕ} {l r : List ℕ} (q : Reports s vs ln l r) where
  abbrev reading : Condition → Reading
  reading c = record { ship = s; rows = vs; condition = c }

  abbrev Four : ℕ → Type 0
  Four k = HasNumber 0 r × ((c : AllowedLine l) × (c.0.weather.set ≡ timber)) × UnusedSlot k

  -- A refusal's slots read 3.
  not_refused : (n m o : ℕ) → r ≡ report n m o no_judgement → (i : ℕ) → i < 8 → verdict_in (suc i) r ≡ hex (4 ∷ []) → ⊥
  not_refused n m o e i k p =
      let v = verdict_written void unused (sym (verdict_refused n m o e i k) ∙ p) in
      let z : ◌≡◌ {A = ℕ} 0 1 = cc in
      omega arith

  to_four : (i : ℕ) → i < 8 → verdict_in (suc i) r ≡ hex (4 ∷ []) → Four (suc i)
  to_four i k p =
      by_line q (λ n o _ _ e. absurd (not_refused n ln o (has_refused q (answer_refused s vs ln l e)).1 i k p)) (λ c.
      weighed_cases (reading c.0)
      (λ _ w. absurd (not_refused 7 0 0 (has_off q c w).1 i k p))
      (λ _ w. absurd (not_refused 8 0 0 (has_off q c w).1 i k p))
      (λ _ w.
      let u = (unused_iff (loaded (reading c.0)) i k).0 (verdict_written _ unused (sym (verdict_is q c w i k) ∙ p)) in
      ((has_judged q c w).0, (c, sym (set_of_lem (reading c.0)) ∙ u.0), u.1)))

  from_four : (i : ℕ) → i < 8 → Four (suc i) → verdict_in (suc i) r ≡ hex (4 ∷ [])
  from_four i k f =
      let c = f.1.0 in
      judged_by q f.0 c (λ w.
      verdict_is q c w i k ∙ ap (λ (v : Verdict). hex (verdict_number v ∷ [])) ((unused_iff (loaded (reading c.0)) i k).1 (set_of_lem (reading c.0) ∙ f.1.1, f.2)))

  pub unused_sent : (i : ℕ) → 1 ≤ i → i ≤ 8 → (verdict_in i r ≡ hex (4 ∷ [])) ↔ Four i
  unused_sent i low high = let e : i ≡ suc (i - 1) = omega arith in rw e (to_four (i - 1) (omega arith), from_four (i - 1) (omega arith))

  -- With timber on deck slot 4's figure is the lever at the angle that slot 5's figure gives.
  pub lever_sent : HasNumber 0 r → (c : AllowedLine l) → c.0.weather.set ≡ timber
      → (figure_in 6 r ≡ hex (digits 8 (twos (y (loaded (reading c.0)) (pos (angle_of_greatest (loaded (reading c.0))))))))
      × (figure_in 7 r ≡ hex (digits 8 (angle_of_greatest (loaded (reading c.0)))))
  unfolding judgement
  lever_sent z c t =
      judged_by q z c (λ w.
      (figure_is q c w 6 (omega arith) ∙ ap (λ (v : ℤ). hex (digits 8 (twos v))) (timber_lever (loaded (reading c.0)) (set_of_lem (reading c.0) ∙ t)), figure_is q c w 7 (omega arith)))

-- ---- a line, and the same in the timber set
module _ {s : Ship} {vs : List Row} {ln ln' : ℕ} {l l' r r' : List ℕ} (q : Reports s vs ln l r) (q' : Reports s vs ln' l' r')
    (alike : (n m o : ℕ) → condition_at ln l ≡ refused n m o → condition_at ln' l' ≡ refused n ln' o)
    (in_timber : (c : Condition) → condition_at ln l ≡ got c → (c.weather.set ≡ code) × (condition_at ln l' ≡ got (condition_by timber c))) where
  abbrev by : AllowedLine l → Reading
  by c = record { ship = s; rows = vs; condition = c.0 }

  abbrev timbered : (c : AllowedLine l) → AllowedLine l'
  timbered c = let x = condition_sound ln l' (condition_by timber c.0) q'.tag q'.bytes (in_timber c.0 (line_got ln c)).1 in (condition_by timber c.0, x.0, x.1)

  pub said_in_timber : (c : AllowedLine l) → (c.0.weather.set ≡ code) × ((c' : AllowedLine l') × (c'.0 ≡ condition_by timber c.0))
  said_in_timber c = ((in_timber c.0 (line_got ln c)).0, (timbered c, refl))

  pub same_number : 1 ≤ ln → (number_in r ≡ number_in r') × ((¬ HasNumber 0 r) → SameButLine r r')
  same_number h =
      by_line q (λ n o _ _ e. let e' = alike n ln o e in (alike_number q q' n o e e', λ _. alike_but_line q q' n o e e' h)) (λ c.
      weighed_cases (by c) (λ _ w. unweighed c 7 w) (λ _ w. unweighed c 8 w) (λ _ w.
      ((has_judged q c w).0 ∙ sym (has_judged q' (timbered c) (weighed_in_lem timber (by c) ∙ w)).0, λ some. absurd (some (has_judged q c w).0))))
    where
      unweighed : (c : AllowedLine l) (m : ℕ) → weighed (by c) ≡ refused m 0 0 → (number_in r ≡ number_in r') × ((¬ HasNumber 0 r) → SameButLine r r')
      unweighed c m w =
          let x = has_off q c w in
          let x' = has_off q' (timbered c) {m = m} (weighed_in_lem timber (by c) ∙ w) in
          (x.0 ∙ sym x'.0, λ _. rw (x.1, x'.1) (record { front = refl; behind = refl }))

  module _ (c : AllowedLine l) (w : weighed (by c) ≡ got tt) where
    weighed' : weighed (reading_by timber (by c)) ≡ got tt
    weighed' = weighed_in_lem timber (by c) ∙ w

    -- Both are judged on one ship, in either set.
    by_code : loaded (by c) ≡ loaded_by code (loaded (by c))
    by_code = λ i. loaded_by ((set_of_lem (by c) ∙ (in_timber c.0 (line_got ln c)).0) i) (loaded (by c))

    either : {A : Type 0} (f : Judgement → A) → (f (judgement (loaded_by code (loaded (by c)))) ≡ f (judgement (loaded_by timber (loaded (by c))))) → f (judgement (loaded (by c))) ≡ f (judgement (loaded (reading_by timber (by c))))
    either f e = ap (λ c. f (judgement c)) by_code ∙ e ∙ sym (ap (λ c. f (judgement c)) (loaded_in_lem timber (by c)))

    figure_either : (i : ℕ) → i < 11 → i ≢ 6 → figure_in i r ≡ figure_in i r'
    figure_either i k h =
        figure_is q c w i k
        ∙ ap (λ (z : ℤ). hex (digits 8 (twos z))) (either (λ j. get_or j.figures i (pos 0)) (figures_but_four (loaded (by c)) code timber i h))
        ∙ sym (figure_is q' (timbered c) weighed' i k)

    -- A slot of the one report and of the other.
    module _ (i : ℕ) (k : i < 8) where
      slot_here : verdict_in (suc i) r ≡ hex (verdict_number (slot_of (suc i) (judgement (loaded (by c)))) ∷ [])
      slot_here = verdict_is q c w i k

      slot_there : verdict_in (suc i) r' ≡ hex (verdict_number (slot_of (suc i) (judgement (loaded (reading_by timber (by c))))) ∷ [])
      slot_there = verdict_is q' (timbered c) weighed' i k

      eased : EasedSlot (suc i) → verdict_in (suc i) r ≡ hex (1 ∷ []) → verdict_in (suc i) r' ≡ hex (1 ∷ [])
      eased e p =
          let x = verdict_written _ pass (sym slot_here ∙ p) in
          let v = code_as_timber (loaded (by c)) (suc i) e (sym (ap (λ c. slot_of (suc i) (judgement c)) by_code) ∙ x) in
          slot_there ∙ ap (λ (v : Verdict). hex (verdict_number v ∷ [])) (ap (λ c. slot_of (suc i) (judgement c)) (loaded_in_lem timber (by c)) ∙ v)

    eighth_either : verdict_in 8 r ≡ verdict_in 8 r'
    eighth_either =
        slot_here 7 (omega arith) ∙ ap (λ (v : Verdict). hex (verdict_number v ∷ [])) (either (slot_of 8) (eighth_slot (loaded (by c)) code refl ∙ sym (eighth_slot (loaded (by c)) timber refl)))
        ∙ sym (slot_there 7 (omega arith))

  module _ (z : HasNumber 0 r) where
    here : AllowedLine l
    here = ((number_0 q).0 z).0

    pub either_figures : ((i : ℕ) → i < 11 → i ≢ 6 → figure_in i r ≡ figure_in i r') × (verdict_in 8 r ≡ verdict_in 8 r')
    either_figures = judged_by q z here (λ w. (figure_either here w, eighth_either here w))

    pub eased_slots : (k : ℕ) → EasedSlot k → verdict_in k r ≡ hex (1 ∷ []) → verdict_in k r' ≡ hex (1 ∷ [])
    eased_slots k slot3 = judged_by q z here (λ w. eased here w 2 (omega arith) slot3)
    eased_slots k slot6 = judged_by q z here (λ w. eased here w 5 (omega arith) slot6)
    eased_slots k slot7 = judged_by q z here (λ w. eased here w 6 (omega arith) slot7)
