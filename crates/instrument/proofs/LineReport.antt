-- The report of a condition line by what the line says: it is refused there, or refused with 7 or 8, or judged.
use mathlib.Core.Path.{◌≡◌, refl, ap, sym, ◌∙◌}
use mathlib.Core.List.{List}
use mathlib.Core.Logic.{◌↔◌, ◌≢◌}
use Prim.Native.Nat.{ℕ, max, ◌≤◌, ◌<◌}
use native.Mathlib.Omega.{arith}
use lib.ListN.{length, get_or}
use Rattle.rules.specs.Numbers.{Bytes}
use Rattle.rules.specs.Blocks.{Ship, Row, condition_tag}
use Rattle.rules.specs.Layout.{Condition, Reading}
use Rattle.rules.specs.Outcome.{Ans, refused, got}
use Rattle.rules.specs.Loading.{weighed}
use Rattle.rules.specs.Curve.{loaded}
use Rattle.rules.specs.Report.{judgement, no_judgement, report}
use Rattle.rules.specs.Booklet.{condition_at}
use Rattle.rules.specs.Apart.{AllowedLine}
use Rattle.rules.specs.Answer.{judged, number_of, report_of, answer_of_line}
use Rattle.rules.proofs.walk.Outcome.{bind_got}
use Rattle.rules.proofs.answer.Steps.{judged_refused, judged_weighed, report_refused, report_judged}
use Rattle.rules.proofs.booklet.Refusals.{condition_at_refusal}
use Rattle.rules.proofs.booklet.Conditions.{condition_sound, answer_steps, answer_refused}
use Rattle.rules.proofs.booklet.Conditions as conditions
use Rattle.instrument.specs.Outside.{Outside, TooHigh, Neither}
use Rattle.instrument.specs.Reported.{HasNumber, RefusedLine}
use Rattle.instrument.proofs.Numbered.{number_reported, number_told}
use Rattle.instrument.proofs.Weighings.{weighed_cases, apart}

-- r is the report of the line l with the number ln, which begins with A3, in a booklet with this ship and these rows.
pub record Reports (s : Ship) (vs : List Row) (ln : ℕ) (l r : List ℕ) : Type 0 where
  pub tag : get_or l 0 0 ≡ condition_tag
  pub bytes : Bytes l
  pub reported : r ≡ report_of (answer_of_line s vs ln l)

-- What an allowed line says is read from it, in every line.
pub line_got : (ln : ℕ) {l : List ℕ} (c : AllowedLine l) → condition_at ln l ≡ got c.0
line_got ln {l} c = conditions.line_got ln l c

module _ {s : Ship} {vs : List Row} {ln : ℕ} {l r : List ℕ} (q : Reports s vs ln l r) where
  abbrev reading : Condition → Reading
  reading c = record { ship = s; rows = vs; condition = c }

  -- ---- what the line says
  pub by_line : {X : Type 0} → ((n o : ℕ) → (2 ≤ n) × (n ≤ 6) → o < max 1 (length l) → condition_at ln l ≡ refused n ln o → X) → (AllowedLine l → X) → X
  by_line {X} f g = go (condition_at ln l) refl
    where
      go : (a : Ans Condition) → condition_at ln l ≡ a → X
      go (refused n m o) e = let x = (condition_at_refusal ln l).holds n m o e in f n o x.0 (omega arith) (rw x.1 at e)
      go (got c) e = let x = condition_sound ln l c q.tag q.bytes e in g (c, x.0, x.1)

  pub of_reading : (c : Condition) → condition_at ln l ≡ got c → r ≡ report_of (judged (reading c))
  of_reading c e = q.reported ∙ ap report_of (answer_steps s vs ln l ∙ bind_got _ e)

  -- ---- its number
  numbered : HasNumber (number_of (answer_of_line s vs ln l)) r
  numbered = rw q.reported (number_reported (answer_of_line s vs ln l))

  pub number_of_reading : (c : AllowedLine l) → HasNumber (number_of (judged (reading c.0))) r
  number_of_reading c = rw (of_reading c.0 (line_got ln c)) (number_reported (judged (reading c.0)))

  pub has_refused : {n m o : ℕ} → answer_of_line s vs ln l ≡ refused n m o → HasNumber n r × (r ≡ report n m o no_judgement)
  unfolding report
  has_refused {n} {m} {o} e = (rw e at numbered, q.reported ∙ ap report_of e ∙ report_refused n m o)

  pub has_off : (c : AllowedLine l) {m : ℕ} → weighed (reading c.0) ≡ refused m 0 0 → HasNumber m r × (r ≡ report m 0 0 no_judgement)
  has_off c w = has_refused (answer_steps s vs ln l ∙ bind_got _ (line_got ln c) ∙ judged_refused _ w)

  pub has_judged : (c : AllowedLine l) → weighed (reading c.0) ≡ got tt → HasNumber 0 r × (r ≡ report 0 0 0 (judgement (loaded (reading c.0))))
  unfolding report
  has_judged c w =
      let e : answer_of_line s vs ln l ≡ got (judgement (loaded (reading c.0))) = answer_steps s vs ln l ∙ bind_got _ (line_got ln c) ∙ judged_weighed _ w in
      (rw e at numbered, q.reported ∙ ap report_of e ∙ report_judged _)

  pub one_number : (m n : ℕ) → m ≤ 8 → n ≤ 8 → HasNumber m r → HasNumber n r → m ≡ n
  one_number m n h g p p' = number_told m n h g (sym p ∙ p')

  -- ---- by mass and KG
  pub read_by : {X : Type 0} (c : AllowedLine l) → (Outside (reading c.0) → HasNumber 7 r → X) → (TooHigh (reading c.0) → HasNumber 8 r → X) → (Neither (reading c.0) → HasNumber 0 r → X) → X
  read_by c f g h = weighed_cases (reading c.0) (λ O w. f O (has_off c w).0) (λ T w. g T (has_off c w).0) (λ N w. h N (has_judged c w).0)

  -- What is judged was weighed.
  pub judged_by : {X : Type 0} → HasNumber 0 r → (c : AllowedLine l) → (weighed (reading c.0) ≡ got tt → X) → X
  judged_by z c f =
      weighed_cases (reading c.0)
      (λ _ w. absurd (let e = one_number 7 0 (omega arith) (omega arith) (has_off c w).0 z in omega arith))
      (λ _ w. absurd (let e = one_number 8 0 (omega arith) (omega arith) (has_off c w).0 z in omega arith))
      (λ _ w. f w)

  -- ---- which number
  refused_not : (m : ℕ) → (¬ ((2 ≤ m) × (m ≤ 6))) → m ≤ 8 → HasNumber m r → RefusedLine r → ⊥
  refused_not m M h p x = let e = one_number m x.0 h (omega (arith, x.2)) p x.3 in M (omega (arith, x.1, x.2))

  allowed_not : AllowedLine l → RefusedLine r → ⊥
  allowed_not c = read_by c
      (λ _ p. refused_not 7 (λ z. omega arith) (omega arith) p)
      (λ _ p. refused_not 8 (λ z. omega arith) (omega arith) p)
      (λ _ p. refused_not 0 (λ z. omega arith) (omega arith) p)

  refused_by : (n o : ℕ) → (2 ≤ n) × (n ≤ 6) → condition_at ln l ≡ refused n ln o → RefusedLine r
  refused_by n o h e = (n, h.0, h.1, (has_refused (answer_refused s vs ln l e)).0)

  pub refused_iff : (RefusedLine r ↔ (¬ AllowedLine l)) × ((¬ RefusedLine r) ↔ AllowedLine l)
  refused_iff = (
    (λ x c. allowed_not c x, λ no. by_line (λ n o h _ e. refused_by n o h e) (λ c. absurd (no c))),
    (λ no. by_line (λ n o h _ e. absurd (no (refused_by n o h e))) (λ c. c), λ c x. allowed_not c x),
  )

  module _ (P : Reading → Type 0) (m : ℕ) (M : ¬ ((2 ≤ m) × (m ≤ 6))) (h : m ≤ 8) (to : (c : AllowedLine l) → HasNumber m r → P (reading c.0)) (from : (c : AllowedLine l) → P (reading c.0) → HasNumber m r) where
    exactly : HasNumber m r ↔ ((c : AllowedLine l) × P (reading c.0))
    exactly = (
      λ p. by_line (λ n o g _ e. absurd (refused_not m M h p (refused_by n o g e))) (λ c. (c, to c p)),
      λ x. from x.0 x.1,
    )

  differ : {X : Type 0} (m n : ℕ) → m ≤ 8 → n ≤ 8 → m ≢ n → HasNumber m r → HasNumber n r → X
  differ m n h g d p p' = absurd (d (one_number m n h g p p'))

  pub number_7 : HasNumber 7 r ↔ ((c : AllowedLine l) × Outside (reading c.0))
  number_7 =
      exactly Outside 7 (λ z. omega arith) (omega arith)
      (λ c p. read_by c (λ O _. O) (λ _ p'. differ 7 8 (omega arith) (omega arith) (λ z. omega arith) p p') (λ _ p'. differ 7 0 (omega arith) (omega arith) (λ z. omega arith) p p'))
      (λ c O. read_by c (λ _ p. p) (λ T _. absurd (apart (reading c.0) O T.0)) (λ T _. absurd (apart (reading c.0) O T.0)))

  pub number_8 : HasNumber 8 r ↔ ((c : AllowedLine l) × TooHigh (reading c.0))
  number_8 =
      exactly TooHigh 8 (λ z. omega arith) (omega arith)
      (λ c p. read_by c (λ _ p'. differ 8 7 (omega arith) (omega arith) (λ z. omega arith) p p') (λ T _. T) (λ _ p'. differ 8 0 (omega arith) (omega arith) (λ z. omega arith) p p'))
      (λ c T. read_by c (λ O _. absurd (apart (reading c.0) O T.0)) (λ _ p. p) (λ U _. absurd (omega arith)))

  pub number_0 : HasNumber 0 r ↔ ((c : AllowedLine l) × Neither (reading c.0))
  number_0 =
      exactly Neither 0 (λ z. omega arith) (omega arith)
      (λ c p. read_by c (λ _ p'. differ 0 7 (omega arith) (omega arith) (λ z. omega arith) p p') (λ _ p'. differ 0 8 (omega arith) (omega arith) (λ z. omega arith) p p') (λ T _. T))
      (λ c T. read_by c (λ O _. absurd (apart (reading c.0) O T.0)) (λ U _. absurd (omega arith)) (λ _ p. p))
