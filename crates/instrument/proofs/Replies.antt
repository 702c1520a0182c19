-- What a run of `judge` with room leaves: one report for the whole, or that of each condition line; and so what the promises rest on.
use mathlib.Core.Path.{◌≡◌, refl, ap, sym, ◌∙◌}
use mathlib.Core.List.{List}
use mathlib.Core.Logic.{◌↔◌, ◌≢◌, ◌⊎◌, inl, inr}
use Prim.Native.Nat.{ℕ, ◌+◌, ◌*◌, ◌≤◌, ◌<◌}
use native.Mathlib.Omega.{arith}
use lib.ListN.{length, drop}
use lib.Seq.{take_at, drop_at}
use Rattle.rules.specs.Layout.{most_characters, Booklet}
use Rattle.rules.specs.Outcome.{Ans, refused, got, Unread}
use Rattle.rules.specs.Report.{no_judgement, report, report_length}
use Rattle.rules.specs.Booklet.{read_whole}
use Rattle.rules.specs.Apart.{BeginA3, AllowedWhole, line_at, line_number}
use Rattle.rules.specs.Answer.{report_of, answers, answer, first_number, number, written, room}
use Rattle.rules.proofs.walk.Outcome.{refused_got}
use Rattle.rules.proofs.answer.Steps.{report_refused}
use Rattle.rules.proofs.answer.Length.{refusal_length}
use Rattle.rules.proofs.booklet.Refusals.{read_whole_refusal}
use Rattle.rules.proofs.booklet.WholeText.{sound}
use Rattle.rules.proofs.booklet.WholeText as whole
use Rattle.rules.proofs.booklet.Room.{whole_refused, whole_got, first_number_lem}
use Rattle.rules.proofs.booklet.Reports.{report_stands, beyond_kept}
use Rattle.rules.proofs.booklet.PlaceFits.{whole_fits}
use Rattle.rules.proofs.booklet.Alone.{begin_at, answer_at}
use Rattle.instrument.specs.Reported.{report_in, RefusedWhole, EachAnswered}
use Rattle.instrument.proofs.LineReport.{Reports}

-- ---- what is read
module _ {t : List ℕ} where
  pub read_back : (a : AllowedWhole most_characters t) → read_whole most_characters t ≡ got a.0
  read_back a = whole.read_back most_characters t a

  abbrev pub allowed : (b : Booklet) → read_whole most_characters t ≡ got b → AllowedWhole most_characters t
  allowed b e = let s = sound most_characters t b e in (b, s.0, s.1)

  pub by_whole : {X : Type 0} → ((m l : ℕ) → Unread m → read_whole most_characters t ≡ refused m l 0 → X) → (AllowedWhole most_characters t → X) → X
  by_whole {X} f g = go (read_whole most_characters t) refl
    where
      go : (a : Ans Booklet) → read_whole most_characters t ≡ a → X
      go (refused m l o) e = f m l ((read_whole_refusal most_characters t).holds m l o e) (rw (whole_fits most_characters t (omega arith) e).1 at e)
      go (got b) e = g (allowed b e)

-- ---- a run with room
pub record Run (t before : List ℕ) (n : ℕ) (after : List ℕ) : Type 0 where
  pub numbered : n ≡ number most_characters t before
  pub left : after ≡ written most_characters t before
  pub enough : room most_characters t ≤ length before

module _ {t before : List ℕ} {n : ℕ} {after : List ℕ} (run : Run t before n after) where
  -- A refusal for the whole.
  pub whole_sent : (m l o : ℕ) → read_whole most_characters t ≡ refused m l o → (n ≡ m) × (report_in 0 after ≡ report m l o no_judgement) × (drop report_length after ≡ drop report_length before)
  unfolding report
  whole_sent m l o e =
      let g = whole_refused most_characters t before run.enough e in
      let w = run.left ∙ g.holds in (
        run.numbered ∙ g.numbered,
        ap (report_in 0) w ∙ take_at (report_of (refused m l o)) (drop report_length before) report_length (refusal_length m l o) ∙ report_refused m l o,
        ap (drop report_length) w ∙ drop_at (report_of (refused m l o)) (drop report_length before) report_length (refusal_length m l o),
      )

  refused_whole : (m l : ℕ) → Unread m → read_whole most_characters t ≡ refused m l 0 → RefusedWhole t before n after
  refused_whole m l h e = let s = whole_sent m l 0 e in rw s.0 (record { line = l; refusal = e; unread = h; reported = s.1; beyond = s.2 })

  -- A report for each condition.
  module _ (a : AllowedWhole most_characters t) where
    pub numbered_first : n ≡ first_number (answers a.0)
    numbered_first = run.numbered ∙ (whole_got most_characters t before run.enough a.0 (read_back a)).numbered

    pub report_at : (k : ℕ) → k < length a.0.conditions → report_in k after ≡ report_of (answer a.0 k)
    report_at k h = ap (report_in k) run.left ∙ report_stands a.0 most_characters t before (read_back a) run.enough k h

    pub beyond_at : drop (report_length * length a.0.conditions) after ≡ drop (report_length * length a.0.conditions) before
    beyond_at = ap (drop (report_length * length a.0.conditions)) run.left ∙ beyond_kept a.0 most_characters t before (read_back a) run.enough

    answered_each : EachAnswered t before n after
    answered_each =
        let f = first_number_lem a.0.ship a.0.rows a.0.conditions (2 + length a.0.rows) in
        record { allowed = a; numbered = numbered_first; to8 = omega (arith, numbered_first); reported = report_at; beyond = beyond_at }

    pub line_report : (k : ℕ) → k < length a.0.conditions → Reports a.0.ship a.0.rows (line_number a.0 k) (line_at a.0 k) (report_in k after)
    unfolding BeginA3
    line_report k h = let B = begin_at a.0.conditions k a.1.begin h in record { tag = B.0; bytes = B.1; reported = report_at k h ∙ ap report_of (answer_at a.0 k h) }

  -- ---- one or the other
  pub every : (n ≤ 10) × (n ≢ 9) × (RefusedWhole t before n after ⊎ EachAnswered t before n after)
  every = by_whole
      (λ m l h e. let s = whole_sent m l 0 e in (omega (arith, s.0), omega (arith, s.0), inl (refused_whole m l h e)))
      (λ a. let x = answered_each a in (omega (arith, x.to8), omega (arith, x.to8), inr x))

  not_both : RefusedWhole t before n after → AllowedWhole most_characters t → ⊥
  not_both r a = refused_got (sym r.refusal ∙ read_back a)

  pub whole_iff : (RefusedWhole t before n after ↔ (¬ AllowedWhole most_characters t)) × (EachAnswered t before n after ↔ AllowedWhole most_characters t)
  whole_iff = (
    (not_both, λ no. by_whole refused_whole (λ a. absurd (no a))),
    (λ x. x.allowed, answered_each),
  )
