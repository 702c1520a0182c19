-- Every byte of the buffer: report k stands in its own 209 characters, and what lies behind the last is as it was.
use mathlib.Core.Path.{◌≡◌, refl, ap, sym, ◌∙◌}
use mathlib.Core.List.{List, [], ◌∷◌, ◌++◌, map}
use Prim.Native.Nat.{ℕ, ◌+◌, ◌*◌, ◌≤◌, ◌<◌}
use native.Mathlib.Omega.{arith}
use lib.ListN.{length, take, drop, length-map, get_or-map}
use lib.Seq.{drop-append_seam}
use Rattle.rules.specs.Blocks.{Ship, Row}
use Rattle.rules.specs.Layout.{Condition, Booklet}
use Rattle.rules.specs.Outcome.{Ans, refused, got}
use Rattle.rules.specs.Report.{concat, report_length}
use Rattle.rules.specs.Columns.{characters}
use Rattle.rules.specs.Booklet.{read_whole, condition_at}
use Rattle.rules.specs.Answer.{report_of, answer_of_line, answers_from, answers, answer, written, room}
use Rattle.rules.proofs.walk.Outcome.{bind_got, bind_refused}
use Rattle.rules.proofs.answer.Length.{Sized, sized_length, sized_part, refusal_length, judged_length}
use Rattle.rules.proofs.answer.Columns.{column_front}
use Rattle.rules.proofs.booklet.Conditions.{answer_steps}
use Rattle.rules.proofs.booklet.Sent.{answers_length}
use Rattle.rules.proofs.booklet.Room.{whole_got}

-- ---- 209 characters each
module _ (s : Ship) (vs : List Row) where
  pub answer_length : (ln : ℕ) (l : List ℕ) → length (report_of (answer_of_line s vs ln l)) ≡ report_length
  answer_length ln l = go (condition_at ln l) refl
    where
      go : (a : Ans Condition) → condition_at ln l ≡ a → length (report_of (answer_of_line s vs ln l)) ≡ report_length
      go (refused n m o) e = ap (λ x. length (report_of x)) (answer_steps s vs ln l ∙ bind_refused _ e) ∙ refusal_length n m o
      go (got c) e = ap (λ x. length (report_of x)) (answer_steps s vs ln l ∙ bind_got _ e) ∙ judged_length _

  pub reports_sized : (cs : List (List ℕ)) (ln : ℕ) → Sized report_length (map report_of (answers_from s vs ln cs))
  unfolding answers_from Sized
  reports_sized [] ln = tt
  reports_sized (l ∷ ls) ln = (answer_length ln l, reports_sized ls _)

module _ (b : Booklet) where
  abbrev reports : List (List ℕ)
  reports = map report_of (answers b)

  abbrev sized : Sized report_length reports
  sized = reports_sized b.ship b.rows b.conditions (2 + length b.rows)

  as_many : length reports ≡ length b.conditions
  as_many = length-map (answers b) report_of ∙ answers_length b.ship b.rows b.conditions (2 + length b.rows)

  pub reports_length : length (concat reports) ≡ report_length * length b.conditions
  reports_length = sized_length report_length reports sized ∙ ap (report_length *◌) as_many

  module _ (most : ℕ) (t buffer : List ℕ) (e : read_whole most t ≡ got b) (h : room most t ≤ length buffer) where
    -- Report k stands in its own 209 characters.
    pub report_stands : (k : ℕ) → k < length b.conditions → take report_length (drop (report_length * k) (written most t buffer)) ≡ report_of (answer b k)
    report_stands k l =
        ap (characters (report_length * k) report_length) (whole_got most t buffer h b e).holds
        ∙ column_front (concat reports) _ (report_length * k) report_length (omega (arith, reports_length))
        ∙ sized_part report_length reports sized (report_of (refused 0 0 0)) k (omega (arith, as_many)) ∙ get_or-map report_of (answers b) k (refused 0 0 0)

    -- 'Bytes beyond those written keep their values.'
    pub beyond_kept : drop (report_length * length b.conditions) (written most t buffer) ≡ drop (report_length * length b.conditions) buffer
    beyond_kept =
        ap (drop (report_length * length b.conditions)) (whole_got most t buffer h b e).holds
        ∙ ap (λ n. drop n (concat reports ++ drop (report_length * length b.conditions) buffer)) (sym reports_length) ∙ drop-append_seam (concat reports) _
