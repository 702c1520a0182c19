-- A limit of one's own: a text longer than it is refused with 1, and any other is answered as with the library's limit; and how many bytes are written.
use mathlib.Core.Path.{◌≡◌, ap, ◌∙◌, sym}
use mathlib.Core.List.{List}
use mathlib.Core.Logic.{◌≢◌}
use Prim.Native.Nat.{ℕ, ◌+◌, ◌*◌, ◌≤◌, ◌<◌}
use native.Mathlib.Omega.{arith}
use native.Mathlib.Decide.{dec_le}
use lib.Dec.{leb}
use lib.ListN.{length, drop}
use lib.Seq.{take_at, drop_at}
use borrow.Author.Tests.{le-leb, lt-leb}
use Rattle.rules.specs.Layout.{most_characters, condition_lines}
use Rattle.rules.specs.Outcome.{refused, test, ◌>>=◌, ◌>>◌}
use Rattle.rules.specs.Report.{no_judgement, report, report_length}
use Rattle.rules.specs.Booklet.{counted_lines, book_frames}
use Rattle.rules.specs.Answer.{report_of, taken, number_for, sent, over, number, bytes_sent, written, room, limited}
use Rattle.rules.proofs.walk.Outcome.{test_got, test_refused}
use Rattle.rules.proofs.answer.Steps.{report_refused}
use Rattle.rules.proofs.answer.Length.{refusal_length}
use Rattle.rules.proofs.booklet.Counted.{counted_lines_steps}
use Rattle.rules.proofs.booklet.Sent.{number_taken, bytes_taken, written_taken, taken_steps, uncounted}
use Rattle.rules.proofs.booklet.Room as rooms
use Rattle.instrument.specs.Reported.{report_in, RefusedWhole, EachAnswered}
use Rattle.instrument.proofs.Replies.{read_back}

-- ---- a text within the limit
-- What is taken of a text depends on the limit by its lines alone.
module _ (t buffer : List ℕ) where
  module _ (most : ℕ) (h : length t ≤ most) where
    same_lines : Dec (length t ≤ most_characters) → counted_lines (limited most) t ≡ counted_lines most_characters t
    same_lines (yes g) = counted_lines_steps (limited most) t ∙ test_got _ _ _ _ (le-leb (length t) (limited most) (omega arith)) ∙ sym (counted_lines_steps most_characters t ∙ test_got _ _ _ _ (le-leb _ _ g))
    same_lines (no g) = let e : limited most ≡ most_characters = omega arith in rw e

    same_taken : taken (limited most) (length buffer) t ≡ taken most_characters (length buffer) t
    same_taken =
        let n = length buffer in
        taken_steps (limited most) t buffer
        ∙ ap (λ a. test (leb report_length n) 9 0 0 >> (a >>= λ ls. test (leb (report_length * condition_lines ls) n) 9 0 0 >> book_frames ls)) (same_lines (dec_le (length t) most_characters))
        ∙ sym (taken_steps most_characters t buffer)

    pub within_same : (number (limited most) t buffer ≡ number most_characters t buffer) × (bytes_sent (limited most) t buffer ≡ bytes_sent most_characters t buffer) × (written (limited most) t buffer ≡ written most_characters t buffer)
    within_same = (
      number_taken (limited most) t buffer ∙ ap number_for same_taken ∙ sym (number_taken most_characters t buffer),
      bytes_taken (limited most) t buffer ∙ ap (λ a. report_length * length (sent a)) same_taken ∙ sym (bytes_taken most_characters t buffer),
      written_taken (limited most) t buffer ∙ ap (λ a. over (sent a) buffer) same_taken ∙ sym (written_taken most_characters t buffer),
    )

  -- ---- a longer one
  module _ (most : ℕ) (h : most < length t) (g : report_length ≤ length buffer) where
    pub too_long : (number (limited most) t buffer ≡ 1) × (bytes_sent (limited most) t buffer ≡ report_length)
        × (report_in 0 (written (limited most) t buffer) ≡ report 1 0 0 no_judgement) × (drop report_length (written (limited most) t buffer) ≡ drop report_length buffer)
    unfolding report
    too_long =
        let u = uncounted (limited most) t buffer g {n = 1} {l = 0} {o = 0} (counted_lines_steps (limited most) t ∙ test_refused _ _ _ _ (lt-leb (length t) (limited most) (omega arith))) in
        let L = refusal_length 1 0 0 in (
          u.numbered,
          u.long,
          ap (report_in 0) u.holds ∙ take_at (report_of (refused 1 0 0)) (drop report_length buffer) report_length L ∙ report_refused 1 0 0,
          ap (drop report_length) u.holds ∙ drop_at (report_of (refused 1 0 0)) (drop report_length buffer) report_length L,
        )

-- ---- how many bytes are written
-- As many as the reports are, and none with 9.
pub bytes_told : (t before : List ℕ) (n : ℕ) (after : List ℕ) → n ≡ number most_characters t before → after ≡ written most_characters t before
    → (n ≡ 9 → bytes_sent most_characters t before ≡ 0)
    × (RefusedWhole t before n after → bytes_sent most_characters t before ≡ report_length)
    × ((x : EachAnswered t before n after) → bytes_sent most_characters t before ≡ report_length * length x.allowed.0.conditions)
bytes_told t before n after N W = (
  λ z. (rooms.without_room most_characters t before ((rooms.nine_iff_no_room most_characters t before).0 (sym N ∙ z))).long,
  λ x. (rooms.whole_refused most_characters t before (enough (λ z. omega (arith, x.unread))) x.refusal).long,
  λ x.
      let b = x.allowed.0 in
      let f = rooms.first_number_lem b.ship b.rows b.conditions (2 + length b.rows) in
      (rooms.whole_got most_characters t before (enough (λ z. omega (arith, x.numbered))) b (read_back x.allowed)).long,
)
  where
    enough : n ≢ 9 → room most_characters t ≤ length before
    enough d = go (dec_le (room most_characters t) (length before))
      where
        go : Dec (room most_characters t ≤ length before) → room most_characters t ≤ length before
        go (yes h) = h
        go (no h) = absurd (d (N ∙ (rooms.nine_iff_no_room most_characters t before).1 (omega arith)))
