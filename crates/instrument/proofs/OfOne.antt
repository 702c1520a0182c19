-- A text of one condition, as a booklet of one: it is answered as `answered` says; and so is every text of which no line but the last begins with A3.
use mathlib.Core.Path.{◌≡◌, refl, ap, sym, ◌∙◌}
use mathlib.Core.Bool.{Bool, true, false}
use mathlib.Core.List.{List, [], ◌∷◌}
use Prim.Native.Nat.{ℕ, ◌*◌}
use native.Mathlib.Omega.{arith}
use lib.Dec.{eqb}
use lib.ListN.{length, drop, get_or}
use borrow.Author.Tests.{eqb-true}
use Rattle.rules.specs.Numbers.{Bytes}
use Rattle.rules.specs.Text.{text, Lines}
use Rattle.rules.specs.Blocks.{block, spell_block, ship, Row, row, condition_tag}
use Rattle.rules.specs.Layout.{Condition, Reading, spell_condition, row_frames, frames, spell_text, most_characters, Booklet}
use Rattle.rules.specs.Met.{behind_rows}
use Rattle.rules.specs.Outcome.{Ans, refused, got}
use Rattle.rules.specs.Walk.{read}
use Rattle.rules.specs.Report.{Judgement, report, report_length}
use Rattle.rules.specs.Booklet.{read_whole}
use Rattle.rules.specs.Apart.{BeginA3, spell_booklet, AllowedWhole, AllowedLine, line_at, reading_at, LastAlone}
use Rattle.rules.specs.Answer.{answered, number_of, report_of, answers, answer, first_number, room}
use Rattle.rules.proofs.layout.Lines.{lines_sound}
use Rattle.rules.proofs.walk.WholeText as texts
use Rattle.rules.proofs.booklet.Room.{room_read}
use Rattle.rules.proofs.answer.Steps.{report_refused}
use Rattle.rules.proofs.booklet.OfOne.{of_one, refused_last, one_of_last}
use Rattle.instrument.specs.Reported.{report_in}
use Rattle.instrument.proofs.Replies.{read_back, allowed, by_whole, Run, whole_sent, numbered_first, report_at, beyond_at}

-- ---- its answer
first_alone : (a : Ans Judgement) → first_number (a ∷ []) ≡ number_of a
unfolding first_number
first_alone a = go (eqb (number_of a) 0) refl
  where
    go : (c : Bool) → eqb (number_of a) 0 ≡ c → first_number (a ∷ []) ≡ number_of a
    go true p = rw (p, first_number) (sym (eqb-true (number_of a) 0 p))
    go false p = rw (p, first_number)

module _ {t : List ℕ} (a : AllowedWhole most_characters t) (one : length a.0.conditions ≡ 1) where
  answers_one : answers a.0 ≡ answered t ∷ []
  answers_one = of_one most_characters t a.0 (read_back a) (omega arith) one

  pub answer_one : answer a.0 0 ≡ answered t
  answer_one = ap (λ xs. get_or xs 0 (refused 0 0 0)) answers_one

  pub room_one : room most_characters t ≡ report_length
  room_one = room_read most_characters t a.0 (read_back a) ∙ ap (report_length *◌) one

  pub sent_one : {before : List ℕ} {n : ℕ} {after : List ℕ} → Run t before n after → (n ≡ number_of (answered t)) × (report_in 0 after ≡ report_of (answered t))
  sent_one run = (
    numbered_first run a ∙ ap first_number answers_one ∙ first_alone (answered t),
    report_at run a 0 (omega arith) ∙ ap report_of answer_one,
  )

  pub beyond_one : {before : List ℕ} {n : ℕ} {after : List ℕ} → Run t before n after → drop report_length after ≡ drop report_length before
  beyond_one run = rw one at (beyond_at run a)

-- Refused or read, a text of which no line but the last begins with A3.
pub sent_last : {t before : List ℕ} {n : ℕ} {after : List ℕ} → LastAlone t → Run t before n after → (n ≡ number_of (answered t)) × (report_in 0 after ≡ report_of (answered t)) × (drop report_length after ≡ drop report_length before)
unfolding report
sent_last {t} last run = by_whole
    (λ m l h e. let s = whole_sent run m l 0 e in let a = refused_last t last e in (s.0 ∙ sym (ap number_of a), s.1 ∙ sym (ap report_of a ∙ report_refused m l 0), s.2))
    (λ a. let one = one_of_last t last a.0 (read_back a) in let s = sent_one a one run in (s.0, s.1, beyond_one a one run))

-- Whether what is read is a booklet of one.
abbrev pub is_one : Ans Booklet → Bool
is_one (refused n l o) = false
is_one (got b) = eqb (length b.conditions) 1

pub one_read : (t : List ℕ) → is_one (read_whole most_characters t) ≡ true → (a : AllowedWhole most_characters t) × (length a.0.conditions ≡ 1)
one_read t e = go (read_whole most_characters t) refl
  where
    go : (x : Ans Booklet) → read_whole most_characters t ≡ x → (a : AllowedWhole most_characters t) × (length a.0.conditions ≡ 1)
    go (refused n l o) q = absurd (let z : ◌≡◌ {A = Bool} false true = ap is_one (sym q) ∙ e in let y : ◌≡◌ {A = ℕ} 0 1 = cc in omega arith)
    go (got b) q = (allowed b q, eqb-true _ _ (ap is_one (sym q) ∙ e))

-- ---- what an allowed text of one condition says
rows_frames : (vs : List Row) (c : Condition) → behind_rows vs (block condition_tag (spell_condition c) ∷ []) ≡ row_frames vs c
unfolding behind_rows row_frames
rows_frames [] c = refl
rows_frames (v ∷ vs) c = ap (spell_block row v ∷◌) (rows_frames vs c)

last_bytes : (vs : List Row) (c : Condition) → Lines (row_frames vs c) → Bytes (block condition_tag (spell_condition c))
unfolding row_frames Lines
last_bytes [] c B = B.1
last_bytes (v ∷ vs) c B = last_bytes vs c B.2

pub of_reading : (t : List ℕ) (r : Reading) → read t ≡ got r → (a : AllowedWhole most_characters t) × (c : AllowedLine (line_at a.0 0)) × (reading_at a.0 c.0 ≡ r)
unfolding spell_booklet spell_text frames Lines BeginA3 block
of_reading t r e =
    let S = texts.sound t r e in
    let w = S.0 in
    let l = block condition_tag (spell_condition r.condition) in
    let b : Booklet = record { ship = r.ship; rows = r.rows; conditions = l ∷ [] } in
    let p : spell_booklet b ≡ spell_text r = ap (λ ls. text (spell_block ship r.ship ∷ ls)) (rows_frames r.rows r.condition) in
    let L = (lines_sound 1 t (frames r) (texts.lines_of_reading t r e)).1 in (
      (b, record { hull = w.hull; rising = w.rising; no_slips = texts.unslipped t r e; few = w.few; many = w.many; begin = (refl, last_bytes r.rows r.condition L.2, tt); some = omega arith; at_most = omega arith; long = omega (arith, ap length p, w.long) }, p ∙ S.1),
      (r.condition, w.loaded, refl),
      refl,
    )
